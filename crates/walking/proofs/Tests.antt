-- Tests of a walk: that of a `while`, one before a `break`, in a turn or at its end, one that returns; and what a test says. Assumes `Logic`.
use mathlib.Core.Path.{◌≡◌, refl}
use Prim.Native.Nat.{ℕ}
use mathlib.Core.Bool.{Bool, true, false, not}
use mathlib.Core.List.{List}
use seplogic.Ra.Ura.{Ura}
use lib.Dec.{T}
use mir.Syntax.{Opd as Operand, Body, seq, cond, skip, exit}
use mir.Val.{vbool}
use prog.Wp.{Env, Calls, Loops, Wp, after_seq, next, exits}
use types.Logic.{Logic}
use types.Kit.{Item, Post, any_q, post, Goal, prop, runs, Seq, ◌$◌}
use types.Run.{Opd, first, branches, skips, jumps}

pub is_so : (y : Bool) → T y → y ≡ true
is_so true h = refl
is_so false h = absurd h

pub not_so : (y : Bool) → T (not y) → y ≡ false
not_so true h = absurd h
not_so false h = refl

-- a fact is named, for the rest of the walk
pub knowing : {M : Type 1} {𝓤 : Ura M} {𝓛 : Logic 𝓤} {K : Type 0} {Γ : List (Item 𝓤)} {G : Goal 𝓤 𝓛.H} {X : Type 0} → K → X → (X → Seq K 𝓛 Γ G) → Seq K 𝓛 Γ G
knowing t x k = k x

module _ {M : Type 1} {𝓤 : Ura M} {𝓛 : Logic 𝓤} {K : Type 0} {Γ : List (Item 𝓤)} {E : Env 𝓤 𝓛.H} {C : Calls 𝓤 𝓛.H} {Λ : Loops 𝓤 𝓛.H} {p : Post 𝓤 𝓛.H} {c : Operand} {b : Body} {y : Bool} where
  open 𝓛 use {H}

  pub whiles : {n : ℕ} → K → Opd K 𝓛 Γ E c (vbool y) → (T y → Seq K 𝓛 Γ (runs C Λ E b p)) → (T (not y) → Seq K 𝓛 Γ (prop (post 𝓤 H p (exits n)))) → Seq K 𝓛 Γ (runs C Λ E (seq (cond c skip (exit n)) b) p)
  whiles t o on over = first t $ branches t o (λ h. skips t $ record { prf = (on h).prf }) (λ h. jumps t $ record { prf = (over h).prf })

  pub breaks : {n : ℕ} → K → Opd K 𝓛 Γ E c (vbool y) → (T y → Seq K 𝓛 Γ (prop (post 𝓤 H p (exits n)))) → (T (not y) → Seq K 𝓛 Γ (runs C Λ E b p)) → Seq K 𝓛 Γ (runs C Λ E (seq (cond c (exit n) skip) b) p)
  breaks t o over on = first t $ branches t o (λ h. jumps t $ record { prf = (over h).prf }) (λ h. skips t $ record { prf = (on h).prf })

  pub returns_if : {a : Body} → K → Opd K 𝓛 Γ E c (vbool y) → (T y → Seq K 𝓛 Γ (runs C Λ E a (any_q (after_seq 𝓤 H (Wp 𝓤 H C Λ E b (post 𝓤 H p)) (post 𝓤 H p))))) → (T (not y) → Seq K 𝓛 Γ (runs C Λ E b p))
      → Seq K 𝓛 Γ (runs C Λ E (seq (cond c a skip) b) p)
  returns_if t o away on = first t $ branches t o away (λ h. skips t $ record { prf = (on h).prf })

module _ {M : Type 1} {𝓤 : Ura M} {𝓛 : Logic 𝓤} {K : Type 0} {Γ : List (Item 𝓤)} {E : Env 𝓤 𝓛.H} {C : Calls 𝓤 𝓛.H} {Λ : Loops 𝓤 𝓛.H} {p : Post 𝓤 𝓛.H} {c : Operand} {y : Bool} where
  open 𝓛 use {H}

  pub breaks_last : {n : ℕ} → K → Opd K 𝓛 Γ E c (vbool y) → (T y → Seq K 𝓛 Γ (prop (post 𝓤 H p (exits n)))) → (T (not y) → Seq K 𝓛 Γ (prop (post 𝓤 H p next))) → Seq K 𝓛 Γ (runs C Λ E (cond c (exit n) skip) p)
  breaks_last t o over on = branches t o (λ h. jumps t $ record { prf = (over h).prf }) (λ h. skips t $ record { prf = (on h).prf })
