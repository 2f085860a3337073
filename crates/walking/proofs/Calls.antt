-- How a walk calls a function, whatever it takes: what is lent on is lent for the call, and comes back. Assumes `Logic`.
use mathlib.Core.Path.{◌≡◌, refl, sym, ap, subst}
use Prim.Native.Nat.{ℕ}
use mathlib.Core.List.{List, [], ◌∷◌, map}
use lib.Dec.{T}
use seplogic.Ra.Ura.{Ura}
use mir.Syntax.{Ty, Callee, place, Opd as Operand, Body, seq, call}
use mir.Val.{Val, WT, has_ty}
use base.Logic.{SProp, ent, sep, ex, emp, id⊢, via, emp∗, comm∗, mono_l, mono_r}
use prog.Wp.{Env, Calls, Tables}
use types.Logic.{Logic, sem}
use contract.Monad.{fact, fact_i}
use sound.WpLaws.{fm_of}
use types.Kit.{Item, ‵, raw, ◌⊛◌, some, later, mean, ⋆, Post, Goal, runs, lands, Seq, Step, step, ◌$◌, ◌∵◌, !, qed, by, move, use1, split, join, regoal, await, pick, push, pop}
use types.Run.{Opds}
use denote.Laws.{Is, shows}
use denote.Steps.{only, facts, heard}
use denote.Triple.Call.{calls_from}
use Rattle.walking.proofs.Frame.{Cell, holds, set, opd_cell, Takes, Locals, opds, lands_in}
use Rattle.walking.proofs.Lends.{Kind, Valued, Arg, value, shown, lent, seen, slices, Had, Names, tokens, passes, Lefts, Changes, changed, finals, Long, after, words, bundled, unbundled, lends_had, comes_had}

module _ {M : Type 1} {𝓤 : Ura M} {𝓛 : Logic 𝓤} where
  open 𝓛 use {H}

  abbrev Ends : (ps : List (Arg 𝓛)) (k : Kind 𝓛) → (k.row.Denot → Changes ps → Type 0) → Names ps → Val → SProp 𝓤
  Ends ps k φ n w =
      H.⇛ (ex 𝓤 (λ (r : k.row.Denot). sep 𝓤 (sep 𝓤 (sem 𝓛 (tokens ps n)) (sem 𝓛 (k.row.own_val r (w ∷ [])))) (ex 𝓤 (λ (zs : Lefts ps). sep 𝓤 (sem 𝓛 (finals ps n zs)) (fact 𝓤 (φ r (changed ps zs)))))))

  -- called with ps, the function f returns some r of the kind k and leaves some zs in what it was lent, of which φ holds
  abbrev pub Does : Calls 𝓤 H → Callee → (ps : List (Arg 𝓛)) (k : Kind 𝓛) → (k.row.Denot → Changes ps → Type 0) → Type 1
  Does C f ps k φ = (n : Names ps) → ent 𝓤 (sep 𝓤 (sem 𝓛 (tokens ps n)) (sem 𝓛 (passes ps n))) (C f (words ps) (Ends ps k φ n))

  -- by its contract, where it asks for ψ; and where it asks for nothing
  pub asking : (ps : List (Arg 𝓛)) (ψ : Type 0) → ψ → {Q : Names ps → SProp 𝓤} → ((n : Names ps) → ent 𝓤 (sep 𝓤 (sep 𝓤 (sem 𝓛 (tokens ps n)) (sem 𝓛 (passes ps n))) (fact 𝓤 ψ)) (Q n))
      → (n : Names ps) → ent 𝓤 (sep 𝓤 (sem 𝓛 (tokens ps n)) (sem 𝓛 (passes ps n))) (Q n)
  asking ps ψ x h n =
      let P : SProp 𝓤 = sep 𝓤 (sem 𝓛 (tokens ps n)) (sem 𝓛 (passes ps n)) in
      via 𝓤 (sep 𝓤 P (fact 𝓤 ψ)) (via 𝓤 (sep 𝓤 (emp 𝓤) P) (emp∗ 𝓤 P) (via 𝓤 (sep 𝓤 (fact 𝓤 ψ) P) (mono_l 𝓤 P (fact_i 𝓤 ψ (emp 𝓤) x)) (comm∗ 𝓤 (fact 𝓤 ψ) P))) (h n)

  pub asking_nothing : (ps : List (Arg 𝓛)) {Q : Names ps → SProp 𝓤} → ((n : Names ps) → ent 𝓤 (sep 𝓤 (sep 𝓤 (sem 𝓛 (tokens ps n)) (sem 𝓛 (passes ps n))) (emp 𝓤)) (Q n))
      → (n : Names ps) → ent 𝓤 (sep 𝓤 (sem 𝓛 (tokens ps n)) (sem 𝓛 (passes ps n))) (Q n)
  asking_nothing ps h n =
      let P : SProp 𝓤 = sep 𝓤 (sem 𝓛 (tokens ps n)) (sem 𝓛 (passes ps n)) in
      via 𝓤 (sep 𝓤 P (emp 𝓤)) (via 𝓤 (sep 𝓤 (emp 𝓤) P) (emp∗ 𝓤 P) (comm∗ 𝓤 (emp 𝓤) P)) (h n)

module _ {M : Type 1} {𝓤 : Ura M} {𝓛 : Logic 𝓤} {K : Type 0} {Γ : List (Item 𝓤)} where
  -- the slices behind the head, as one entry; and apart again
  open 𝓛 use {H}

  bundles : {i : Item 𝓤} {G : Goal 𝓤 H} → K → (ps : List (Arg 𝓛)) → Step K 𝓛 (i ∷ Had ps ∷ Γ) G (i ∷ slices ps Γ) G
  bundles {i} {G} t ps = step (λ s. record {
    prf = via 𝓤 (sep 𝓤 (mean 𝓛 i) (⋆ 𝓛 (slices ps Γ))) (pop 𝓛 i (slices ps Γ))
        (via 𝓤 (sep 𝓤 (mean 𝓛 i) (⋆ 𝓛 (Had ps ∷ Γ))) (mono_r 𝓤 (mean 𝓛 i) (via 𝓤 (sep 𝓤 (mean 𝓛 (Had ps)) (⋆ 𝓛 Γ)) (bundled 𝓛 ps Γ) (push 𝓛 (Had ps) Γ)))
        (via 𝓤 (⋆ 𝓛 (i ∷ Had ps ∷ Γ)) (push 𝓛 i (Had ps ∷ Γ)) s.prf));
  })

  unbundles : {i : Item 𝓤} {G : Goal 𝓤 H} → K → (ps : List (Arg 𝓛)) → Step K 𝓛 (i ∷ slices ps Γ) G (i ∷ Had ps ∷ Γ) G
  unbundles {i} {G} t ps = step (λ s. record {
    prf = via 𝓤 (sep 𝓤 (mean 𝓛 i) (⋆ 𝓛 (Had ps ∷ Γ))) (pop 𝓛 i (Had ps ∷ Γ))
        (via 𝓤 (sep 𝓤 (mean 𝓛 i) (⋆ 𝓛 (slices ps Γ))) (mono_r 𝓤 (mean 𝓛 i) (via 𝓤 (sep 𝓤 (mean 𝓛 (Had ps)) (⋆ 𝓛 Γ)) (pop 𝓛 (Had ps) Γ) (unbundled 𝓛 ps Γ)))
        (via 𝓤 (⋆ 𝓛 (i ∷ slices ps Γ)) (push 𝓛 i (slices ps Γ)) s.prf));
  })

  -- operands that are read with i second, with i first
  second : {i j : Item 𝓤} {E : Env 𝓤 H} {xs : List Operand} {vs : List Val} → K → Opds K 𝓛 (j ∷ i ∷ Γ) E xs vs → Opds K 𝓛 (i ∷ j ∷ Γ) E xs vs
  second {i} {j} {E} {xs} {vs} t os = record {
    go = λ Kt h. qed 𝓛 (i ∷ j ∷ Γ) ∵ move ! (1 ∷ []) $ by ! (os.go Kt (qed 𝓛 (j ∷ i ∷ Γ) ∵ move ! (1 ∷ []) $ by ! h));
  }

-- the context behind the slices of a list
abbrev later_on : {M : Type 1} {𝓤 : Ura M} → List (Item 𝓤) → List (Item 𝓤)
later_on [] = []
later_on (i ∷ Γ) = Γ

module _ {M : Type 1} {𝓤 : Ura M} {𝓛 : Logic 𝓤} where
  abbrev pub behind : List (Arg 𝓛) → List (Item 𝓤) → List (Item 𝓤)
  behind [] Γ = Γ
  behind (value k v ∷ ps) Γ = behind ps Γ
  behind (shown c s ∷ ps) Γ = behind ps (later_on Γ)
  behind (lent s ∷ ps) Γ = behind ps (later_on Γ)
  behind (seen c s ∷ ps) Γ = behind ps (later_on Γ)

module _ {M : Type 1} {𝓤 : Ura M} {𝓛 : Logic 𝓤} {K : Type 0} {Γ : List (Item 𝓤)} {E : Env 𝓤 𝓛.H} {σ : List Cell} {q : Post 𝓤 𝓛.H} where
  -- a call that does φ. The slices that it takes stand first behind the locals, in the order in which it takes them, and so they do after it. Its operands
  -- are locals or numbers, and its result is put into a local. That all this is so is three times `refl`
  open 𝓛 use {H}

  pub calls : {f : Callee} {xs : List Operand} {i : ℕ} {rest : Body} → K → (𝓣 : Tables 𝓤 H) (ps : List (Arg 𝓛)) (k : Kind 𝓛) (φ : k.row.Denot → Changes ps → Type 0) → Does 𝓣.C f ps k φ
      → slices ps (behind ps Γ) ≡ Γ → map (opd_cell 𝓤 H E σ) xs ≡ map holds (words ps) → Takes 𝓤 H E σ i k.mir
      → ((r : Valued k) (zs : Changes ps) (l : Long ps zs) → φ r.it zs → Seq K 𝓛 (Locals 𝓤 H E (set σ i (holds (k.val r.it))) ∷ slices (after ps zs l) (behind ps Γ)) (runs 𝓣.C 𝓣.Λ E rest q))
      → Seq K 𝓛 (Locals 𝓤 H E σ ∷ Γ) (runs 𝓣.C 𝓣.Λ E (seq (call f xs (place i [])) rest) q)
  calls {f} {xs} {i} {rest} t 𝓣 ps k φ does these os to on =
      subst (λ (Δ : List (Item 𝓤)). Seq K 𝓛 (Locals 𝓤 H E σ ∷ Δ) (runs 𝓣.C 𝓣.Λ E (seq (call f xs (place i [])) rest) q)) these (bundles t ps $ move t (1 ∷ 0 ∷ []) $ lends_had t tt ps (λ n. join t $ move t (0 ∷ 2 ∷ []) $
      calls_from t (fm_of 𝓤 H 𝓛.laws 𝓣) (‵ (tokens ps n) ⊛ ‵ (passes ps n)) (words ps) (Ends ps k φ n) (does n) (second t (opds t xs (words ps) os)) (λ w.
      use1 𝓛 (later (some (λ (r : k.row.Denot). (‵ (tokens ps n) ⊛ ‵ (k.row.own_val r (w ∷ []))) ⊛ some (λ (zs : Lefts ps). ‵ (finals ps n zs) ⊛ raw (fact 𝓤 (φ r (changed ps zs))))))) (id⊢ 𝓤 _) $
      await t tt $ pick t (λ r. split t $ move t (1 ∷ []) $ pick t (λ zs. split t $ move t (1 ∷ []) $ heard t (φ r (changed ps zs)) (λ told. move t (1 ∷ []) $ split t $ move t (1 ∷ []) $
      facts t k.row (Is k.row) (shows 𝓛 k.row) r (w ∷ []) (λ e.
      -- [the tokens; what is left; the locals; what is kept]
      move t (0 ∷ 3 ∷ 1 ∷ []) $ comes_had t tt ps n zs (λ l. move t (1 ∷ 0 ∷ []) $ unbundles t (after ps (changed ps zs) l) $
      regoal t (λ (u : Val). lands 𝓣.C 𝓣.Λ E (place i []) u rest q) (ap only (k.tells r (w ∷ []) e)) refl $
      lands_in t to.0 (subst (λ (τ : Ty). T (has_ty τ (k.val r)) × WT (k.val r)) (sym to.1) (k.typed r (is r w e))) $ on (record { it = r; is = is r w e }) (changed ps zs) l told))))))))
    where
      is : (r : k.row.Denot) (w : Val) → Is k.row r (w ∷ []) → Is k.row r (k.val r ∷ [])
      is r w e = subst (Is k.row r) (k.tells r (w ∷ []) e) e

module _ {M : Type 1} {𝓤 : Ura M} {𝓛 : Logic 𝓤} {K : Type 0} {Γ : List (Item 𝓤)} {E : Env 𝓤 𝓛.H} {σ : List Cell} {q : Post 𝓤 𝓛.H} where
  -- a call of which it is said what it returns
  open 𝓛 use {H}

  pub calls_is : {f : Callee} {xs : List Operand} {i : ℕ} {rest : Body} → K → (𝓣 : Tables 𝓤 H) (ps : List (Arg 𝓛)) (k : Kind 𝓛) (x : k.row.Denot) → Does 𝓣.C f ps k (λ r zs. r ≡ x)
      → slices ps (behind ps Γ) ≡ Γ → map (opd_cell 𝓤 H E σ) xs ≡ map holds (words ps) → Takes 𝓤 H E σ i k.mir
      → (Is k.row x (k.val x ∷ []) → (zs : Changes ps) (l : Long ps zs) → Seq K 𝓛 (Locals 𝓤 H E (set σ i (holds (k.val x))) ∷ slices (after ps zs l) (behind ps Γ)) (runs 𝓣.C 𝓣.Λ E rest q))
      → Seq K 𝓛 (Locals 𝓤 H E σ ∷ Γ) (runs 𝓣.C 𝓣.Λ E (seq (call f xs (place i [])) rest) q)
  calls_is {f} {xs} {i} {rest} t 𝓣 ps k x does these os to on = calls t 𝓣 ps k (λ r zs. r ≡ x) does these os to (λ r zs l told.
      subst (λ (y : k.row.Denot). Is k.row y (k.val y ∷ []) → Seq K 𝓛 (Locals 𝓤 H E (set σ i (holds (k.val y))) ∷ slices (after ps zs l) (behind ps Γ)) (runs 𝓣.C 𝓣.Λ E rest q)) (sym told) (λ is. on is zs l) r.is)
