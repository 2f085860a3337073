-- An element of a `&mut [T]` that is read or written, `row[i]`, the slice being the first behind the locals: the pointer to it is made by two statements, and
-- one more reads or writes through it. Assumes `Logic`.
use mathlib.Core.Path.{◌≡◌, refl, sym, ◌∙◌, ap, subst}
use Prim.Native.Nat.{ℕ, ◌+◌, ◌*◌, ◌<◌, ◌^◌}
use native.Mathlib.Omega.{arith}
use native.Mathlib.Nat.{zero-add, le_of_lt, lt_of_le_of_lt, mul-le-mul_right}
use mathlib.Core.List.{List, [], ◌∷◌}
use lib.Dec.{T, ltb}
use lib.ListN.{length, get_or, set as set-list, length-set}
use seplogic.Ra.Ura.{Ura}
use base.Fraction.{full_share}
use mir.Syntax.{Ty, w64, ty_int, ty_ptr, place, field, deref, Opd as Operand, copy, int, rv_opd, op2, mul, unsigned, offset, Body, seq, assign}
use mir.Val.{Val, vint, vptr, WT, has_ty}
use mir.Raw.{raw as raw_ty}
use base.Fml.{fat}
use prog.Wp.{Env, Calls, Loops}
use types.Logic.{Logic}
use types.Kit.{Item, ‵, Post, runs, Seq, Step, step, ◌$◌, move, split, join, rewrite}
use types.Run.{Opd, bin, lit, of_opd, load, from, stop, hop, look_raw, store_raw, assigns}
use types.Part.{look_in}
use denote.Laws.{Is}
use denote.Memory.{mem, cell_at}
use denote.Index.{place as place_of, place_is}
use Rattle.walking.proofs.Element.{opens_at, shuts_at, puts_at}
use Rattle.walking.proofs.Frame.{Cell, holds, set, get, opd_cell, Takes, Locals, slot, opd, puts, got, in_it}
use Rattle.walking.proofs.Lends.{Slice, word_of, spelt_of, holding, Kind, by_value, Valued, Mut}

module _ {M : Type 1} {𝓤 : Ura M} {𝓛 : Logic 𝓤} where
  -- the size of an element
  abbrev pub step_of : Kind 𝓛 → ℕ
  step_of k = (mem k.row).size

  -- where element i lies
  abbrev pub spot : (k : Kind 𝓛) → Slice k.row → ℕ → Val
  spot k row i = vptr row.ref.ref_ptr.0 (place_of (step_of k) row.ref.ref_ptr.1 i)

  -- the cell of an element, at its MIR type as the machine sees it
  as_cell : (k : Kind 𝓛) (τ : Ty) → τ ≡ k.mir → (v : Val) (b o : ℕ) → ◌≡◌ {A = Item 𝓤} (‵ (cell_at full_share k.row.mir (v ∷ []) b o)) (‵ (fat full_share (raw_ty τ) b o v))
  as_cell k τ e v b o = ap (λ (τs : List Ty). ‵ (cell_at full_share τs (v ∷ []) b o)) k.one ∙ ap (λ (υ : Ty). ‵ (fat full_share (raw_ty υ) b o v)) (sym e)

  small : (k : Kind 𝓛) (row : Slice k.row) (i : ℕ) → i < length row.ref.now → i * step_of k < 2 ^ 64
  small k row i l = omega (arith, lt_of_le_of_lt (mul-le-mul_right (step_of k) (le_of_lt (subst (λ (n : ℕ). i < n) (sym row.long) l))) row.room.1)

module _ {M : Type 1} {𝓤 : Ura M} {𝓛 : Logic 𝓤} {K : Type 0} {E : Env 𝓤 𝓛.H} {σ : List Cell} {Γ : List (Item 𝓤)} {C : Calls 𝓤 𝓛.H} {Λ : Loops 𝓤 𝓛.H} {q : Post 𝓤 𝓛.H} where
  -- the pointer to element i
  open 𝓛 use {H}

  pub points : K → {a p s z : ℕ} {c : Operand} {rest : Body} (k : Kind 𝓛) (row : Slice k.row) (i : ℕ) → i < length row.ref.now → step_of k ≡ z → T (ltb z (2 ^ 64))
      → opd_cell 𝓤 H E σ c ≡ holds (vint w64 i) → opd_cell 𝓤 H E (set σ a (holds (vint w64 (i * z)))) (copy (place s (field 0 ∷ []))) ≡ holds (vptr row.ref.ref_ptr.0 row.ref.ref_ptr.1)
      → Takes 𝓤 H E σ a (ty_int w64) → Takes 𝓤 H E (set σ a (holds (vint w64 (i * z)))) p ty_ptr
      → Step K 𝓛 (Locals 𝓤 H E (set (set σ a (holds (vint w64 (i * z)))) p (holds (spot k row i))) ∷ Γ) (runs C Λ E rest q)
      (Locals 𝓤 H E σ ∷ Γ) (runs C Λ E (seq (assign (place a []) (op2 (mul unsigned) c (int w64 z))) (seq (assign (place p []) (op2 offset (copy (place s (field 0 ∷ []))) (copy (place a [])))) rest)) q)
  points t {a} {p} {s} {z} {c} {rest} k row i l e tz hc hs fa fp = step (λ on.
      puts t (bin t (opd t hc) (lit t tz) (record { fits = fits })) fa.0 (subst (λ (τ : Ty). T (has_ty τ (vint w64 (i * z))) × WT (vint w64 (i * z))) (sym fa.1) (tt, record { fits = fits })) $
      puts t (bin t (opd t hs) (opd t (got 𝓤 H E σ a (holds (vint w64 (i * z))) (in_it 𝓤 H E σ a fa.0))) tt) fp.0 (subst (λ (τ : Ty). T (has_ty τ (vptr row.ref.ref_ptr.0 (i * z + row.ref.ref_ptr.1))) × Unit {0}) (sym fp.1) (tt, tt)) $
      subst (λ (o : ℕ). Seq K 𝓛 (Locals 𝓤 H E (set (set σ a (holds (vint w64 (i * z)))) p (holds (vptr row.ref.ref_ptr.0 o))) ∷ Γ) (runs C Λ E rest q)) (place_is (step_of k) row.ref.ref_ptr.1 i ∙ ap (λ (n : ℕ). i * n + row.ref.ref_ptr.1) e) on)
    where
      fits : i * z < 2 ^ 64
      fits = subst (λ (n : ℕ). i * n < 2 ^ 64) e (small k row i l)

  -- the same of the first, which the code does not multiply
  pub points_first : K → {p s : ℕ} {rest : Body} (k : Kind 𝓛) (row : Slice k.row) → opd_cell 𝓤 H E σ (copy (place s (field 0 ∷ []))) ≡ holds (vptr row.ref.ref_ptr.0 row.ref.ref_ptr.1) → Takes 𝓤 H E σ p ty_ptr
      → Step K 𝓛 (Locals 𝓤 H E (set σ p (holds (spot k row 0))) ∷ Γ) (runs C Λ E rest q) (Locals 𝓤 H E σ ∷ Γ) (runs C Λ E (seq (assign (place p []) (op2 offset (copy (place s (field 0 ∷ []))) (int w64 0))) rest) q)
  points_first t {p} {s} {rest} k row hs fp = step (λ on.
      puts t (bin t (opd t hs) (opd t refl) tt) fp.0 (subst (λ (τ : Ty). T (has_ty τ (vptr row.ref.ref_ptr.0 (0 + row.ref.ref_ptr.1))) × Unit {0}) (sym fp.1) (tt, tt)) $
      subst (λ (o : ℕ). Seq K 𝓛 (Locals 𝓤 H E (set σ p (holds (vptr row.ref.ref_ptr.0 o))) ∷ Γ) (runs C Λ E rest q)) (sym (zero-add row.ref.ref_ptr.1)) on)

module _ {M : Type 1} {𝓤 : Ura M} {𝓛 : Logic 𝓤} {K : Type 0} {E : Env 𝓤 𝓛.H} {σ : List Cell} {Γ : List (Item 𝓤)} {C : Calls 𝓤 𝓛.H} {Λ : Loops 𝓤 𝓛.H} {q : Post 𝓤 𝓛.H} where
  -- it is read
  open 𝓛 use {H}

  pub reads_at : K → {p x : ℕ} {τ : Ty} {rest : Body} (k : Kind 𝓛) (row : Slice k.row) (i : ℕ) (d : k.row.Denot) → i < length row.ref.now → get 𝓤 H E σ p ≡ holds (spot k row i) → τ ≡ k.mir → Takes 𝓤 H E σ x k.mir
      → (Is k.row (get_or row.ref.now i d) (k.val (get_or row.ref.now i d) ∷ []) → Seq K 𝓛 (Locals 𝓤 H E (set σ x (holds (k.val (get_or row.ref.now i d)))) ∷ Mut row ∷ Γ) (runs C Λ E rest q))
      → Seq K 𝓛 (Locals 𝓤 H E σ ∷ Mut row ∷ Γ) (runs C Λ E (seq (assign (place x []) (rv_opd (copy (place p (deref τ ∷ []))))) rest) q)
  reads_at t {p} {x} {τ} k row i d l hp e fx on =
      move t (1 ∷ []) $ split t $ opens_at t tt k.row (by_value k) k.tells row.ref.ref_ptr.0 row.ref.ref_ptr.1 row.ref.now (word_of row) i d l (λ is.
      -- [the element; what it owns; the others; the open borrow; both halves of its name; the locals]
      move t (6 ∷ []) $
      puts t (of_opd t (load t (from t (hop t (look_in t 0 (slot t p hp)) (stop t))) (look_raw t 1 (as_cell k τ e (k.val (get_or row.ref.now i d)) _ _)))) fx.0
      (subst (λ (υ : Ty). T (has_ty υ (k.val (get_or row.ref.now i d))) × WT (k.val (get_or row.ref.now i d))) (sym fx.1) (k.typed (get_or row.ref.now i d) is)) $
      move t (1 ∷ 2 ∷ 3 ∷ 4 ∷ 5 ∷ 6 ∷ []) $ shuts_at t tt k.row row.ref.ref_ptr.0 row.ref.ref_ptr.1 row.ref.now (word_of row) i d (by_value k (get_or row.ref.now i d)) (spelt_of row) l $
      join t $ move t (1 ∷ 0 ∷ []) $ on is)

  -- y is written
  pub writes_at : K → {p : ℕ} {τ : Ty} {x : Operand} {rest : Body} (k : Kind 𝓛) (row : Slice k.row) (i : ℕ) (y : Valued k) → i < length row.ref.now → get 𝓤 H E σ p ≡ holds (spot k row i) → τ ≡ k.mir
      → ((Δ : List (Item 𝓤)) → Opd K 𝓛 (Locals 𝓤 H E σ ∷ Δ) E x (k.val y.it))
      → Step K 𝓛 (Locals 𝓤 H E σ ∷ Mut (holding row (set-list row.ref.now i y.it) (length-set row.ref.now i y.it)) ∷ Γ) (runs C Λ E rest q)
      (Locals 𝓤 H E σ ∷ Mut row ∷ Γ) (runs C Λ E (seq (assign (place p (deref τ ∷ [])) (rv_opd x)) rest) q)
  writes_at t {p} {τ} {x} k row i y l hp e o = step (λ on.
      move t (1 ∷ []) $ split t $ opens_at t tt k.row (by_value k) k.tells row.ref.ref_ptr.0 row.ref.ref_ptr.1 row.ref.now (word_of row) i y.it l (λ is.
      move t (6 ∷ []) $
      assigns t (of_opd t (o _)) (from t (hop t (look_in t 0 (slot t p hp)) (stop t))) (store_raw t 1 (as_cell k τ e (k.val (get_or row.ref.now i y.it)) _ _) (subst (λ (υ : Ty). T (has_ty υ (k.val y.it)) × WT (k.val y.it)) (sym e) (k.typed y.it y.is))) $
      rewrite t 1 (λ (j : Item 𝓤). j) (sym (as_cell k τ e (k.val y.it) _ _)) refl $
      move t (1 ∷ 2 ∷ 3 ∷ 4 ∷ 5 ∷ 6 ∷ []) $
      puts_at t tt k.row k.makes row.ref.ref_ptr.0 row.ref.ref_ptr.1 row.ref.now (word_of row) i y.it (get_or row.ref.now i y.it) (by_value k y.it) (by_value k (get_or row.ref.now i y.it)) (spelt_of row) l y.is $
      join t $ move t (1 ∷ 0 ∷ []) $ on))
