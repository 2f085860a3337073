-- Marks by stores: a store at the mark of u changes that of u alone. Assumes nothing.
use Prim.Native.Nat.{ℕ, ◌+◌, ◌*◌, ◌<◌}
use native.Mathlib.Omega.{arith}
use mathlib.Core.Path.{◌≡◌, refl, sym, ap, ◌∙◌}
use mathlib.Core.Bool.{Bool, true, false, not, cond, ◌&&◌, ◌||◌}
use mathlib.Core.List.{List}
use lib.Dec.{eqb}
use lib.ListN.{length, get_or, set, length-map, length-set, replicate, get_or-replicate}
use lib.Seq.{get_or-set_same, get_or-set_other}
use lib.Ieee.{Float, binary32, of_bits, to_bits}
use borrow.Author.Tests.{eqb-true, eqb-false, eq-eqb, ne_eqb}
use Rattle.float_bits.specs.Patterns.{bits_of}
use Rattle.picks.specs.Picks.{some}
use Rattle.picks.proofs.Picks.{some_more}
use Rattle.mesh_topology.specs.declared.Triangle.{Triangle}
use Rattle.mesh_topology.proofs.Laws.{vertices_at_lem}
use Rattle.tidy.specs.Numbers.{renumbered, has_number}
use Rattle.tidy_words.proofs.Words.{zeros_bits}
use Rattle.tidy_causes.specs.Causes.{merged_by}
use Rattle.tidy_marks.specs.Marks.{Squeezable, NumbersBelow}

-- a row of floats has as many bits
pub bits_long : (words : List Float) (k : ℕ) → length words ≡ k → length (bits_of words) ≡ k
bits_long words k e = length-map words (to_bits binary32) ∙ e

pub mark_set : (row : List ℕ) (n u v x : ℕ) → u < n → length row ≡ 3 * n → get_or (set row (2 * n + u) x) (2 * n + v) 0 ≡ cond (eqb u v) x (get_or row (2 * n + v) 0)
mark_set row n u v x l long = go (eqb u v) refl
  where
    go : (b : Bool) → eqb u v ≡ b → get_or (set row (2 * n + u) x) (2 * n + v) 0 ≡ cond b x (get_or row (2 * n + v) 0)
    go true e = rw (sym (eqb-true u v e)) (get_or-set_same row (2 * n + u) x 0 (omega arith))
    go false e = get_or-set_other row (2 * n + u) (2 * n + v) x 0 (λ h. eqb-false u v e (omega arith))

any_of : (a b c : Bool) (x : ℕ) → cond c 1 (cond b 1 (cond a 1 x)) ≡ cond (a || b || c) 1 x
any_of true true true x = refl
any_of true true false x = refl
any_of true false true x = refl
any_of true false false x = refl
any_of false true true x = refl
any_of false true false x = refl
any_of false false true x = refl
any_of false false false x = refl

-- three stores mark the three vertices of a triangle
pub marked_three : {r₁ r₂ r₃ : List ℕ} (row : List ℕ) (n : ℕ) (t : Triangle) (v : ℕ) → length row ≡ 3 * n → t.a < n → t.b < n → t.c < n
    → r₁ ≡ set row (2 * n + t.a) 1 → r₂ ≡ set r₁ (2 * n + t.b) 1 → r₃ ≡ set r₂ (2 * n + t.c) 1
    → get_or r₃ (2 * n + v) 0 ≡ cond (has_number t v) 1 (get_or row (2 * n + v) 0)
unfolding has_number
marked_three {r₁} {r₂} row n t v long a b c e f g =
    let long₁ : length r₁ ≡ 3 * n = rw e (simp length-set long) in
    let long₂ : length r₂ ≡ 3 * n = rw f (simp length-set long₁) in
    ap (λ (r : List ℕ). get_or r (2 * n + v) 0) g
    ∙ mark_set r₂ n t.c v 1 c long₂
    ∙ ap (λ (x : ℕ). cond (eqb t.c v) 1 x) (ap (λ (r : List ℕ). get_or r (2 * n + v) 0) f ∙ mark_set r₁ n t.b v 1 b long₁
    ∙ ap (λ (x : ℕ). cond (eqb t.b v) 1 x) (ap (λ (r : List ℕ). get_or r (2 * n + v) 0) e ∙ mark_set row n t.a v 1 a long))
    ∙ any_of (eqb t.a v) (eqb t.b v) (eqb t.c v) (get_or row (2 * n + v) 0)

-- where there is a cause nothing is marked, and where there is none what the triangle has
pub unmarked : (cause : ℕ) (q : Bool) (x : ℕ) → (cause ≡ 0 → ⊥) → x ≡ cond (eqb cause 0 && q) 1 x
unmarked cause q x h = sym (rw (ne_eqb cause 0 h))

pub marked : (cause : ℕ) (q : Bool) (x : ℕ) → cause ≡ 0 → cond q 1 x ≡ cond (eqb cause 0 && q) 1 x
marked cause q x h = sym (rw (eq-eqb cause 0 h))

-- the numbers of a merged triangle are those of vertices
pub merged_within : {ts : List Triangle} {firsts causes : List ℕ} {words : ℕ} (k : ℕ) → Squeezable ts firsts causes words → k < length ts
    → NumbersBelow (length firsts) (merged_by ts firsts k)
unfolding merged_by renumbered
merged_within {ts} {firsts} k s l =
    let v = vertices_at_lem (length firsts) ts k s.below l in
    record { a = s.firsts_below _ v.a_below; b = s.firsts_below _ v.b_below; c = s.firsts_below _ v.c_below }

-- one triangle more: what it has is marked beside what was
pub marked_more : (p : ℕ → Bool) (k x y : ℕ) → x ≡ cond (p k) 1 y → y ≡ cond (some p k) 1 0 → x ≡ cond (some p (k + 1)) 1 0
marked_more p k x y e f = e ∙ ap (λ (z : ℕ). cond (p k) 1 z) f ∙ either (some p k) (p k) ∙ ap (λ (b : Bool). cond b 1 0) (sym (some_more p k))
  where
    either : (a b : Bool) → ◌≡◌ {A = ℕ} (cond b 1 (cond a 1 0)) (cond (a || b) 1 0)
    either true true = refl
    either true false = refl
    either false true = refl
    either false false = refl

-- no mark in a row of zeros
pub none_marked : (words : List Float) (n v k : ℕ) → words ≡ replicate k (of_bits binary32 0) → k ≡ 3 * n → v < n → get_or (bits_of words) (2 * n + v) 0 ≡ 0
none_marked words n v k e f l =
    ap (λ (ws : List Float). get_or (bits_of ws) (2 * n + v) 0) e ∙ ap (λ (r : List ℕ). get_or r (2 * n + v) 0) (zeros_bits k)
    ∙ get_or-replicate k (2 * n + v) 0 0 (omega arith)

-- ---- numbers

-- without a mark the count stays, and every mark
pub no_number : (count mark : ℕ) → mark ≡ 0 → (count ≡ count + cond (not (eqb mark 0)) 1 0) × ((b : Bool) (x : ℕ) → x ≡ cond (b && not (eqb mark 0)) (count + 1) x)
no_number count mark e = rw (eq-eqb mark 0 e) (omega arith, other)
  where
    other : (b : Bool) (x : ℕ) → x ≡ cond (b && false) (count + 1) x
    other true x = refl
    other false x = refl

-- with one the count is one more, and that mark
pub a_number : (count mark : ℕ) → (mark ≡ 0 → ⊥) → (count + 1 ≡ count + cond (not (eqb mark 0)) 1 0) × ((b : Bool) (x : ℕ) → cond b (count + 1) x ≡ cond (b && not (eqb mark 0)) (count + 1) x)
a_number count mark h = rw (ne_eqb mark 0 h) (refl, other)
  where
    other : (b : Bool) (x : ℕ) → cond b (count + 1) x ≡ cond (b && true) (count + 1) x
    other true x = refl
    other false x = refl
