-- Which of two zeros it is does not show once a margin is added or taken: values that compare as equal are the same value or two zeros, and a zero of
-- either sign plus a value that is not zero is that value, rounded. So it does not matter which zero `least` and `greatest` give where a margin
-- follows, as in a triangle's box. Assumes nothing.
use mathlib.Core.Path.{◌≡◌, refl, sym, ap, ◌∙◌}
use mathlib.Core.Logic.{◌⊎◌, inl, inr}
use mathlib.Core.Bool.{Bool, true, false, not, beq, cond, ◌&&◌, ◌||◌, true≢false}
use Prim.Native.Nat.{ℕ, zero, suc, ◌+◌, ◌-◌, ◌*◌, ◌<◌}
use native.Mathlib.Nat.{mul-pos}
use native.Mathlib.Omega.{arith}
use lib.IntN.{ℤ}
use lib.Dec.{T, eqb, ltb}
use lib.Ieee.{Float, nan, inf, fin, binary32, up, down, fits, is_nan, eq, add, sub, neg, round, sum, to_bits}
use lib.Ieee.Fits.{up_pos, down_pos}
use borrow.Author.Tests.{eqb-true, lt-ltb}
use Rattle.float.specs.Arith.{◌≐◌, ◌⊕◌, ◌⊖◌}
use Rattle.float.specs.Steps.{abs_of}
use Rattle.float.proofs.Bools.{and_first, and_second, both, or_case, beq_same}
use Rattle.float.proofs.Order.{distance_eq, same_bits}
use Rattle.float.proofs.Magnitude.{abs_distance}

-- ---- values that compare as equal have one magnitude

no_nans : (x y : Float) → eq x y ≡ true → T (not (is_nan x)) × T (not (is_nan y))
unfolding eq is_nan
no_nans nan y h = absurd (true≢false (sym h))
no_nans (inf s) nan h = absurd (true≢false (sym h))
no_nans (inf s) (inf t) h = (tt, tt)
no_nans (inf s) (fin t n d) h = (tt, tt)
no_nans (fin s m e) nan h = absurd (true≢false (sym h))
no_nans (fin s m e) (inf t) h = (tt, tt)
no_nans (fin s m e) (fin t n d) h = (tt, tt)

eq_abs : (x y : Float) → eq x y ≡ true → eq (abs_of x) (abs_of y) ≡ true
unfolding eq abs_of
eq_abs nan y h = h
eq_abs (inf s) nan h = h
eq_abs (inf s) (inf t) h = refl
eq_abs (inf s) (fin t n d) h = h
eq_abs (fin s m e) nan h = h
eq_abs (fin s m e) (inf t) h = h
eq_abs (fin s m e) (fin t n d) h =
    both (eqb (m * up e * down d) (n * up d * down e)) true (and_first (eqb (m * up e * down d) (n * up d * down e)) (beq s t || eqb (m * up e * down d) 0) h) refl

pub one_magnitude : (x y : Float) → T (fits binary32 x) → T (fits binary32 y) → x ≐ y ≡ true → abs_of x ≡ abs_of y
one_magnitude x y f g h =
    let n = no_nans x y h in
    let p = abs_distance x f n.0 in
    let q = abs_distance y g n.1 in
    same_bits (abs_of x) (abs_of y) p.held q.held
    (eqb-true (to_bits binary32 (abs_of x)) (to_bits binary32 (abs_of y)) (sym (distance_eq (abs_of x) (abs_of y) p q) ∙ eq_abs x y h))

-- ---- and are the same value, or two zeros

abbrev Zeros : Float → Float → Type 0
Zeros x y = (s : Bool) × (t : Bool) × (e : ℤ) × (x ≡ fin s zero e) × (y ≡ fin t zero e)

some : (m : ℕ) (e d : ℤ) → suc m * up e * down d ≡ 0 → ⊥
some m e d h = clash (suc m * up e * down d) (mul-pos (mul-pos (omega arith) (up_pos e)) (down_pos d)) h
  where
    clash : (a : ℕ) → 0 < a → a ≡ 0 → ⊥
    clash a p z = omega arith

signs : (x y : Float) → abs_of x ≡ abs_of y → eq x y ≡ true → (x ≡ y) ⊎ Zeros x y
unfolding eq abs_of
signs nan y a h = absurd (true≢false (sym h))
signs (inf s) nan a h = absurd (true≢false (sym h))
signs (inf s) (inf t) a h = inl (ap inf (beq_same s t h))
signs (inf s) (fin t n d) a h = absurd (true≢false (sym h))
signs (fin s m e) nan a h = absurd (true≢false (sym h))
signs (fin s m e) (inf t) a h = absurd (true≢false (sym h))
signs (fin s zero e) (fin t zero d) a h = let p : d ≡ e = cc in inr (s, t, e, refl, ap (fin t zero) p)
signs (fin s zero e) (fin t (suc n) d) a h = let z : zero ≡ suc n = cc in absurd (never z)
  where
    never : zero ≡ suc n → ⊥
    never z = omega arith
signs (fin s (suc m) e) (fin t n d) a h =
    go (or_case (beq s t) (eqb (suc m * up e * down d) 0) (and_second (eqb (suc m * up e * down d) (n * up d * down e)) (beq s t || eqb (suc m * up e * down d) 0) h))
  where
    go : (beq s t ≡ true) ⊎ (eqb (suc m * up e * down d) 0 ≡ true) → (fin s (suc m) e ≡ fin t n d) ⊎ Zeros (fin s (suc m) e) (fin t n d)
    go (inl p) = let q : s ≡ t = beq_same s t p in inl (cc)
    go (inr p) = absurd (some m e d (eqb-true (suc m * up e * down d) 0 p))

-- ---- a zero plus what is not zero

abbrev pub not_zero : Float → Bool
not_zero nan = true
not_zero (inf s) = true
not_zero (fin s m e) = not (eqb m 0)

-- the sum of a zero of either sign and t b / c, for a b above 0
zero_sum : (s t : Bool) (a b c : ℕ) → a ≡ 0 → 0 < b → sum binary32 s a t b c ≡ round binary32 t b c
unfolding sum
zero_sum s t a b c z p = go s t
  where
    plus : a + b ≡ b
    plus = omega arith

    minus : b - a ≡ b
    minus = omega arith

    less : ltb a b ≡ true
    less = lt-ltb a b (omega arith)

    go : (s t : Bool)
        → cond (beq s t) (round binary32 s (a + b) c) (cond (ltb a b) (round binary32 t (b - a) c) (round binary32 (s && ltb b a) (a - b) c)) ≡ round binary32 t b c
    go true true = ap (λ (n : ℕ). round binary32 true n c) plus
    go false false = ap (λ (n : ℕ). round binary32 false n c) plus
    go true false =
        ap (λ (u : Bool). cond u (round binary32 false (b - a) c) (round binary32 (true && ltb b a) (a - b) c)) less ∙ ap (λ (n : ℕ). round binary32 false n c) minus
    go false true =
        ap (λ (u : Bool). cond u (round binary32 true (b - a) c) (round binary32 (false && ltb b a) (a - b) c)) less ∙ ap (λ (n : ℕ). round binary32 true n c) minus

zero_plus : (s t : Bool) (e : ℤ) (y : Float) → T (not_zero y) → add binary32 (fin s zero e) y ≡ add binary32 (fin t zero e) y
unfolding add
zero_plus s t e nan n = refl
zero_plus s t e (inf u) n = refl
zero_plus s t e (fin u zero d) n = absurd n
zero_plus s t e (fin u (suc k) d) n = one s ∙ sym (one t)
  where
    nothing : (u d : ℕ) → zero * u * d ≡ 0
    nothing u d = omega arith

    one : (s : Bool) → sum binary32 s (zero * up e * down d) u (suc k * up d * down e) (down e * down d) ≡ round binary32 u (suc k * up d * down e) (down e * down d)
    one s =
        zero_sum s u (zero * up e * down d) (suc k * up d * down e) (down e * down d) (nothing (up e) (down d)) (mul-pos (mul-pos (omega arith) (up_pos d)) (down_pos e))

-- ---- the law, for a margin that is added and for one that is taken

turned : (c : Float) → T (not_zero c) → T (not_zero (neg c))
unfolding neg
turned nan n = tt
turned (inf s) n = tt
turned (fin s m e) n = n

pub zero_sign : (x y c : Float) → T (fits binary32 x) → T (fits binary32 y) → x ≐ y ≡ true → T (not_zero c) → x ⊕ c ≡ y ⊕ c
zero_sign x y c f g h n = go (signs x y (one_magnitude x y f g h) h)
  where
    go : (x ≡ y) ⊎ Zeros x y → x ⊕ c ≡ y ⊕ c
    go (inl e) = ap (λ (v : Float). v ⊕ c) e
    go (inr z) = ap (λ (v : Float). v ⊕ c) z.3 ∙ zero_plus z.0 z.1 z.2 c n ∙ ap (λ (v : Float). v ⊕ c) (sym z.4)

pub zero_sign_less : (x y c : Float) → T (fits binary32 x) → T (fits binary32 y) → x ≐ y ≡ true → T (not_zero c) → x ⊖ c ≡ y ⊖ c
unfolding sub
zero_sign_less x y c f g h n = zero_sign x y (neg c) f g h (turned c n)
