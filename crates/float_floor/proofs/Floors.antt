-- What the tests of a float say of its floor: from 0 up to 2 ^ 63 the truncated value is the floor, and from a power of 2 on the floor is at
-- least that. So from 2 ^ 32 on it is past every row of cells; below zero it is before every row; and the tests fail for a NaN, whose floor
-- is 0. Assumes nothing.
use Rattle.std.proofs.Common.{◌≡◌, ℕ, zero, suc, ◌+◌, ◌-◌, ◌*◌, ◌/◌, ◌^◌, ◌<◌, ◌≤◌, min, true, false, ◌&&◌, ◌||◌, T, eqb, ltb, ◌⊎◌, ℤ, pos, negsuc, sym, refl, ap, ◌∙◌, subst, inl, inr, true≢false, lt_of_lt_of_le, mul-le-mul_right, div-lt_iff_lt-mul, eq-zero-or-pos, mul-pos, one-mul, le-div_iff_mul-le, zero-mul, mul-one, arith, lit<, lit≤, lt→ltb, pow_pos, pow_mono, ltb-false, ltb-true, lt-ltb, eq-eqb, eqb-true, le-leb}
use lib.Ieee.{Float, nan, inf, fin, binary32, of_bits, up, down, lt, le, eq, to_unsigned}
use lib.Ieee.Fits.{up_pos, down_pos}
use borrow.Author.Tests.{lt-leb}
use Rattle.float.specs.Arith.{◌≦◌, ◌≺◌, f0}
use Rattle.float_floor.specs.Cell.{floor_of, cell_of, outside, Snapped}
use Rattle.float.proofs.Bools.{and_first, both, or_first, or_second}
use Rattle.float.proofs.Units.{zero_is}

-- 4294967296.0, from which on no count of cells reaches
abbrev pub f2³² : Float
f2³² = of_bits binary32 0x4f80_0000

pub most_is : f2³² ≡ fin false 1 (pos 32)
unfolding of_bits
most_is = refl

-- 9223372036854775808.0, from which on the floor is the end of the range
abbrev pub f2⁶³ : Float
f2⁶³ = of_bits binary32 0x5f00_0000

pub end_is : f2⁶³ ≡ fin false 1 (pos 63)
unfolding of_bits
end_is = refl

-- ---- a whole number in a row

pub inside : (count k : ℕ) → k < count → (k ≡ cell_of count (pos k)) × (false ≡ outside count (pos k))
unfolding cell_of outside
inside count k h = (omega arith, sym (lt-leb count k h))

pub after : (count k : ℕ) → count ≤ k → (count - 1 ≡ cell_of count (pos k)) × (true ≡ outside count (pos k))
unfolding cell_of outside
after count k h = (omega arith, sym (le-leb count k h))

before : (count k : ℕ) → (0 ≡ cell_of count (negsuc k)) × (true ≡ outside count (negsuc k))
unfolding cell_of outside
before count k = (refl, refl)

-- ---- a row without cells

no_cells : (z : ℤ) → (0 ≡ cell_of 0 z) × (true ≡ outside 0 z)
unfolding cell_of outside
no_cells (pos k) = (omega arith, sym (le-leb 0 k (omega arith)))
no_cells (negsuc k) = (refl, refl)

pub no_row : (q : Float) (count : ℕ) → count ≡ 0 → Snapped count q 0 true
no_row q count e =
    subst (λ (n : ℕ). Snapped n q 0 true) (sym e) (record { at = (no_cells (floor_of q)).0; past = (no_cells (floor_of q)).1 })

-- ---- from 0 to 2 ^ 63

-- 0 is at most a value without a sign
least : (d a : ℕ) → (ltb (0 * d) a || (eqb (0 * d) a && true)) ≡ true
least d a = go (eq-zero-or-pos a)
  where
    go : (a ≡ 0) ⊎ (0 < a) → (ltb (0 * d) a || (eqb (0 * d) a && true)) ≡ true
    go (inl e) = or_second (ltb (0 * d) a) (eqb (0 * d) a && true) (both (eqb (0 * d) a) true (eq-eqb (0 * d) a (zero-mul d ∙ sym e)) refl)
    go (inr p) = or_first (ltb (0 * d) a) (eqb (0 * d) a && true) (lt-ltb (0 * d) a (subst (λ (x : ℕ). x < a) (sym (zero-mul d)) p))

pub least_of_all : (m : ℕ) (e : ℤ) → f0 ≦ fin false m e ≡ true
unfolding le lt eq
least_of_all m e = ap (λ (z : Float). le z (fin false m e)) zero_is ∙ least (down e) (m * up e * 1)

-- a value below zero is not at least zero
not_least : (m : ℕ) (e : ℤ) → le (fin false 0 (pos 0)) (fin true (suc m) e) ≡ true → ⊥
unfolding le
not_least m e h =
    clash (suc m * up e) (mul-pos (omega arith) (up_pos e))
    (sym (zero-mul (down e)) ∙ eqb-true (0 * down e) (suc m * up e * 1) (and_first (eqb (0 * down e) (suc m * up e * 1)) (eqb (0 * down e) 0) h) ∙ mul-one (suc m * up e))
  where
    clash : (x : ℕ) → 0 < x → 0 ≡ x → ⊥
    clash x h e = omega arith

-- the truncation may be asked of q, and is its floor
pub record Truncates (q : Float) : Type 0 where
  pub low : T (lt (fin true 1 (pos 0)) q)
  pub high : T (lt q (fin false 1 (pos 64)))
  pub small : to_unsigned 64 q < 2 ^ 63
  pub is : pos (to_unsigned 64 q) ≡ floor_of q

same_end : (n : ℕ) → n < 2 ^ 63 → min n (2 ^ 64 - 1) ≡ min n (2 ^ 63 - 1)
same_end n h = omega arith

in_range : (n : ℕ) → n ≤ 63 → (q : Float) → le (fin false 0 (pos 0)) q ≡ true → lt q (fin false 1 (pos n)) ≡ true → Truncates q
unfolding le lt floor_of to_unsigned
in_range n b nan h k = absurd (true≢false (sym h))
in_range n b (inf true) h k = absurd (true≢false (sym h))
in_range n b (inf false) h k = absurd (true≢false (sym k))
in_range n b (fin true zero e) h k = record {
  low = lt→ltb (0 * up e * 1) (1 * down e) (zero_lt (up e) (down e) (down_pos e));
  high = lt→ltb 0 (0 * up e * 1 + 18446744073709551616 * down e) (omega (arith, down_pos e));
  small = lit< tt;
  is = refl;
}
  where
    zero_lt : (u d : ℕ) → 0 < d → 0 * u * 1 < 1 * d
    zero_lt u d h = omega arith
in_range n b (fin true (suc m) e) h k = absurd (not_least m e h)
in_range n b (fin false m e) h k =
    let l : m * up e * 1 < 2 ^ 63 * down e = lt_of_lt_of_le (ltb-true (m * up e * 1) (1 * 2 ^ n * down e) k) (mul-le-mul_right (down e) (rw one-mul (pow_mono b))) in
    let s = (div-lt_iff_lt-mul (down_pos e)).1 (rw mul-one at l) in
    record {
      low = lt→ltb 0 (1 * down e + m * up e * 1) (omega (arith, down_pos e));
      high = lt→ltb (m * up e * 1) (18446744073709551616 * down e) (lt_of_lt_of_le l (mul-le-mul_right (down e) (lit≤ tt)));
      small = cut_small (m * up e / down e) s;
      is = ap pos (same_end (m * up e / down e) s);
    }
  where
    cut_small : (k : ℕ) → k < 2 ^ 63 → min k (2 ^ 64 - 1) < 2 ^ 63
    cut_small k h = omega arith

pub truncates : {n : ℕ} {most : Float} → most ≡ fin false 1 (pos n) → n ≤ 63 → (q : Float) → f0 ≦ q ≡ true → q ≺ most ≡ true → Truncates q
truncates {n} e b q h k = in_range n b q (ap (λ (z : Float). le z q) (sym zero_is) ∙ h) (ap (lt q) (sym e) ∙ k)

-- ---- from a power of 2 on

-- the floor is at least 2 ^ n, or the end of the range
pub record From (n : ℕ) (q : Float) : Type 0 where
  pub size : ℕ
  pub least : 2 ^ n ≤ size
  pub is : floor_of q ≡ pos (min size (2 ^ 63 - 1))

not_below_lem : (n : ℕ) → n ≤ 63 → (q : Float) → le (fin false 0 (pos 0)) q ≡ true → lt q (fin false 1 (pos n)) ≡ false → From n q
unfolding le lt floor_of
not_below_lem n b nan h k = absurd (true≢false (sym h))
not_below_lem n b (inf true) h k = absurd (true≢false (sym h))
not_below_lem n b (inf false) h k = record { size = 2 ^ 63; least = pow_mono b; is = refl }
not_below_lem n b (fin true zero e) h k =
    absurd (true≢false (sym (lt-ltb 0 (0 * up e * 1 + 1 * 2 ^ n * down e) (some (0 * up e * 1) (1 * 2 ^ n * down e) (mul-pos (rw one-mul (pow_pos n)) (down_pos e)))) ∙ k))
  where
    some : (a c : ℕ) → 0 < c → 0 < a + c
    some a c h = omega arith
not_below_lem n b (fin true (suc m) e) h k = absurd (not_least m e h)
not_below_lem n b (fin false m e) h k = record {
  size = m * up e / down e;
  least = (le-div_iff_mul-le (down_pos e)).1 (rw (one-mul, mul-one) at (ltb-false (m * up e * 1) (1 * 2 ^ n * down e) k));
  is = refl;
}

pub from : {n : ℕ} {most : Float} → most ≡ fin false 1 (pos n) → n ≤ 63 → (q : Float) → f0 ≦ q ≡ true → q ≺ most ≡ false → From n q
from {n} e b q h k = not_below_lem n b q (ap (λ (z : Float). le z q) (sym zero_is) ∙ h) (ap (lt q) (sym e) ∙ k)

-- ---- from 2 ^ 32 on

far : (count k : ℕ) → count < 2 ^ 32 → 2 ^ 32 ≤ k → (count - 1 ≡ cell_of count (pos (min k (2 ^ 63 - 1)))) × (true ≡ outside count (pos (min k (2 ^ 63 - 1))))
far count k h l = after count (min k (2 ^ 63 - 1)) (omega arith)

pub past_every_row : (q : Float) (count : ℕ) → count < 2 ^ 32 → f0 ≦ q ≡ true → q ≺ f2³² ≡ false → Snapped count q (count - 1) true
past_every_row q count n h k =
    let p = from most_is (lit≤ tt) q h k in
    let b = far count p.size n p.least in
    record { at = b.0 ∙ ap (cell_of count) (sym p.is); past = b.1 ∙ ap (outside count) (sym p.is) }

-- ---- below zero, and a NaN

below : (q : Float) (count : ℕ) → 0 < count → le (fin false 0 (pos 0)) q ≡ false
    → (0 ≡ cell_of count (floor_of q)) × (lt q (fin false 0 (pos 0)) ≡ outside count (floor_of q))
unfolding le lt floor_of
below nan count n h = inside count 0 n
below (inf true) count n h = before count (2 ^ 63 - 1)
below (inf false) count n h = absurd (true≢false h)
below (fin true zero e) count n h =
    absurd
    (true≢false
    (sym (both (eqb (0 * down e) (0 * up e * 1)) (eqb (0 * down e) 0) (eq-eqb (0 * down e) (0 * up e * 1) (zero-mul (down e) ∙ sym (ap (λ (x : ℕ). x * 1) (zero-mul (up e))))) (eq-eqb (0 * down e) 0 (zero-mul (down e)))) ∙ h))
below (fin true (suc m) e) count n h =
    let b = before count (min ((suc m * up e - 1) / down e) (2 ^ 63 - 1)) in
    (b.0, lt-ltb 0 (suc m * up e * 1 + 0 * down e) (some (suc m * up e) (down e) (mul-pos (omega arith) (up_pos e))) ∙ b.1)
  where
    some : (a d : ℕ) → 0 < a → 0 < a * 1 + 0 * d
    some a d h = omega arith
below (fin false m e) count n h = absurd (true≢false (sym (least (down e) (m * up e * 1)) ∙ h))

pub before_every_row : (q : Float) (count : ℕ) → 0 < count → f0 ≦ q ≡ false → Snapped count q 0 (q ≺ f0)
before_every_row q count n h =
    let b = below q count n (ap (λ (z : Float). le z q) (sym zero_is) ∙ h) in
    record { at = b.0; past = ap (lt q) zero_is ∙ b.1 }

-- ---- the cell is one of the row's

pub cell_lt : (count : ℕ) (z : ℤ) → 0 < count → cell_of count z < count
unfolding cell_of
cell_lt count (pos k) h = omega arith
cell_lt count (negsuc k) h = h
