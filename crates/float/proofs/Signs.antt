-- What the tests of a sign say of a root: above zero is a number or +infinity, below zero has no root, and what is neither is its own root; and
-- the same of bit patterns. Assumes nothing.
use mathlib.Core.Path.{◌≡◌, refl, sym, ap, ◌∙◌, subst}
use mathlib.Core.Logic.{⊎_elim}
use mathlib.Core.Bool.{Bool, true, false, cond, true≢false}
use Prim.Native.Nat.{ℕ, zero, suc, ◌+◌, ◌*◌, ◌/◌, ◌%◌, ◌^◌, ◌≤◌, ◌<◌}
use native.Mathlib.Nat.{le_of_lt, mul-pos, mod-eq_of_lt}
use native.Mathlib.Omega.{arith}
use lib.IntN.{pos}
use lib.Dec.{T, eqb, lt→ltb}
use lib.Pow.{pow_pos}
use lib.Ieee.{Float, nan, inf, fin, binary32, up, down, odd, fits, is_nan, of_fields, of_bits, to_bits, lt, div}
use lib.Ieee.Bits.{nan_bits_is, nan_bits_above}
use lib.Ieee.Exact.{HasValue, odd_sign}
use lib.Ieee.Fits.{up_pos}
use borrow.Author.Tests.{ltb-true, lt-ltb, le-leb}
use Rattle.float.specs.Arith.{◌≺◌, f0}
use Rattle.float.specs.Distance.{unsigned}
use Rattle.float.specs.RootOf.{root_of, root_bits}
use Rattle.float.proofs.Units.{zero_is, of_bits_is, field_zero, field_suc}
use Rattle.float.proofs.Squares.{le_or_lt}
use Rattle.float.proofs.Roots.{none, above_bits}

-- ---- above zero

less_zero : (u d : ℕ) → 0 * 1 * d < 0 * u * 1 → ⊥
less_zero u d h = omega arith

above : (x : Float) → T (fits binary32 x) → lt (fin false 0 (pos 0)) x ≡ true → T (unsigned x) × (0 < to_bits binary32 x)
unfolding lt to_bits
above nan f h = absurd (true≢false (sym h))
above (inf true) f h = absurd (true≢false (sym h))
above (inf false) f h = (tt, omega arith)
above (fin true m e) f h = absurd (true≢false (sym h))
above (fin false zero e) f h = absurd (less_zero (up e) (down e) (ltb-true (0 * 1 * down e) (0 * up e * 1) h))
above (fin false (suc m) e) f h = (tt, (above_bits m e f).0)

pub above_zero_lem : (x : Float) → T (fits binary32 x) → f0 ≺ x ≡ true → T (unsigned x) × (0 < to_bits binary32 x)
above_zero_lem x f h = above x f (ap (λ (z : Float). lt z x) (sym zero_is) ∙ h)

-- ---- below zero

below : (x : Float) → lt x (fin false 0 (pos 0)) ≡ true → root_of x ≡ nan
unfolding lt root_of
below nan h = refl
below (inf true) h = refl
below (inf false) h = absurd (true≢false (sym h))
below (fin true zero e) h = absurd (less (up e) (down e) (ltb-true 0 (0 * up e * 1 + 0 * 1 * down e) h))
  where
    less : (u d : ℕ) → 0 < 0 * u * 1 + 0 * 1 * d → ⊥
    less u d h = omega arith
below (fin true (suc m) e) h = refl
below (fin false m e) h = absurd (less (m * up e * 1) (down e) (ltb-true (m * up e * 1) (0 * 1 * down e) h))
  where
    less : (a d : ℕ) → a < 0 * 1 * d → ⊥
    less a d h = omega arith

pub below_zero : (x : Float) → x ≺ f0 ≡ true → root_of x ≡ nan
below_zero x h = below x (ap (lt x) (sym zero_is) ∙ h)

-- ---- neither: a zero or the NaN

neither : (x : Float) → lt (fin false 0 (pos 0)) x ≡ false → lt x (fin false 0 (pos 0)) ≡ false → x ≡ root_of x
unfolding lt root_of
neither nan h k = refl
neither (inf true) h k = absurd (true≢false k)
neither (inf false) h k = refl
neither (fin s zero e) h k = refl
neither (fin true (suc m) e) h k =
    absurd (true≢false (sym (lt-ltb 0 (suc m * up e * 1 + 0 * 1 * down e) (some (suc m * up e) (down e) (mul-pos (omega arith) (up_pos e)))) ∙ k))
  where
    some : (a d : ℕ) → 0 < a → 0 < a * 1 + 0 * 1 * d
    some a d h = omega arith
neither (fin false (suc m) e) h k =
    absurd (true≢false (sym (lt-ltb (0 * 1 * down e) (suc m * up e * 1) (some (suc m * up e) (down e) (mul-pos (omega arith) (up_pos e)))) ∙ h))
  where
    some : (a d : ℕ) → 0 < a → 0 * 1 * d < a * 1
    some a d h = omega arith

pub neither_side : (x : Float) → f0 ≺ x ≡ false → x ≺ f0 ≡ false → x ≡ root_of x
neither_side x h k = neither x (ap (λ (z : Float). lt z x) (sym zero_is) ∙ h) (ap (lt x) (sym zero_is) ∙ k)

-- the quotient that makes the NaN
pub quotient : div binary32 f0 f0 ≡ nan
unfolding div of_bits
quotient = refl

-- ---- patterns that are their own root

pub root_bits_zero : 0 ≡ root_bits 0
unfolding of_bits root_of to_bits
root_bits_zero = refl

pub root_bits_infinity : 0x7f80_0000 ≡ root_bits 0x7f80_0000
unfolding of_bits root_of to_bits
root_bits_infinity = refl

pub root_bits_minus_zero : 0x8000_0000 ≡ root_bits 0x8000_0000
unfolding of_bits root_of to_bits
root_bits_minus_zero = refl

-- ---- patterns of a NaN, and with the sign bit set

no_root_value : (v : Float) (a : ℕ) → HasValue v true a (2 ^ 149) → 0 < a → root_of v ≡ nan
unfolding root_of
no_root_value nan a h p = refl
no_root_value (inf t) a h p = absurd h
no_root_value (fin false m e) a h p = absurd (true≢false (sym h.0))
no_root_value (fin true zero e) a h p = absurd (none e a p h.1)
no_root_value (fin true (suc m) e) a h p = refl

choose : (b : Bool) (u v : Float) → root_of u ≡ nan → root_of v ≡ nan → root_of (cond b u v) ≡ nan
choose true u v p q = p
choose false u v p q = q

no_root_inf : root_of (inf true) ≡ nan
unfolding root_of
no_root_inf = refl

no_root_nan : root_of nan ≡ nan
unfolding root_of
no_root_nan = refl

no_root_odd : (q k : ℕ) → 0 < q → root_of (odd 24 true q k 149) ≡ nan
no_root_odd q k h = no_root_value (odd 24 true q k 149) (q * 2 ^ k) (odd_sign 24 true q k 149) (mul-pos h (pow_pos k))

no_root_fields : (x t : ℕ) → (x ≡ 0 → 0 < t) → root_of (of_fields binary32 true x t) ≡ nan
no_root_fields zero t h = ap root_of (field_zero true t) ∙ no_root_odd t 0 (h refl)
no_root_fields (suc x) t h =
    ap root_of (field_suc true x t)
    ∙ choose (eqb (suc x) 255) (cond (eqb t 0) (inf true) nan) (odd 24 true (0x80_0000 + t) x 149) (choose (eqb t 0) (inf true) nan no_root_inf no_root_nan) (no_root_odd (0x80_0000 + t) x (omega arith))

of_negative : (b : ℕ) → 0x8000_0000 < b → b < 2 ^ 32 → root_of (of_bits binary32 b) ≡ nan
of_negative b h k =
    ap root_of (of_bits_is b ∙ ap (λ (s : Bool). of_fields binary32 s (b % 0x8000_0000 / 0x80_0000) (b % 0x80_0000)) (le-leb 0x8000_0000 b (le_of_lt h)))
    ∙ no_root_fields (b % 0x8000_0000 / 0x80_0000) (b % 0x80_0000) digits
  where
    digits : b % 0x8000_0000 / 0x80_0000 ≡ 0 → 0 < b % 0x80_0000
    digits z = omega arith

is_nan_lem : (v : Float) → T (is_nan v) → v ≡ nan
unfolding is_nan
is_nan_lem nan t = refl
is_nan_lem (inf s) t = absurd t
is_nan_lem (fin s m e) t = absurd t

of_nan : (b : ℕ) → 0x7f80_0000 < b → b < 0x8000_0000 → root_of (of_bits binary32 b) ≡ nan
of_nan b h k =
    ap root_of
    (is_nan_lem (of_bits binary32 b)
    (subst T (sym (nan_bits_above binary32 b) ∙ nan_bits_is binary32 b) (lt→ltb 0x7f80_0000 (b % 0x8000_0000) (subst (λ (x : ℕ). 0x7f80_0000 < x) (sym (mod-eq_of_lt k)) h))))
    ∙ no_root_nan

nan_bits_lem : to_bits binary32 nan ≡ 0x7fc0_0000
unfolding to_bits
nan_bits_lem = refl

pub no_root : (b : ℕ) → 0x7f80_0000 < b → b < 2 ^ 32 → (b ≡ 0x8000_0000 → ⊥) → 0x7fc0_0000 ≡ root_bits b
no_root b h k n =
    sym
    (ap (to_bits binary32)
    (⊎_elim (λ (c : b ≤ 0x8000_0000). of_nan b h (omega arith)) (λ (c : 0x8000_0000 < b). of_negative b c k) (le_or_lt b 0x8000_0000))
    ∙ nan_bits_lem)
