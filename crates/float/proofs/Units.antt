-- What a bit pattern of binary32 stands for, in units of 2 ^ -149, its smallest value above zero: the exponent's field x and the digits t are
-- (t + 2 ^ 23) * 2 ^ (x - 1) units, without the 2 ^ 23 where x is 0. That grows with the pattern. Assumes nothing.
use Prim.Native.Nat.{ℕ, zero, suc, ◌+◌, ◌-◌, ◌*◌, ◌/◌, ◌%◌, ◌^◌, ◌≤◌, ◌<◌, min}
use native.Mathlib.Nat.{le_of_lt, le_trans, le_of_eq, lt_of_lt_of_le, lt_of_le_of_lt, eq-or-lt_of_le, mod-eq_of_lt, mul_assoc, mul-le-mul_right, mul-le-mul_left, mul-lt-mul_of_pos_right, mul-div_cancel, pow-succ'}
use native.Mathlib.Omega.{arith}
use native.Mathlib.Decide.{dec_lt}
use mathlib.Core.Path.{◌≡◌, refl, sym, ap, ap₂, ◌∙◌, subst}
use mathlib.Core.Logic.{◌⊎◌, inl, inr}
use mathlib.Core.Bool.{Bool, false, cond}
use lib.Dec.{T, leb, ltb, eqb, not_T, eqb→eq}
use lib.IntN.{pos}
use lib.Pow.{pow_pos, pow_mono}
use lib.Ieee.{Float, nan, inf, fin, binary32, down, odd, of_fields, of_bits}
use lib.Ieee.Bits.{cond_no}
use lib.Ieee.Exact.{HasValue, odd_sign}
use lib.Ieee.Fits.{down_pos}
use borrow.Author.Tests.{lt-ltb, le-ltb, lt-leb}
use Rattle.float.specs.Root.{units_of}

-- the digits of a pattern, the leading one with them, and its units
abbrev pub digits_of : ℕ → ℕ
digits_of b = b % 0x80_0000 + min (b / 0x80_0000) 1 * 0x80_0000

abbrev pub units_at : ℕ → ℕ
units_at b = digits_of b * 2 ^ (b / 0x80_0000 - 1)

-- ---- larger patterns have more units

pub units_grow : (b c : ℕ) → b < c → units_at b < units_at c
units_grow b c h = go (eq-or-lt_of_le fields)
  where
    fields : b / 0x80_0000 ≤ c / 0x80_0000
    fields = omega arith

    go : (b / 0x80_0000 ≡ c / 0x80_0000) ⊎ (b / 0x80_0000 < c / 0x80_0000) → units_at b < units_at c
    go (inl e) =
        subst (λ (k : ℕ). units_at b < digits_of c * 2 ^ (k - 1)) e (mul-lt-mul_of_pos_right (omega arith) (pow_pos (b / 0x80_0000 - 1)))
    go (inr l) = low (dec_lt 0 (b / 0x80_0000))
      where
        large : 0x80_0000 * 2 ^ (c / 0x80_0000 - 1) ≤ units_at c
        large = mul-le-mul_right (2 ^ (c / 0x80_0000 - 1)) (omega arith)

        low : Dec (0 < b / 0x80_0000) → units_at b < units_at c
        low (yes p) =
            lt_of_lt_of_le (mul-lt-mul_of_pos_right {m = digits_of b} {n = 0x80_0000 * 2} (omega arith) (pow_pos (b / 0x80_0000 - 1)))
            (le_trans (le_of_eq (mul_assoc 0x80_0000 2 (2 ^ (b / 0x80_0000 - 1)) ∙ ap (λ (x : ℕ). 0x80_0000 * x) (sym (pow-succ' 2 (b / 0x80_0000 - 1)))))
            (le_trans (mul-le-mul_left 0x80_0000 (pow_mono (omega arith))) large))
        low (no p) =
            let z : b / 0x80_0000 ≡ 0 = omega arith in
            let one : units_at b ≡ digits_of b * 1 = ap (λ (k : ℕ). digits_of b * 2 ^ (k - 1)) z in
            lt_of_le_of_lt (le_of_eq one) (lt_of_lt_of_le (omega arith) (le_trans (mul-le-mul_left 0x80_0000 (pow_pos (c / 0x80_0000 - 1))) large))

pub units_ltb : (b c : ℕ) → ltb (units_at b) (units_at c) ≡ ltb b c
units_ltb b c = go (dec_lt b c) (dec_lt c b)
  where
    go : Dec (b < c) → Dec (c < b) → ltb (units_at b) (units_at c) ≡ ltb b c
    go (yes h) k = lt-ltb (units_at b) (units_at c) (units_grow b c h) ∙ sym (lt-ltb b c h)
    go (no h) (yes k) = le-ltb (units_at b) (units_at c) (le_of_lt (units_grow c b k)) ∙ sym (le-ltb b c (omega arith))
    go (no h) (no k) =
        let e : b ≡ c = omega arith in
        le-ltb (units_at b) (units_at c) (le_of_eq (ap (λ (x : ℕ). units_at x) (sym e))) ∙ sym (le-ltb b c (omega arith))

-- ---- the fields

pub of_bits_is : (b : ℕ) → of_bits binary32 b ≡ of_fields binary32 (leb 0x8000_0000 b) (b % 0x8000_0000 / 0x80_0000) (b % 0x80_0000)
unfolding of_bits
of_bits_is b = refl

-- a pattern without a sign
pub plain : (b : ℕ) → b < 0x8000_0000 → of_bits binary32 b ≡ of_fields binary32 false (b / 0x80_0000) (b % 0x80_0000)
plain b h =
    of_bits_is b
    ∙ ap (λ (s : Bool). of_fields binary32 s (b % 0x8000_0000 / 0x80_0000) (b % 0x80_0000)) (lt-leb 0x8000_0000 b h)
    ∙ ap (λ (x : ℕ). of_fields binary32 false (x / 0x80_0000) (b % 0x80_0000)) (mod-eq_of_lt h)

pub field_zero : (s : Bool) (t : ℕ) → of_fields binary32 s 0 t ≡ odd 24 s t 0 149
unfolding of_fields
field_zero s t = refl

pub field_suc : (s : Bool) (x t : ℕ) → of_fields binary32 s (suc x) t ≡ cond (eqb (suc x) 255) (cond (eqb t 0) (inf s) nan) (odd 24 s (0x80_0000 + t) x 149)
unfolding of_fields
field_suc s x t = refl

pub field_value : (s : Bool) (x t : ℕ) → x < 255 → HasValue (of_fields binary32 s x t) s ((t + min x 1 * 0x80_0000) * 2 ^ (x - 1)) (2 ^ 149)
field_value s zero t h =
    subst (λ (w : Float). HasValue w s ((t + min 0 1 * 0x80_0000) * 2 ^ 0) (2 ^ 149)) (sym (field_zero s t))
    (subst (λ (v : ℕ). HasValue (odd 24 s t 0 149) s (v * 2 ^ 0) (2 ^ 149)) (omega arith) (odd_sign 24 s t 0 149))
field_value s (suc x) t h =
    subst (λ (w : Float). HasValue w s ((t + min (suc x) 1 * 0x80_0000) * 2 ^ (suc x - 1)) (2 ^ 149))
    (sym (field_suc s x t ∙ cond_no (eqb (suc x) 255) (cond (eqb t 0) (inf s) nan) (odd 24 s (0x80_0000 + t) x 149) (not_T (eqb (suc x) 255) (λ (u : T (eqb (suc x) 255)). differ (eqb→eq (suc x) 255 u)))))
    (subst (λ (v : ℕ). HasValue (odd 24 s (0x80_0000 + t) x 149) s v (2 ^ 149)) same (odd_sign 24 s (0x80_0000 + t) x 149))
  where
    differ : suc x ≡ 255 → ⊥
    differ e = omega arith

    lead : 0x80_0000 + t ≡ t + min (suc x) 1 * 0x80_0000
    lead = omega arith

    back : x ≡ suc x - 1
    back = omega arith

    same : (0x80_0000 + t) * 2 ^ x ≡ (t + min (suc x) 1 * 0x80_0000) * 2 ^ (suc x - 1)
    same = ap₂ (λ (a : ℕ) (b : ℕ). a * 2 ^ b) lead back

-- ---- the patterns below infinity's, and infinity's

pub value : (b : ℕ) → b < 0x7f80_0000 → HasValue (of_bits binary32 b) false (units_at b) (2 ^ 149)
value b h =
    subst (λ (w : Float). HasValue w false (units_at b) (2 ^ 149)) (sym (plain b (omega arith))) (field_value false (b / 0x80_0000) (b % 0x80_0000) (omega arith))

pub zero_is : of_bits binary32 0 ≡ fin false 0 (pos 0)
unfolding of_bits
zero_is = refl

pub infinity : of_bits binary32 0x7f80_0000 ≡ inf false
unfolding of_bits of_fields
infinity = refl

-- a value by its units
pub units_value : (v : Float) (s : Bool) (a : ℕ) → HasValue v s a (2 ^ 149) → units_of v ≡ a
unfolding units_of
units_value nan s a h = absurd h
units_value (inf t) s a h = absurd h
units_value (fin t m e) s a h = ap (λ (x : ℕ). x / down e) h.1 ∙ mul-div_cancel a (down_pos e)
