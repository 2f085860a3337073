-- The float of a bit pattern: above infinity's it is the NaN, and with the sign bit set it is that of the pattern without it, negated. Assumes nothing.
use mathlib.Core.Path.{◌≡◌, refl, sym, ap, ap₂, ◌∙◌}
use mathlib.Core.Bool.{Bool, true, false, cond, true≢false}
use Prim.Native.Nat.{ℕ, zero, suc, ◌+◌, ◌/◌, ◌%◌, ◌^◌, ◌≤◌, ◌<◌}
use native.Mathlib.Omega.{arith}
use lib.Dec.{eqb}
use lib.Ieee.{Float, nan, inf, fin, binary32, odd, is_nan, ne, neg, div, of_fields, of_bits, to_bits}
use lib.Ieee.Bits.{nan_bits_is, nan_bits_above}
use borrow.Author.Tests.{lt-ltb, lt-leb, le-leb}
use Rattle.float.specs.Arith.{◌⊘◌, f0}
use Rattle.float.proofs.Magnitude.{ne_itself}
use Rattle.float.proofs.Units.{of_bits_is, field_zero, field_suc}

is_nan_lem : (x : Float) → is_nan x ≡ true → x ≡ nan
unfolding is_nan
is_nan_lem nan h = refl
is_nan_lem (inf s) h = absurd (true≢false (sym h))
is_nan_lem (fin s m e) h = absurd (true≢false (sym h))

pub no_number : f0 ⊘ f0 ≡ nan
unfolding of_bits div
no_number = refl

nan_bits_lem : to_bits binary32 nan ≡ 0x7fc0_0000
unfolding to_bits
nan_bits_lem = refl

pub nan_pattern : (x : Float) → ne x x ≡ true → to_bits binary32 x ≡ 0x7fc0_0000
nan_pattern x h = ap (to_bits binary32) (is_nan_lem x (sym (ne_itself x) ∙ h)) ∙ nan_bits_lem

pub nan_at : (w : ℕ) → 0x7f80_0000 < w % 0x8000_0000 → of_bits binary32 w ≡ nan
nan_at w h = is_nan_lem (of_bits binary32 w) (sym (nan_bits_is binary32 w) ∙ nan_bits_above binary32 w ∙ lt-ltb 0x7f80_0000 (w % 0x8000_0000) h)

neg_odd : (q k : ℕ) → neg (odd 24 false q k 149) ≡ odd 24 true q k 149
unfolding neg odd
neg_odd zero k = refl
neg_odd (suc q) k = refl

neg_cases : (a b : Bool) (q k : ℕ)
    → neg (cond a (cond b (inf false) nan) (odd 24 false q k 149)) ≡ cond a (cond b (inf true) nan) (odd 24 true q k 149)
unfolding neg
neg_cases true true q k = refl
neg_cases true false q k = refl
neg_cases false b q k = neg_odd q k

neg_fields : (x t : ℕ) → neg (of_fields binary32 false x t) ≡ of_fields binary32 true x t
neg_fields zero t = ap neg (field_zero false t) ∙ neg_odd t 0 ∙ sym (field_zero true t)
neg_fields (suc x) t =
    ap neg (field_suc false x t) ∙ neg_cases (eqb (suc x) 255) (eqb t 0) (0x80_0000 + t) x ∙ sym (field_suc true x t)

-- the fields of a pattern, whose sign is known
fields : (b : ℕ) (s : Bool) (x t : ℕ) → of_bits binary32 b ≡ of_fields binary32 s x t → (y u : ℕ) → x ≡ y → t ≡ u → of_bits binary32 b ≡ of_fields binary32 s y u
fields b s x t e y u p q = e ∙ ap₂ (of_fields binary32 s) p q

pub neg_at : (w : ℕ) → w < 2 ^ 32 → w % 0x8000_0000 < w → neg (of_bits binary32 (w % 0x8000_0000)) ≡ of_bits binary32 w
neg_at w h k =
    ap neg
    (fields (w % 0x8000_0000) false (w % 0x8000_0000 % 0x8000_0000 / 0x80_0000) (w % 0x8000_0000 % 0x80_0000) plus (w % 0x8000_0000 / 0x80_0000) (w % 0x80_0000) (omega arith) (omega arith))
    ∙ neg_fields (w % 0x8000_0000 / 0x80_0000) (w % 0x80_0000)
    ∙ sym minus
  where
    plus : of_bits binary32 (w % 0x8000_0000) ≡ of_fields binary32 false (w % 0x8000_0000 % 0x8000_0000 / 0x80_0000) (w % 0x8000_0000 % 0x80_0000)
    plus =
        of_bits_is (w % 0x8000_0000)
        ∙ ap (λ (s : Bool). of_fields binary32 s (w % 0x8000_0000 % 0x8000_0000 / 0x80_0000) (w % 0x8000_0000 % 0x80_0000)) (lt-leb 0x8000_0000 (w % 0x8000_0000) (omega arith))

    minus : of_bits binary32 w ≡ of_fields binary32 true (w % 0x8000_0000 / 0x80_0000) (w % 0x80_0000)
    minus =
        of_bits_is w ∙ ap (λ (s : Bool). of_fields binary32 s (w % 0x8000_0000 / 0x80_0000) (w % 0x80_0000)) (le-leb 0x8000_0000 w (omega arith))

pub plus_at : (w : ℕ) → w ≤ w % 0x8000_0000 → of_bits binary32 (w % 0x8000_0000) ≡ of_bits binary32 w
plus_at w h = ap (of_bits binary32) (omega arith)
