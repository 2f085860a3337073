-- `order` by the sign bits. With the same one the magnitudes decide, so with neither set the values themselves do. With opposite ones the positive
-- value is less unless it is beyond the other: two magnitudes that are not alike are not equal, so one of them is larger. Assumes nothing.
use Rattle.std.specs.Prelude.{if◌then◌else◌}
use Prim.Native.Nat.{ℕ, ◌≤◌}
use native.Mathlib.Nat.{le_of_lt}
use native.Mathlib.Omega.{arith}
use mathlib.Core.Path.{◌≡◌, refl, sym, ap, ap₂, ◌∙◌}
use mathlib.Core.Bool.{Bool, true, false, not, ◌&&◌, cond, true≢false, and-false}
use lib.Dec.{ltb}
use lib.Ieee.{Float, binary32, unlike, of_bits, to_bits}
use lib.Ieee.Bits.{of_bits-to_bits}
use borrow.Author.Tests.{le-ltb, ltb-true, ltb-false}
use Rattle.float.specs.Arith.{◌≺◌}
use Rattle.float.specs.Distance.{Distance}
use Rattle.float.proofs.Order.{distance_lt}
use Rattle.std.specs.declared.cmp.Ordering.TheVariants.{Less, Equal, Greater}
use Rattle.float.specs.Steps.{sign_bit, abs_of}
use Rattle.float_order.specs.Compare.{alike, by_magnitude, order, beyond, of_numbers}
use Rattle.float_order.specs.Total.{Value}
use Rattle.float.proofs.Magnitude.{abs_distance, own_magnitude}
use Rattle.float_order.proofs.Alike.{alike_sym, alike_near}
use Rattle.float_order.proofs.Farther.{beyond_at}

-- ---- the same sign bit

pub same_sign : (a b : Float) → sign_bit a ≡ sign_bit b → order a b ≡ by_magnitude a b
unfolding order
same_sign a b e = go (sign_bit a) (sign_bit b) e
  where
    go : (s t : Bool) → s ≡ t → cond (alike (abs_of a) (abs_of b) && unlike s t) (cond s Greater Less) (by_magnitude a b) ≡ by_magnitude a b
    go true true e = ap (λ (k : Bool). cond k Greater (by_magnitude a b)) (and-false (alike (abs_of a) (abs_of b)))
    go true false e = absurd (true≢false e)
    go false true e = absurd (true≢false (sym e))
    go false false e = ap (λ (k : Bool). cond k Less (by_magnitude a b)) (and-false (alike (abs_of a) (abs_of b)))

-- "with neither sign bit set, only the magnitude decides", and the magnitude is the value
pub no_sign : (a b : Float) → sign_bit a ≡ false → sign_bit b ≡ false → order a b ≡ (if a ≺ b then Less else (if b ≺ a then Greater else Equal))
no_sign a b p q =
    same_sign a b (p ∙ sym q) ∙ ap₂ (λ (x : Float) (y : Float). if x ≺ y then Less else (if y ≺ x then Greater else Equal)) (own_magnitude a p) (own_magnitude b q)

-- ---- two values that are no NaN, by the patterns of their magnitudes

abbrev size : Value → Float
size x = abs_of x.float

abbrev pub pattern : Value → ℕ
pattern x = to_bits binary32 (size x)

at : (x : Value) → Distance (size x)
at x = abs_distance x.float x.held x.number

pub pattern_small : (x : Value) → pattern x ≤ 0x7f80_0000
pattern_small x = (at x).small

pub pattern_back : (x : Value) → of_bits binary32 (pattern x) ≡ size x
pattern_back x = of_bits-to_bits binary32 (size x) (at x).held

module _ (a b : Value) where
  less_is : (size a ≺ size b) ≡ ltb (pattern a) (pattern b)
  less_is = distance_lt (size a) (size b) (at a) (at b)

  pub beyond_pattern : beyond_at (pattern a) (pattern b) ≡ beyond (size a) (size b)
  beyond_pattern = ap₂ beyond (pattern_back a) (pattern_back b)

  -- magnitudes of which neither is less are alike
  level_alike : ltb (pattern a) (pattern b) ≡ false → ltb (pattern b) (pattern a) ≡ false → alike (size a) (size b) ≡ true
  level_alike p q =
      ap₂ alike (sym (pattern_back a)) (sym (pattern_back b))
      ∙ alike_near (pattern a) (pattern b) (pattern_small a) (pattern_small b) (omega (arith, ltb-false (pattern a) (pattern b) p, ltb-false (pattern b) (pattern a) q))

  -- one sign bit: the magnitudes' patterns decide
  pub order_same : sign_bit a.float ≡ sign_bit b.float → order a.float b.float ≡ of_numbers (pattern a) (pattern b)
  order_same e =
      same_sign a.float b.float e
      ∙ ap₂ (λ (s : Bool) (t : Bool). if s then Less else (if t then Greater else Equal)) less_is (distance_lt (size b) (size a) (at b) (at a))

-- opposite sign bits, with k whether the magnitudes are alike, l and g whether the first or the second is less
positive_less : (k l g : Bool) → (l ≡ true → g ≡ false) → (l ≡ false → g ≡ false → k ≡ true)
    → (if k && true then Less else (if l then Less else (if g then Greater else Equal))) ≡ (if g && not k then Greater else Less)
positive_less true l true f h = refl
positive_less true l false f h = refl
positive_less false true true f h = absurd (true≢false (f refl))
positive_less false true false f h = refl
positive_less false false true f h = refl
positive_less false false false f h = absurd (true≢false (sym (h refl refl)))

negative_greater : (k l g : Bool) → (l ≡ false → g ≡ false → k ≡ true)
    → (if k && true then Greater else (if l then Less else (if g then Greater else Equal))) ≡ (if l && not k then Less else Greater)
negative_greater true true g h = refl
negative_greater true false g h = refl
negative_greater false true g h = refl
negative_greater false false true h = refl
negative_greater false false false h = absurd (true≢false (sym (h refl refl)))

module _ (a b : Value) where
  not_both : (size a ≺ size b) ≡ true → (size b ≺ size a) ≡ false
  not_both h = less_is b a ∙ le-ltb (pattern b) (pattern a) (le_of_lt (ltb-true (pattern a) (pattern b) (sym (less_is a b) ∙ h)))

  neither : (size a ≺ size b) ≡ false → (size b ≺ size a) ≡ false
      → alike (size a) (size b) ≡ true
  neither p q = level_alike a b (sym (less_is a b) ∙ p) (sym (less_is b a) ∙ q)

  alike_back : alike (size a) (size b) ≡ alike (size b) (size a)
  alike_back =
      ap₂ alike (sym (pattern_back a)) (sym (pattern_back b))
      ∙ alike_sym (pattern a) (pattern b) (pattern_small a) (pattern_small b)
      ∙ ap₂ alike (pattern_back b) (pattern_back a)

  -- `order`, with the sign bits set apart
  by_signs : (s t : Bool) → sign_bit a.float ≡ s → sign_bit b.float ≡ t
      → order a.float b.float
      ≡ (if alike (size a) (size b) && unlike s t then (if s then Greater else Less) else by_magnitude a.float b.float)
  unfolding order
  by_signs s t p q =
      ap₂
      (λ (u : Bool) (v : Bool). if alike (size a) (size b) && unlike u v then (if u then Greater else Less) else by_magnitude a.float b.float)
      p
      q

  -- the positive one is less unless it is beyond the negative one
  pub order_positive : sign_bit a.float ≡ false → sign_bit b.float ≡ true → order a.float b.float ≡ (if beyond_at (pattern a) (pattern b) then Greater else Less)
  order_positive p q =
      by_signs false true p q
      ∙ positive_less (alike (size a) (size b)) (size a ≺ size b) (size b ≺ size a) not_both neither
      ∙ ap (λ (t : Bool). if t then Greater else Less) (sym (beyond_pattern a b))

  pub order_negative : sign_bit a.float ≡ true → sign_bit b.float ≡ false → order a.float b.float ≡ (if beyond_at (pattern b) (pattern a) then Less else Greater)
  order_negative p q =
      by_signs true false p q
      ∙ negative_greater (alike (size a) (size b)) (size a ≺ size b) (size b ≺ size a) neither
      ∙ ap (λ (k : Bool). if (size a ≺ size b) && not k then Less else Greater) alike_back
      ∙ ap (λ (t : Bool). if t then Less else Greater) (sym (beyond_pattern b a))
