-- `order` by the whole patterns of two values that are no NaN, as the code has it: the pattern's upper bit is the sign bit, the rest the magnitude's
-- pattern. Assumes nothing.
use Rattle.std.specs.Prelude.{if◌then◌else◌}
use Prim.Native.Nat.{ℕ, ◌+◌, ◌-◌, ◌/◌, ◌≤◌, ◌<◌}
use native.Mathlib.Omega.{arith}
use native.Mathlib.Decide.{dec_lt}
use mathlib.Core.Path.{◌≡◌, refl, sym, ap, ap₂, ◌∙◌}
use mathlib.Core.Bool.{Bool, true, false, cond}
use lib.Dec.{ltb}
use lib.Ieee.{binary32, to_bits}
use borrow.Author.Tests.{lt-ltb, le-ltb}
use Rattle.std.specs.declared.cmp.Ordering.TheVariants.{Less, Equal, Greater}
use Rattle.float.specs.Steps.{sign_bit}
use Rattle.float_order.specs.Compare.{order, of_numbers}
use Rattle.float_order.specs.Total.{Value}
use Rattle.float.proofs.Magnitude.{bits_split}
use Rattle.float_order.proofs.Farther.{beyond_at}
use Rattle.float_order.proofs.Signs.{pattern, pattern_small, order_same, order_positive, order_negative}

abbrev bits : Value → ℕ
bits x = to_bits binary32 x.float

bits_are : (x : Value) (s : Bool) → sign_bit x.float ≡ s → bits x ≡ cond s 0x8000_0000 0 + pattern x
bits_are x s e = bits_split x.float ∙ ap (λ (t : Bool). cond t 0x8000_0000 0 + pattern x) e

-- ---- one sign bit

ltb_shift : (n i j : ℕ) → ltb (n + i) (n + j) ≡ ltb i j
ltb_shift n i j = go (dec_lt i j)
  where
    go : Dec (i < j) → ltb (n + i) (n + j) ≡ ltb i j
    go (yes h) = lt-ltb (n + i) (n + j) (omega arith) ∙ sym (lt-ltb i j h)
    go (no h) = le-ltb (n + i) (n + j) (omega arith) ∙ sym (le-ltb i j (omega arith))

numbers_shift : (n i j : ℕ) → of_numbers (n + i) (n + j) ≡ of_numbers i j
numbers_shift n i j = ap₂ (λ (s : Bool) (t : Bool). if s then Less else (if t then Greater else Equal)) (ltb_shift n i j) (ltb_shift n j i)

module _ (a b : Value) where
  pub order_level : bits a / 0x8000_0000 ≡ bits b / 0x8000_0000 → order a.float b.float ≡ of_numbers (bits a) (bits b)
  order_level e = go (sign_bit a.float) (sign_bit b.float) refl refl
    where
      same : (s : Bool) → sign_bit a.float ≡ s → sign_bit b.float ≡ s → order a.float b.float ≡ of_numbers (bits a) (bits b)
      same s p q =
          order_same a b (p ∙ sym q)
          ∙ sym (numbers_shift (cond s 0x8000_0000 0) (pattern a) (pattern b))
          ∙ ap₂ of_numbers (sym (bits_are a s p)) (sym (bits_are b s q))

      go : (s t : Bool) → sign_bit a.float ≡ s → sign_bit b.float ≡ t → order a.float b.float ≡ of_numbers (bits a) (bits b)
      go true true p q = same true p q
      go false false p q = same false p q
      go false true p q = absurd (omega (arith, e, bits_are a false p, bits_are b true q, pattern_small a, pattern_small b))
      go true false p q = absurd (omega (arith, e, bits_are a true p, bits_are b false q, pattern_small a, pattern_small b))

-- ---- opposite sign bits: the value with the smaller pattern is the positive one

pub record Opposite (a b : Value) : Type 0 where
  pub positive : sign_bit a.float ≡ false
  pub negative : sign_bit b.float ≡ true
  pub first : bits a ≡ pattern a
  pub second : bits b - 0x8000_0000 ≡ pattern b

module _ (a b : Value) where
  pub opposite_signs : (bits a / 0x8000_0000 ≡ bits b / 0x8000_0000 → ⊥) → bits a < bits b → Opposite a b
  opposite_signs n l = go (sign_bit a.float) (sign_bit b.float) refl refl
    where
      go : (s t : Bool) → sign_bit a.float ≡ s → sign_bit b.float ≡ t → Opposite a b
      go true true p q = absurd (n (omega (arith, bits_are a true p, bits_are b true q, pattern_small a, pattern_small b)))
      go false false p q = absurd (n (omega (arith, bits_are a false p, bits_are b false q, pattern_small a, pattern_small b)))
      go true false p q = absurd (omega (arith, l, bits_are a true p, bits_are b false q, pattern_small b))
      go false true p q = record {
        positive = p;
        negative = q;
        first = omega (arith, bits_are a false p);
        second = omega (arith, bits_are b true q);
      }

module _ {a b : Value} (o : Opposite a b) where
  pub opposite_small : (bits a ≤ 0x7f80_0000) × (bits b - 0x8000_0000 ≤ 0x7f80_0000)
  opposite_small = (omega (arith, o.first, pattern_small a), omega (arith, o.second, pattern_small b))

  pub order_less : order a.float b.float ≡ (if beyond_at (bits a) (bits b - 0x8000_0000) then Greater else Less)
  order_less =
      order_positive a b o.positive o.negative
      ∙ ap₂ (λ (i : ℕ) (j : ℕ). if beyond_at i j then Greater else Less) (sym o.first) (sym o.second)

  pub order_greater : order b.float a.float ≡ (if beyond_at (bits a) (bits b - 0x8000_0000) then Less else Greater)
  order_greater =
      order_negative b a o.negative o.positive
      ∙ ap₂ (λ (i : ℕ) (j : ℕ). if beyond_at i j then Less else Greater) (sym o.first) (sym o.second)
