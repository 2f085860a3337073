-- A key has the magnitude's pattern above its last binary digit, and the sign bit in it: so it fits 32 bits, keys order by magnitude and then by
-- sign, and values with one key are one. Assumes nothing.
use Prim.Native.Nat.{ℕ, ◌+◌, ◌*◌, ◌/◌, ◌%◌, ◌^◌, ◌≤◌, ◌<◌}
use native.Mathlib.Omega.{arith}
use mathlib.Core.Path.{◌≡◌, refl, sym, ap₂, ◌∙◌}
use mathlib.Core.Bool.{Bool, true, false, cond, true≢false}
use lib.Ieee.{binary32, to_bits}
use borrow.Author.Tests.{le-leb, eqb-true}
use Rattle.float.specs.Arith.{◌≦◌, ◌≐◌}
use Rattle.float.specs.Distance.{Distance}
use Rattle.float.specs.Steps.{abs_of, sign_bit}
use Rattle.float.proofs.Order.{distance_le, distance_eq}
use Rattle.float.proofs.Magnitude.{abs_distance, bits_split, same_value}
use Rattle.float_order.specs.Total.{Value}
use Rattle.float_order.specs.Nearer.{key_of}

-- the two parts of a key, whichever the sign
parts : (s t : Bool) (a b : ℕ) → 2 * a + cond s 1 0 ≡ 2 * b + cond t 1 0 → (s ≡ t) × (a ≡ b)
parts true true a b h = (refl, omega arith)
parts false false a b h = (refl, omega arith)
parts true false a b h = absurd (omega arith)
parts false true a b h = absurd (omega arith)

-- from the whole pattern, as the code has it
pub key_is : (x : Value) → to_bits binary32 x.float % 0x8000_0000 * 2 + to_bits binary32 x.float / 0x8000_0000 ≡ key_of x.float
unfolding key_of
key_is x = rw bits_split (go (sign_bit x.float) (to_bits binary32 (abs_of x.float)) (abs_distance x.float x.held x.number).small)
  where
    go : (s : Bool) (a : ℕ) → a ≤ 0x7f80_0000 → (cond s 0x8000_0000 0 + a) % 0x8000_0000 * 2 + (cond s 0x8000_0000 0 + a) / 0x8000_0000 ≡ 2 * a + cond s 1 0
    go true a h = omega arith
    go false a h = omega arith

pub key_small : (x : Value) → key_of x.float < 2 ^ 32
unfolding key_of
key_small x = go (sign_bit x.float) (to_bits binary32 (abs_of x.float)) (abs_distance x.float x.held x.number).small
  where
    go : (s : Bool) (a : ℕ) → a ≤ 0x7f80_0000 → 2 * a + cond s 1 0 < 2 ^ 32
    go true a h = omega arith
    go false a h = omega arith

pub one_key : (x y : Value) → key_of x.float ≡ key_of y.float → x.float ≡ y.float
unfolding key_of
one_key x y h =
    let p = parts (sign_bit x.float) (sign_bit y.float) (to_bits binary32 (abs_of x.float)) (to_bits binary32 (abs_of y.float)) h in
    same_value x.float y.float x.held y.held p.0 p.1

-- ---- "magnitude, then positive first"

module _ (x y : Value) where
  at : (v : Value) → Distance (abs_of v.float)
  at v = abs_distance v.float v.held v.number

  level : (abs_of x.float ≐ abs_of y.float) ≡ true → to_bits binary32 (abs_of x.float) ≡ to_bits binary32 (abs_of y.float)
  level h = eqb-true _ _ (sym (distance_eq (abs_of x.float) (abs_of y.float) (at x) (at y)) ∙ h)

  -- the smaller key has no larger magnitude
  pub key_magnitude : key_of x.float ≤ key_of y.float → (abs_of x.float ≦ abs_of y.float) ≡ true
  unfolding key_of
  key_magnitude l =
      distance_le (abs_of x.float) (abs_of y.float) (at x) (at y)
      ∙ le-leb _ _ (go (sign_bit x.float) (sign_bit y.float) (to_bits binary32 (abs_of x.float)) (to_bits binary32 (abs_of y.float)) l)
    where
      go : (s t : Bool) (a b : ℕ) → 2 * a + cond s 1 0 ≤ 2 * b + cond t 1 0 → a ≤ b
      go true true a b h = omega arith
      go true false a b h = omega arith
      go false true a b h = omega arith
      go false false a b h = omega arith

  -- of one magnitude the positive one has the smaller key
  pub key_positive : key_of x.float ≤ key_of y.float → (abs_of x.float ≐ abs_of y.float) ≡ true → sign_bit x.float ≡ true → sign_bit y.float ≡ true
  unfolding key_of
  key_positive l e s = go (sign_bit x.float) (sign_bit y.float) (to_bits binary32 (abs_of x.float)) (to_bits binary32 (abs_of y.float)) l (level e) s
    where
      go : (s t : Bool) (a b : ℕ) → 2 * a + cond s 1 0 ≤ 2 * b + cond t 1 0 → a ≡ b → s ≡ true → t ≡ true
      go true true a b h q e = refl
      go true false a b h q e = absurd (omega arith)
      go false t a b h q e = absurd (true≢false (sym e))

  -- one magnitude and one sign make one key
  pub key_level : (abs_of x.float ≐ abs_of y.float) ≡ true → sign_bit x.float ≡ sign_bit y.float → key_of x.float ≡ key_of y.float
  unfolding key_of
  key_level e s = ap₂ (λ (n : ℕ) (b : Bool). 2 * n + cond b 1 0) (level e) s
