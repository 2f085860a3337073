-- A byte is the digit of its value: the two tables, value to byte and byte to value, are inverse to each other.
use Prim.Native.Nat.{ℕ, ◌+◌, ◌-◌, ◌≤◌, ◌<◌}
use native.Mathlib.Omega.{arith}
use mathlib.Core.Path.{◌≡◌, refl, sym, ap, ◌∙◌}
use mathlib.Core.Bool.{Bool, true, false, cond}
use lib.Dec.{ltb}
use borrow.Author.Tests.{ltb-true, ltb-false, lt-ltb, le-ltb}
use Rattle.text.specs.Words.{hex_digit}
use Rattle.text.specs.Reader.{hex_value}

-- the three kinds of bytes: 0 to 9, a to f, and all others
pub data Kind (b : ℕ) : Type 0 where
  low : 48 ≤ b → b < 58 → hex_value b ≡ b - 48 → Kind b
  high : 97 ≤ b → b < 103 → hex_value b ≡ b - 87 → Kind b
  other : hex_value b ≡ 16 → Kind b

tested : (b : ℕ) (t u v w : Bool)
    → ltb b 48 ≡ t
    → ltb b 58 ≡ u
    → ltb b 97 ≡ v
    → ltb b 103 ≡ w
    → hex_value b ≡ cond t 16 (cond u (b - 48) (cond v 16 (cond w (b - 87) 16)))
unfolding hex_value
tested b t u v w e₁ e₂ e₃ e₄ = rw (e₁, e₂, e₃, e₄)

pub kind : (b : ℕ) → Kind b
kind b = by (ltb b 48) (ltb b 58) (ltb b 97) (ltb b 103) refl refl refl refl
  where
    by : (t u v w : Bool) → ltb b 48 ≡ t → ltb b 58 ≡ u → ltb b 97 ≡ v → ltb b 103 ≡ w → Kind b
    by true u v w e₁ e₂ e₃ e₄ = other (tested b true u v w e₁ e₂ e₃ e₄)
    by false true v w e₁ e₂ e₃ e₄ = low (ltb-false b 48 e₁) (ltb-true b 58 e₂) (tested b false true v w e₁ e₂ e₃ e₄)
    by false false true w e₁ e₂ e₃ e₄ = other (tested b false false true w e₁ e₂ e₃ e₄)
    by false false false true e₁ e₂ e₃ e₄ = high (ltb-false b 97 e₃) (ltb-true b 103 e₄) (tested b false false false true e₁ e₂ e₃ e₄)
    by false false false false e₁ e₂ e₃ e₄ = other (tested b false false false false e₁ e₂ e₃ e₄)

-- ---- decimal digits

pub digit_of : (n : ℕ) → n < 10 → hex_value (48 + n) ≡ n
digit_of n h = by (kind (48 + n))
  where
    by : Kind (48 + n) → hex_value (48 + n) ≡ n
    by (low p q e) = e ∙ omega arith
    by (high p q e) = absurd (omega arith)
    by (other e) =
        tested (48 + n) false true (ltb (48 + n) 97) (ltb (48 + n) 103) (le-ltb (48 + n) 48 (omega arith)) (lt-ltb (48 + n) 58 (omega arith)) refl refl
        ∙ omega arith

pub digit_is : (b : ℕ) → hex_value b < 10 → b ≡ 48 + hex_value b
digit_is b h = by (kind b)
  where
    by : Kind b → b ≡ 48 + hex_value b
    by (low p q e) = omega arith
    by (high p q e) = absurd (omega arith)
    by (other e) = absurd (omega arith)

-- ---- hex digits

pub hex_of : (n : ℕ) → n < 16 → hex_value (hex_digit n) ≡ n
hex_of n h = by (ltb n 10) refl
  where
    by : (t : Bool) → ltb n 10 ≡ t → hex_value (hex_digit n) ≡ n
    by true e = rw e (digit_of n (ltb-true n 10 e))
    by false e = rw e (far (ltb-false n 10 e))
      where
        far : 10 ≤ n → hex_value (87 + n) ≡ n
        far g =
            tested (87 + n) false false false true (le-ltb (87 + n) 48 (omega arith)) (le-ltb (87 + n) 58 (omega arith)) (le-ltb (87 + n) 97 (omega arith))
            (lt-ltb (87 + n) 103 (omega arith))
            ∙ omega arith

pub hex_is : (b : ℕ) → hex_value b < 16 → hex_digit (hex_value b) ≡ b
hex_is b h = by (kind b)
  where
    by : Kind b → hex_digit (hex_value b) ≡ b
    by (low p q e) = rw (lt-ltb (hex_value b) 10 (omega arith)) (omega arith)
    by (high p q e) = rw (le-ltb (hex_value b) 10 (omega arith)) (omega arith)
    by (other e) = absurd (omega arith)
