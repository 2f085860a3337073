-- Products and squares of whole numbers. Assumes nothing.
use mathlib.Core.Path.{◌≡◌, sym, ap, ◌∙◌, subst}
use mathlib.Core.Logic.{◌⊎◌, inl, inr, ⊎_elim}
use Prim.Native.Nat.{ℕ, zero, suc, zero-le, suc-le-suc, ◌+◌, ◌-◌, ◌*◌, ◌^◌, ◌≤◌, ◌<◌}
use native.Mathlib.Nat.{not-suc-le-zero, le_of_lt, lt_of_le_of_lt, lt_of_not-le, not-le_of_lt, mul-le-mul, mul-le-mul_left, mul-lt-mul_of_pos_right, mul-add, add-mul, mul-one, one-mul}
use native.Mathlib.Omega.{arith}
use native.Mathlib.Decide.{dec_lt}
use lib.Pow.{pow-add, pow_pos}

pub le_or_lt : (a b : ℕ) → (a ≤ b) ⊎ (b < a)
le_or_lt a b = go (dec_lt b a)
  where
    go : Dec (b < a) → (a ≤ b) ⊎ (b < a)
    go (yes h) = inr h
    go (no h) = inl (omega arith)

-- a product has the digits of its factors
pub mul_lt : (j k : ℕ) {a b : ℕ} → a < 2 ^ j → b < 2 ^ k → a * b < 2 ^ (j + k)
mul_lt j k {a} {b} ha hb =
    subst (λ (n : ℕ). a * b < n) (sym (pow-add 2 j k))
    (lt_of_le_of_lt (mul-le-mul_left a (le_of_lt hb)) (mul-lt-mul_of_pos_right ha (pow_pos k)))

-- (r + 1) * (r + 1), with the square of r as `omega` reads it
pub next_square : (r : ℕ) → (r + 1) * (r + 1) ≡ r * r + r + r + 1
next_square r =
    let a : (r + 1) * (r + 1) ≡ (r + 1) * r + (r + 1) = mul-add (r + 1) r 1 ∙ ap (λ (x : ℕ). (r + 1) * r + x) (mul-one (r + 1)) in
    let b : (r + 1) * r ≡ r * r + r = add-mul r 1 r ∙ ap (λ (x : ℕ). r * r + x) (one-mul r) in
    omega arith

-- a number whose square is below b * b is below b
pub root_lt : (a b : ℕ) → a * a < b * b → a < b
root_lt a b h = lt_of_not-le (λ (g : b ≤ a). not-le_of_lt h (mul-le-mul g g))

-- a number whose square is above something is above 0
pub sq_pos : (n r : ℕ) → n < r * r → 1 ≤ r
sq_pos n zero h = absurd (not-suc-le-zero h)
sq_pos n (suc r) h = suc-le-suc zero-le

-- the root of a number of 48 digits has 24
pub root_digits : (n r : ℕ) → r * r ≤ n → n < 2 ^ 48 → r < 2 ^ 24
root_digits n r h k = root_lt r (2 ^ 24) (lt_of_le_of_lt h k)

-- ---- the number nearest to a root of 47 or 48 digits has 24

pub nearest_least : (n q : ℕ) → 2 ^ 46 ≤ n → n ≤ q * q + q → 2 ^ 23 ≤ q
nearest_least n q big h = ⊎_elim (λ (g : 2 ^ 23 ≤ q). g) (λ (g : q < 2 ^ 23). absurd (under g)) (le_or_lt (2 ^ 23) q)
  where
    under : q < 2 ^ 23 → ⊥
    under g =
        let s : q * q ≤ (2 ^ 23 - 1) * q = mul-le-mul {n₁ = q} {m₁ = q} (omega arith) (omega arith) in
        let l : q * q + q < n = omega arith in
        not-le_of_lt l h

-- 2 ^ 48 - 2 ^ 24 is the last number whose root is not rounded up to 2 ^ 24
pub nearest_most : (n q : ℕ) → n ≤ 2 ^ 48 - 2 ^ 24 → q * q < n + q → q < 2 ^ 24
nearest_most n q small h = lt_of_not-le (λ (g : 2 ^ 24 ≤ q). over g)
  where
    over : 2 ^ 24 ≤ q → ⊥
    over g =
        let s : 2 ^ 24 * q ≤ q * q = mul-le-mul g (omega arith) in
        not-le_of_lt h (omega arith)
