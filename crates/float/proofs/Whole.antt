-- The whole number nearest to a root, and its computation digit by digit: with r the digits found so far, the root lies from r up to r + 2 ^ j, and
-- the next digit halves that. Assumes nothing.
use mathlib.Core.Path.{◌≡◌, sym, ap, ◌∙◌, subst}
use mathlib.Core.Bool.{Bool, cond}
use Prim.Native.Nat.{ℕ, zero, suc, ◌+◌, ◌*◌, ◌%◌, ◌^◌, ◌≤◌, ◌<◌, ◌-◌}
use native.Mathlib.Nat.{mul-one, mul_assoc, pow-succ'}
use native.Mathlib.Omega.{arith}
use native.Mathlib.Decide.{dec_lt}
use lib.Dec.{leb}
use borrow.Author.Tests.{le-leb, lt-leb}
use Rattle.float.specs.RootOf.{NearestTo, digits_from, nearest_whole}
use Rattle.float.proofs.Squares.{next_square}

-- r is the whole part of the root of n
abbrev Part : ℕ → ℕ → Type 0
Part n r = (r * r ≤ n) × (n < (r + 1) * (r + 1))

digits_from_lem : (j n r : ℕ) → r * r ≤ n → n < (r + 2 ^ j) * (r + 2 ^ j) → Part n (digits_from j n r)
unfolding digits_from
digits_from_lem zero n r lo hi = (lo, hi)
digits_from_lem (suc j) n r lo hi = go (λ s a b. digits_from_lem j n s a b) (dec_lt n ((r + 2 ^ j) * (r + 2 ^ j)))
  where
    -- the two halves
    halves : r + 2 ^ suc j ≡ r + 2 ^ j + 2 ^ j
    halves = omega (arith, pow-succ' 2 j)

    go : ((s : ℕ) → s * s ≤ n → n < (s + 2 ^ j) * (s + 2 ^ j) → Part n (digits_from j n s)) → Dec (n < (r + 2 ^ j) * (r + 2 ^ j))
        → Part n (digits_from j n (cond (leb ((r + 2 ^ j) * (r + 2 ^ j)) n) (r + 2 ^ j) r))
    go rest (yes h) =
        subst (λ (t : Bool). Part n (digits_from j n (cond t (r + 2 ^ j) r))) (sym (lt-leb ((r + 2 ^ j) * (r + 2 ^ j)) n h)) (rest r lo h)
    go rest (no h) =
        subst (λ (t : Bool). Part n (digits_from j n (cond t (r + 2 ^ j) r))) (sym (le-leb ((r + 2 ^ j) * (r + 2 ^ j)) n (omega arith)))
        (rest (r + 2 ^ j) (omega arith) (subst (λ (x : ℕ). n < x * x) halves hi))

-- and from it the nearest: above r * r + r the root is above r + 1/2
rounded : (n r : ℕ) → 0 < n → Part n r → NearestTo n (cond (leb n (r * r + r)) r (r + 1))
rounded n r p part = go (dec_lt (r * r + r) n)
  where
    some : (s : ℕ) → n ≤ s * s + s → 0 < s
    some zero l = omega arith
    some (suc s) l = omega arith

    go : Dec (r * r + r < n) → NearestTo n (cond (leb n (r * r + r)) r (r + 1))
    go (yes k) =
        subst (λ (t : Bool). NearestTo n (cond t r (r + 1))) (sym (lt-leb n (r * r + r) k)) (omega (arith, next_square r), omega (arith, next_square r))
    go (no k) =
        subst (λ (t : Bool). NearestTo n (cond t r (r + 1))) (sym (le-leb n (r * r + r) (omega arith))) (omega (arith, some r (omega arith)), omega arith)

pub nearest_whole_lem : (n : ℕ) → 0 < n → n < 2 ^ 48 → NearestTo n (nearest_whole n)
unfolding nearest_whole
nearest_whole_lem n p h = rounded n (digits_from 24 n 0) p (digits_from_lem 24 n 0 (omega arith) h)

-- ---- the number whose root is taken: m * 2 ^ 23, or twice that for an odd exponent

pub even : (m o : ℕ) → o ≡ 0 → m * 0x80_0000 ≡ m * 2 ^ 23 * 2 ^ o
even m o e = sym (mul-one (m * 2 ^ 23)) ∙ ap (λ (x : ℕ). m * 2 ^ 23 * 2 ^ x) (sym e)

pub uneven : (m o : ℕ) → o ≡ 1 → m * 0x100_0000 ≡ m * 2 ^ 23 * 2 ^ o
uneven m o e = sym (mul_assoc m (2 ^ 23) 2) ∙ ap (λ (x : ℕ). m * 2 ^ 23 * 2 ^ x) (sym e)

pub lifted_range : (m e : ℕ) → 2 ^ 23 ≤ m → m < 2 ^ 24 → (2 ^ 46 ≤ m * 2 ^ 23 * 2 ^ (e % 2)) × (m * 2 ^ 23 * 2 ^ (e % 2) ≤ 2 ^ 48 - 2 ^ 24)
lifted_range m e lo hi = go (dec_lt (e % 2) 1)
  where
    go : Dec (e % 2 < 1) → (2 ^ 46 ≤ m * 2 ^ 23 * 2 ^ (e % 2)) × (m * 2 ^ 23 * 2 ^ (e % 2) ≤ 2 ^ 48 - 2 ^ 24)
    go (yes h) = (omega (arith, even m (e % 2) (omega arith)), omega (arith, even m (e % 2) (omega arith)))
    go (no h) = (omega (arith, uneven m (e % 2) (omega arith)), omega (arith, uneven m (e % 2) (omega arith)))
