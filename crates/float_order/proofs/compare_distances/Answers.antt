-- `float_order::compare_distances`: by the whole patterns of the two values. With one sign bit `order_level`; with two, `order_less` or `order_greater`
-- and what `beyond` answered. Assumes nothing.
use Rattle.std.specs.Prelude.{if◌then◌else◌}
use Prim.Native.Nat.{ℕ, ◌/◌, ◌≤◌, ◌<◌}
use native.Mathlib.Nat.{le_of_lt}
use native.Mathlib.Omega.{arith}
use native.Mathlib.Decide.{dec_lt}
use mathlib.Core.Path.{◌≡◌, sym, ◌∙◌, subst}
use lib.Dec.{T, ltb}
use lib.Ieee.{binary32, to_bits}
use borrow.Author.Tests.{lt-ltb, le-ltb}
use Rattle.std.specs.Ordering.{nat_cmp}
use Rattle.std.specs.Cmp.{nat_cmp_is}
use Rattle.std.specs.declared.cmp.Ordering.TheVariants.{Less, Equal, Greater}
use Rattle.float_order.specs.Compare.{of_numbers}
use Rattle.float_order.specs.Total.{Value}
use Rattle.float_order.proofs.Patterns.{Opposite, opposite_signs, opposite_small, order_level, order_less, order_greater}
use Rattle.float_order.proofs.compare_distances.Goals as goal
use Rattle.float_order.proofs.compare_distances.Goals.{Start}

-- the library compares two whole numbers as the definition does
numbers_compared : (m n : ℕ) → nat_cmp m n ≡ of_numbers m n
numbers_compared m n = go (dec_lt m n) (dec_lt n m)
  where
    go : Dec (m < n) → Dec (n < m) → nat_cmp m n ≡ (if ltb m n then Less else (if ltb n m then Greater else Equal))
    go (yes h) k = sym (nat_cmp_is m n Less h) ∙ rw (lt-ltb m n h)
    go (no h) (yes k) = sym (nat_cmp_is m n Greater k) ∙ rw (le-ltb m n (le_of_lt k), lt-ltb n m k)
    go (no h) (no k) = sym (nat_cmp_is m n Equal (omega arith)) ∙ rw (le-ltb m n (omega arith), le-ltb n m (omega arith))

-- the two values, which are no NaN
abbrev first : Start → Value
first c = record { float = c.args.a; held = subst T (sym c.well_formed.0.1) tt; number = c.requires.t }

abbrev second : Start → Value
second c = record { float = c.args.b; held = subst T (sym c.well_formed.1.0.1) tt; number = c.requires.t_2 }

-- of two sign bits the positive value, which is the first here, has the smaller pattern
b_positive : (x y : Value) → (to_bits binary32 x.float / 0x8000_0000 ≡ to_bits binary32 y.float / 0x8000_0000 → ⊥) → to_bits binary32 y.float ≤ to_bits binary32 x.float → Opposite y x
b_positive x y n l = opposite_signs y x (λ e. n (sym e)) (omega (arith, n, l))

pub returns-then-p-q : goal.returns-then-p-q
returns-then-p-q c = c.cmp.ensures ∙ numbers_compared (to_bits binary32 c.args.a) (to_bits binary32 c.args.b) ∙ sym (order_level (first (search)) (second (search)) c.if-p-q.true)

pub beyond-far-requires : goal.beyond-far-requires
beyond-far-requires c =
    let a_positive = opposite_signs (first (search)) (second (search)) c.if-p-q.false c.if-p-q-2.true in
    let small = opposite_small a_positive in record { x_bound = small.0; y_bound = small.1 }

pub returns-then-far : goal.returns-then-far
returns-then-far c =
    let a_positive = opposite_signs (first (search)) (second (search)) c.if-p-q.false c.if-p-q-2.true in
    rw (order_less a_positive, ← c.beyond-far.ensures, c.if-far.true)

pub returns-else-far : goal.returns-else-far
returns-else-far c =
    let a_positive = opposite_signs (first (search)) (second (search)) c.if-p-q.false c.if-p-q-2.true in
    rw (order_less a_positive, ← c.beyond-far.ensures, c.if-far.false)

pub beyond-far-requires-2 : goal.beyond-far-requires-2
beyond-far-requires-2 c = let small = opposite_small (b_positive (first (search)) (second (search)) c.if-p-q.false c.if-p-q-2.false) in record { x_bound = small.0; y_bound = small.1 }

pub returns-then-far-2 : goal.returns-then-far-2
returns-then-far-2 c =
    rw (order_greater (b_positive (first (search)) (second (search)) c.if-p-q.false c.if-p-q-2.false), ← c.beyond-far-2.ensures, c.if-far-2.true)

pub returns-else-far-2 : goal.returns-else-far-2
returns-else-far-2 c =
    rw (order_greater (b_positive (first (search)) (second (search)) c.if-p-q.false c.if-p-q-2.false), ← c.beyond-far-2.ensures, c.if-far-2.false)
