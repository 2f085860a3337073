-- `queue::goes_first` meets its contract: of two triples of numbers each key hands on to the next, and the cells stand in them the
-- other way round. Assumes nothing.
use Rattle.std.proofs.Common.{ℕ, ◌≡◌, ◌<◌, Some, Ordering, Less, Equal, Greater}
use Rattle.std.specs.Prelude.{leb}
use Rattle.std.specs.Ordering.{nat_cmp, is_le, ordering_then, partial_ordering_then, is_some_and}
use native.Mathlib.Decide.{dec_lt}
use native.Mathlib.Omega.{arith}
use mathlib.Core.Path.{refl, ap, ◌∙◌}
use borrow.Author.Tests.{lt-ltb, le-ltb, eq-eqb, ne_eqb, le-leb, lt-leb}
use Rattle.queue.specs.Order.{smaller}
use Rattle.queue.specs.Keys.{by_keys}
use Rattle.queue.proofs.goes_first.Goals as goal

-- whole numbers always compare
three : (p q r : Ordering) → is_some_and is_le (partial_ordering_then (partial_ordering_then (Some p) (Some q)) (Some r)) ≡ is_le (ordering_then p (ordering_then q r))
three Less q r = refl
three Equal Less r = refl
three Equal Equal r = refl
three Equal Greater r = refl
three Greater q r = refl

-- a key decides, unless it is the same
key : (x y : ℕ) (rest : Ordering) → is_le (ordering_then (nat_cmp x y) rest) ≡ smaller x y (is_le rest)
key x y rest = go (dec_lt x y) (dec_lt y x)
  where
    go : Dec (x < y) → Dec (y < x) → is_le (ordering_then (nat_cmp x y) rest) ≡ smaller x y (is_le rest)
    go (yes l) g = rw (lt-ltb x y l)
    go (no l) (yes g) = rw (le-ltb x y (omega arith), lt-ltb y x g, ne_eqb x y (λ e. omega arith))
    go (no l) (no g) = rw (le-ltb x y (omega arith), le-ltb y x (omega arith), eq-eqb x y (omega arith))

-- the last key
last : (x y : ℕ) → is_le (nat_cmp x y) ≡ leb x y
last x y = go (dec_lt x y) (dec_lt y x)
  where
    go : Dec (x < y) → Dec (y < x) → is_le (nat_cmp x y) ≡ leb x y
    go (yes l) g = rw (lt-ltb x y l, le-leb x y (omega arith))
    go (no l) (yes g) = rw (le-ltb x y (omega arith), ne_eqb x y (λ e. omega arith), lt-leb x y g)
    go (no l) (no g) = rw (le-ltb x y (omega arith), eq-eqb x y (omega arith), le-leb x y (omega arith))

pub returns : goal.returns
unfolding by_keys
returns c =
    let x = c.args.x in
    let y = c.args.y in
    c.le.ensures
    ∙ three (nat_cmp x.distance y.distance) (nat_cmp y.cell x.cell) (nat_cmp x.triangle y.triangle)
    ∙ key x.distance y.distance _
    ∙ ap (smaller x.distance y.distance) (key y.cell x.cell _ ∙ ap (smaller y.cell x.cell) (last x.triangle y.triangle))
