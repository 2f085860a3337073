-- `text_read_parts::index_lines`: each line's number is stored behind those before it. Assumes nothing.
use Prim.Native.Nat.{ℕ, ◌+◌, ◌<◌}
use native.Mathlib.Numerals.{add-one}
use native.Mathlib.Omega.{arith}
use mathlib.Core.Path.{◌≡◌, refl}
use mathlib.Core.List.{List, ◌∷◌, ◌++◌, []}
use lib.ListN.{length, take, set, length-set}
use lib.Seq.{take-suc-set}
use Rattle.text.specs.Reader.{index_at}
use Rattle.text_read_parts.proofs.Stored.{stored_none, stored_not, stored_more, stored_all}
use Rattle.text_read_parts.proofs.index_lines.Goals as goal
use Rattle.text_read_parts.proofs.index_lines.Goals.{In_ok-index}

taken_more : (i v : ℕ) (out : List ℕ) → i < length out → take (i + 1) (set out i v) ≡ take i out ++ v ∷ []
taken_more i v out h = rw add-one (take-suc-set out i v h)

-- the place is in the slice
reach : (c : In_ok-index) → c.loop-i.i < length c.loop-i.out
reach c = omega (arith, c.loop-i-test.true, c.loop-i.invariant.long)

pub loop-i-init : goal.loop-i-init
loop-i-init c = stored_none index_at take _ _ _ _ refl

pub returns-in_err-index : goal.returns-in_err-index
returns-in_err-index c =
    rw c.from_residual.ensures (stored_not index_at take c.loop-i.invariant c.loop-i-test.true c.in_err-index.ensures)

pub offset_bounds-out-i : goal.offset_bounds-out-i
offset_bounds-out-i c = omega (arith, reach c)

pub bounds-out-i : goal.bounds-out-i
bounds-out-i c = omega (arith, reach c)

pub loop-i-preserved : goal.loop-i-preserved
loop-i-preserved c =
    let l = c.loop-i in
    let n = c.in_ok-index.index.value in
    stored_more index_at take l.invariant c.loop-i-test.true c.in_ok-index.ensures
    (length-set l.out l.i n)
    (taken_more l.i n l.out (reach c))

pub returns : goal.returns
returns c = stored_all index_at take c.loop-i.invariant c.loop-i-test.false
