-- `text_read_parts::vertex_lines`: each line's three numbers are stored behind those before them. Assumes nothing.
use Prim.Native.Nat.{◌+◌, ◌*◌, ◌<◌}
use native.Mathlib.Omega.{arith}
use mathlib.Core.Path.{refl}
use lib.ListN.{length, length-set}
use Rattle.text.specs.Reader.{vertex_line_at}
use Rattle.text_read_parts.specs.Told.{threes_in}
use Rattle.text_read_parts.proofs.Threes.{threes_more}
use Rattle.text_read_parts.proofs.Stored.{stored_none, stored_not, stored_more, stored_all}
use Rattle.text_read_parts.proofs.vertex_lines.Goals as goal
use Rattle.text_read_parts.proofs.vertex_lines.Goals.{In_ok-vertex}

-- the three places are in the slice, after each store too
reach : (c : In_ok-vertex) → 3 * c.loop-i.i + 2 < length c.loop-i.out
reach c = omega (arith, c.loop-i-test.true, c.loop-i.invariant.long)

pub loop-i-init : goal.loop-i-init
unfolding threes_in
loop-i-init c = stored_none vertex_line_at threes_in _ _ _ _ refl

pub returns-in_err-vertex : goal.returns-in_err-vertex
returns-in_err-vertex c =
    rw c.from_residual.ensures (stored_not vertex_line_at threes_in c.loop-i.invariant c.loop-i-test.true c.in_err-vertex.ensures)

pub overflow_mul-out : goal.overflow_mul-out
overflow_mul-out c = omega (arith, reach c)

pub offset_bounds-out-i : goal.offset_bounds-out-i
offset_bounds-out-i c = omega (arith, reach c)

pub bounds-out-i : goal.bounds-out-i
bounds-out-i c = omega (arith, reach c)

pub overflow_mul-out-in-loop-i : goal.overflow_mul-out-in-loop-i
overflow_mul-out-in-loop-i c = omega (arith, reach c)

pub overflow_add-out : goal.overflow_add-out
overflow_add-out c = omega (arith, reach c)

pub offset_bounds-out-i-in-loop-i : goal.offset_bounds-out-i-in-loop-i
offset_bounds-out-i-in-loop-i c = omega (arith, reach c)

pub bounds-out-i-in-loop-i : goal.bounds-out-i-in-loop-i
bounds-out-i-in-loop-i c = let h = reach c in simp length-set (omega arith)

pub overflow_mul-out-in-loop-i-2 : goal.overflow_mul-out-in-loop-i-2
overflow_mul-out-in-loop-i-2 c = omega (arith, reach c)

pub overflow_add-out-in-loop-i : goal.overflow_add-out-in-loop-i
overflow_add-out-in-loop-i c = omega (arith, reach c)

pub offset_bounds-out-i-in-loop-i-2 : goal.offset_bounds-out-i-in-loop-i-2
offset_bounds-out-i-in-loop-i-2 c = omega (arith, reach c)

pub bounds-out-i-in-loop-i-2 : goal.bounds-out-i-in-loop-i-2
bounds-out-i-in-loop-i-2 c = let h = reach c in simp length-set (omega arith)

pub loop-i-preserved : goal.loop-i-preserved
loop-i-preserved c =
    let l = c.loop-i in
    stored_more vertex_line_at threes_in l.invariant c.loop-i-test.true c.in_ok-vertex.ensures
    (simp length-set refl) (threes_more l.i c.in_ok-vertex.vertex.value l.out (reach c))

pub returns : goal.returns
returns c = stored_all vertex_line_at threes_in c.loop-i.invariant c.loop-i-test.false
