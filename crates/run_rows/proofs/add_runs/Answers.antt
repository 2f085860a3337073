-- `run_rows::add_runs`: the loop fills the rows from the front with what they held and what the layer's run adds, which is at most two
-- for each cell. Assumes nothing.
use Prim.Native.Nat.{◌+◌, ◌*◌}
use native.Mathlib.Omega.{arith}
use Rattle.run_rows.proofs.Blocks.{run_few}
use Rattle.run_rows.proofs.add_runs.Goals as goal

pub overflow_add-rows : goal.overflow_add-rows
overflow_add-rows c =
    let a = c.args in
    let n = c.loop-n.n in
    omega (arith, c.loop-n.invariant.back n (omega arith), c.count_run.ensures, run_few a.edition a.field.now (a.start + n * a.step) a.step, c.requires.room n)
