-- `run_rows::add_column`: the loop fills the rows from the front with what they held and what the cell adds. Assumes nothing.
use Prim.Native.Nat.{ℕ, ◌+◌}
use native.Mathlib.Omega.{arith}
use mathlib.Core.Path.{sym, ap₂, ◌∙◌}
use Rattle.lists.proofs.Table.{filled_more}
use Rattle.run.specs.Signs.{row_weight}
use Rattle.run_rows.proofs.Blocks.{more, run_of_one}
use Rattle.run_rows.proofs.add_column.Goals as goal

pub loop-n-preserved : goal.loop-n-preserved
loop-n-preserved c =
    let a = c.args in
    let l = c.loop-n in
    let w = row_weight a.edition in
    let counts = c.weight.ensures ∙ sym (run_of_one w a.field.now a.start l.n) in
    let stored = ap₂ (λ (held : ℕ) (added : ℕ). held + added) (l.invariant.back l.n (omega arith)) counts in
    filled_more 0 (more w a.field.now a.start 1 a.rows.now) a.rows.now l.n l.rows _ (omega arith) stored l.invariant
