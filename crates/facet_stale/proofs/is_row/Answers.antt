-- `facet_stale::is_row`: the places before p were read (`proofs/Rows.antt`). Assumes nothing.
use native.Mathlib.Omega.{arith}
use Rattle.facet_index.proofs.Told.{tells_yes, tells_no}
use Rattle.facet_stale.proofs.Rows.{read_more, not_passed, not_cell, not_its_own, all_read}
use Rattle.facet_stale.proofs.is_row.Goals as goal

pub returns-then-cell-least : goal.returns-then-cell-least
returns-then-cell-least c =
    tells_no (not_passed _ _ _ _ _ _ _ c.loop-p.invariant c.loop-p-test.true c.if-cell-least.true)

pub returns-then-names-cell : goal.returns-then-names-cell
returns-then-names-cell c =
    tells_no (not_cell _ _ _ _ _ _ _ c.loop-p.invariant c.loop-p-test.true c.if-names-cell.true)

pub returns-then-names-cell-2 : goal.returns-then-names-cell-2
returns-then-names-cell-2 c =
    tells_no (not_its_own _ _ _ _ _ _ _ c.loop-p.invariant c.loop-p-test.true (λ e. omega (arith, c.if-names-cell-2.true, e)))

pub loop-p-preserved : goal.loop-p-preserved
loop-p-preserved c =
    read_more _ _ _ _ _ _ _ c.loop-p.invariant c.loop-p-test.true c.if-cell-least.false c.if-names-cell.false (omega (arith, c.if-names-cell-2.false))

pub returns : goal.returns
returns c = tells_yes (all_read _ _ _ _ _ _ _ c.loop-p.invariant c.loop-p-test.false)
