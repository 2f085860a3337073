-- `facet_stale::all_orderly`: the cells under each triangle passed are a row, and one where they are not decides the answer. Assumes nothing.
use borrow.Author.Count.{below_more}
use native.Mathlib.Omega.{arith}
use Rattle.facet_index.proofs.Told.{told_yes, told_no, tells_yes, tells_no}
use Rattle.facet_stale.proofs.all_orderly.Goals as goal

pub returns-then-to-from : goal.returns-then-to-from
returns-then-to-from c =
    tells_no (λ all. omega (arith, (all c.loop-facet.facet c.loop-facet-test.true).rising))

pub returns-then-list-to : goal.returns-then-list-to
returns-then-list-to c =
    tells_no (λ all. omega (arith, (all c.loop-facet.facet c.loop-facet-test.true).within))

pub returns-then-not-is_row : goal.returns-then-not-is_row
returns-then-not-is_row c =
    tells_no (λ all. told_no _ c.is_row.ensures c.if-not-is_row.true (all c.loop-facet.facet c.loop-facet-test.true).row)

pub loop-facet-preserved : goal.loop-facet-preserved
loop-facet-preserved c =
    below_more _ _ c.loop-facet.invariant
    (record { rising = c.if-to-from.false; within = c.if-list-to.false; row = told_yes _ c.is_row.ensures c.if-not-is_row.false })

pub returns : goal.returns
returns c = tells_yes (λ k h. c.loop-facet.invariant k (omega arith))
