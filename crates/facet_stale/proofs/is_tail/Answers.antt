-- `facet_stale::is_tail`: what was passed is none, and what is not decides the answer. Assumes nothing.
use native.Mathlib.Omega.{arith}
use Rattle.facet_index.proofs.Told.{tells_yes, tells_no}
use Rattle.facet_stale.proofs.is_tail.Goals as goal

pub returns-then-list-p : goal.returns-then-list-p
returns-then-list-p c =
    let l = c.loop-p in
    tells_no (λ all. omega (arith, c.if-list-p.true, all l.p l.auto.p c.loop-p-test.true))

pub returns : goal.returns
returns c = tells_yes (λ p h w. c.loop-p.invariant p (omega arith) h)
