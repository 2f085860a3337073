-- `entries_push::push`: an entry that e goes before goes down into the gap; e goes into it where its parent goes first, or at the root. Assumes nothing.
use native.Mathlib.Omega.{arith}
use mathlib.Core.Path.{refl, sym}
use Rattle.queue.specs.Queue.{blank}
use Rattle.queue.proofs.Order.{keys_order}
use Rattle.queue.proofs.Moves.{again_up}
use Rattle.entries_push.proofs.Pushes.{push_starts, push_ends}
use Rattle.entries_push.proofs.push.Goals as goal
use Rattle.entries_push.proofs.push.Goals.{else-loop-i-test, then-loop-i-test+then-goes_first}

pub loop-i-init : goal.loop-i-init
loop-i-init c = push_starts keys_order c.args.e c.args.row.now c.args.n c.requires.0 c.requires.1

pub loop-i-preserved : goal.loop-i-preserved
loop-i-preserved c =
    again_up keys_order blank c.loop-i.invariant.0 _ _ c.loop-i-test.true refl refl (sym c.if-goes_first.ensures)

pub returns : goal.returns
returns c =
    push_ends keys_order c.args.e c.args.row.now c.loop-i.row c.args.n c.loop-i.i c.requires.0 c.loop-i.invariant.0 c.loop-i.invariant.1
    (elim c.loop-i-test.branch [
      | else-loop-i-test w ↦ λ i0. absurd (omega arith)
      | then-loop-i-test+then-goes_first w ↦ λ _. sym w.if-goes_first.ensures
    ])
