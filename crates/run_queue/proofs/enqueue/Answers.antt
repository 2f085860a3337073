-- `enqueue`: the room is full, or `push` puts the entry in. Assumes nothing.
use Rattle.run_queue.proofs.Queues.{full, put_in}
use Rattle.run_queue.proofs.enqueue.Goals as goal

pub returns-then-distances-n : goal.returns-then-distances-n
returns-then-distances-n c = rw c.refused.ensures (full _ c.requires c.if-distances-n.true)

pub returns : goal.returns
returns c =
    put_in _ c.requires c.if-distances-n.false c.push.ensures c.higher-peak.ensures
