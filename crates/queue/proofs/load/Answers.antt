-- `queue::load` meets its contract: the three numbers at i are the entry at i. Assumes nothing.
use Rattle.queue.proofs.Flat.{at_entries}
use Rattle.queue.proofs.load.Goals as goal

pub returns : goal.returns
returns c =
    at_entries c.args.distances.now c.args.cells.now c.args.triangles.now c.args.i c.requires.0 c.requires.1 c.requires.2
