-- `queue::store` meets its contract: three stores at i are one of an entry. Assumes nothing.
use Rattle.queue.proofs.Flat.{set_entries}
use Rattle.queue.proofs.store.Goals as goal

pub returns : goal.returns
returns c = set_entries c.args.distances.now c.args.cells.now c.args.triangles.now c.args.i c.args.e
