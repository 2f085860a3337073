-- `mesh_topology::corner`: in each arm the corners are known, so the bound on `i` is one on the indices or on the vertices. Assumes
-- nothing.
use borrow.Author.Rules.{rules}
use Prim.Native.Nat.{◌<◌}
use native.Mathlib.Nat.{zero-add}
use Rattle.mesh_topology.proofs.Laws.{length_count_from, count_from_at}
use Rattle.mesh_topology.proofs.corner.Goals as goal
use Rattle.mesh_topology.proofs.corner.Goals.{In-None}

number : (c : In-None) → c.args.i < c.args.vertices
number c = rw (c.in-None.is, length_count_from) at c.requires.1

pub overflow_cast-result : goal.overflow_cast-result
overflow_cast-result c = let h = number c in search rules

pub returns-in-None : goal.returns-in-None
returns-in-None c = rw (c.in-None.is, count_from_at _ _ _ (number c), zero-add)
