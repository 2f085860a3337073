-- `facet_stale::all_orderly`: the cells under each triangle passed are a row, and one where they are not decides the answer. Assumes nothing.
use Prim.Native.Nat.{ℕ, ◌<◌}
use Rattle.facet_index.specs.Index.{index_of}
use Rattle.facet_index.specs.Places.{Orderly}
use Rattle.facet_stale.proofs.all_orderly.Given as goal

abbrev pub invariant-loop-facet : goal.invariant-loop-facet
invariant-loop-facet l = (k : ℕ) → k < l.facet → Orderly l.names (index_of l.starts l.list) k
