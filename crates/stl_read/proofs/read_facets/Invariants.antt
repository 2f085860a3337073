-- `stl_read::read_facets`: after k turns the corners of the first k facets stand in the vertices, one facet behind the other. Assumes nothing.
use Prim.Native.Nat.{◌*◌}
use Rattle.lists.proofs.Puts.{Pieces}
use Rattle.float_bits.specs.Patterns.{floats_of}
use Rattle.stl.specs.File.{record_at, nine_of}
use Rattle.stl_read.proofs.read_facets.Given as goal

abbrev pub invariant-loop-k : goal.invariant-loop-k
invariant-loop-k l = Pieces (λ j. floats_of (nine_of (record_at l.file j))) 9 l.initial.vertices 0 l.count l.vertices l.k (9 * l.k)
