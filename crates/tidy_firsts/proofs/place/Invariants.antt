-- `tidy_firsts::place`: the invariant is that the search has come to the link and knows what it holds; each next link lies behind the
-- last. Assumes nothing.
use Prim.Native.Nat.{◌*◌, ◌-◌}
use Rattle.float_bits.specs.Patterns.{bits_of}
use Rattle.tidy.specs.Tidy.{vertex_bits}
use Rattle.tidy_search.proofs.Search.{Searching}
use Rattle.tidy_firsts.proofs.place.Given as goal

abbrev pub invariant-loop-held : goal.invariant-loop-held
invariant-loop-held l =
    Searching (vertex_bits l.vertices) l.n (bits_of l.links) (vertex_bits l.vertices l.v) l.rest l.at l.held

abbrev pub decreases-loop-held : goal.decreases-loop-held
decreases-loop-held l = 3 * l.n - l.at
