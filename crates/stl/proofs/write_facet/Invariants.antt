-- `stl::write_facet`: the normal, the nine numbers and the attributes are put one behind the other, from the front to the end. Assumes nothing.
use Prim.Native.Nat.{◌+◌, ◌*◌}
use lib.ListN.{get_or}
use Rattle.lists.proofs.Puts.{Pieces}
use Rattle.stl.specs.File.{bytes_of}
use Rattle.stl.proofs.write_facet.Given as goal

-- the first i numbers are put, behind the normal
abbrev pub invariant-loop-i : goal.invariant-loop-i
invariant-loop-i l = Pieces (λ j. bytes_of (get_or l.words j 0)) 4 l.initial.facet 12 9 l.facet l.i (12 + 4 * l.i)
