-- `stl::read_facet`: after i turns the first i numbers stand in the corners (`Filled`). Assumes nothing.
use lib.ListN.{get_or}
use lib.Ieee.{nan, binary32, of_bits}
use Rattle.lists.specs.Table.{Filled}
use Rattle.stl.proofs.read_facet.Given as goal

abbrev pub invariant-loop-i : goal.invariant-loop-i
invariant-loop-i l = Filled nan (λ k. of_bits binary32 (get_or l.words k 0)) l.initial.corners l.i l.corners
