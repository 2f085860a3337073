-- `listing::floats::fill` meets its contract. The invariant: the floats of the patterns below i are there. Assumes nothing.
use lib.ListN.{get_or}
use lib.Ieee.{binary32, of_bits}
use Rattle.float.specs.Arith.{f0}
use Rattle.lists.specs.Table.{Filled}
use Rattle.listing.proofs.floats.fill.Given as goal

abbrev pub invariant-loop-i : goal.invariant-loop-i
invariant-loop-i l = Filled f0 (λ k. of_bits binary32 (get_or l.bits k 0)) l.initial.floats l.i l.floats
