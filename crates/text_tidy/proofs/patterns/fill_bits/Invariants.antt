-- `text_tidy::patterns::fill_bits` meets its contract. The invariant: the patterns of the floats below i are there. Assumes nothing.
use lib.ListN.{get_or}
use lib.Ieee.{nan, binary32, to_bits}
use Rattle.lists.specs.Table.{Filled}
use Rattle.text_tidy.proofs.patterns.fill_bits.Given as goal

abbrev pub invariant-loop-i : goal.invariant-loop-i
invariant-loop-i l = Filled 0 (λ k. to_bits binary32 (get_or l.floats k nan)) l.initial.bits l.i l.bits
