-- `stl::nine_bits`: after i turns the patterns of the first i numbers stand in the array (`Filled`). Assumes nothing.
use mathlib.Core.Path.{◌≡◌}
use lib.ListN.{length, get_or}
use lib.Ieee.{nan, binary32, to_bits}
use Rattle.lists.specs.Table.{Filled}
use Rattle.stl.proofs.nine_bits.Given as goal

abbrev pub invariant-loop-i : goal.invariant-loop-i
invariant-loop-i l = (length l.initial.words ≡ 9) × Filled 0 (λ k. to_bits binary32 (get_or l.corners k nan)) l.initial.words l.i l.words
