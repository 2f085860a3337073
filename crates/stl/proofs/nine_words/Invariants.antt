-- `stl::nine_words`: after i turns the first i words stand in the array (`Filled`). Assumes nothing.
use Prim.Native.Nat.{◌+◌, ◌*◌}
use mathlib.Core.Path.{◌≡◌}
use lib.ListN.{length}
use Rattle.lists.specs.Table.{Filled}
use Rattle.stl.specs.File.{u32_at}
use Rattle.stl.proofs.nine_words.Given as goal

abbrev pub invariant-loop-i : goal.invariant-loop-i
invariant-loop-i l = (length l.initial.words ≡ 9) × Filled 0 (λ k. u32_at l.facet (12 + 4 * k)) l.initial.words l.i l.words
