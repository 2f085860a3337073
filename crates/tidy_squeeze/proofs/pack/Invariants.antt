-- `tidy_squeeze::pack`: a piece for each marked vertex, one behind the other, and zeros behind them. What is put stays in front of the marks that
-- are still to be read. Assumes nothing.
use Prim.Native.Nat.{ℕ}
use mathlib.Core.List.{List}
use lib.Ieee.{Float}
use Rattle.lists.proofs.Puts.{Pieces}
use Rattle.tidy.specs.Tidy.{coordinates_at}
use Rattle.tidy_marks.specs.Marks.{is_marked}
use Rattle.tidy_squeeze.specs.InFront.{piece_if}
use Rattle.tidy_squeeze.proofs.pack.Given as goal

abbrev pub piece : List Float → List Float → ℕ → ℕ → List Float
piece vertices words n = piece_if (is_marked n words) (coordinates_at vertices)

abbrev pub invariant-loop-v : goal.invariant-loop-v
invariant-loop-v l = Pieces (piece l.vertices l.initial.words l.n) 3 l.initial.words 0 l.n l.words l.v l.at
