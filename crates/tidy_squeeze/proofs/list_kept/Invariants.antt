-- `tidy_squeeze::list_kept`: a piece for each kept triangle, one behind the other, and zeros behind them. Assumes nothing.
use Prim.Native.Nat.{ℕ}
use mathlib.Core.List.{List}
use lib.ListN.{length}
use lib.Ieee.{Float}
use Rattle.lists.proofs.Puts.{Pieces}
use Rattle.mesh_topology.specs.declared.Triangle.{Triangle}
use Rattle.mesh_topology.specs.Topology.{triangles_of}
use Rattle.tidy_marks.specs.Marks.{kept_by}
use Rattle.tidy_squeeze.specs.InFront.{piece_if, new_numbers}
use Rattle.tidy_squeeze.proofs.list_kept.Given as goal

abbrev pub piece : List Triangle → List ℕ → List ℕ → List Float → ℕ → List ℕ
piece ts firsts causes words = piece_if (kept_by causes) (new_numbers ts firsts words)

abbrev pub invariant-loop-k : goal.invariant-loop-k
invariant-loop-k l =
    Pieces (piece (triangles_of l.topology l.given l.indices (length l.firsts)) l.firsts l.causes l.words) 3 l.initial.out 0 (length l.causes) l.out l.k l.at
