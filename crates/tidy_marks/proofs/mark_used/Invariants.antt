-- `tidy_marks::mark_used`: the invariant is that the vertices of the kept triangles below k are marked, and no other. Assumes nothing.
use Prim.Native.Nat.{ℕ}
use mathlib.Core.Bool.{Bool, cond, ◌&&◌}
use mathlib.Core.List.{List}
use lib.ListN.{length}
use Rattle.picks.specs.Picks.{some}
use Rattle.mesh_topology.specs.declared.Triangle.{Triangle}
use Rattle.mesh_topology.specs.Topology.{triangles_of}
use Rattle.tidy.specs.Numbers.{has_number}
use Rattle.tidy_causes.specs.Causes.{merged_by}
use Rattle.tidy_marks.specs.Marks.{Marks, kept_by}
use Rattle.tidy_marks.proofs.mark_used.Given as goal

-- triangle k is kept and has vertex v
abbrev pub has : List Triangle → List ℕ → List ℕ → ℕ → ℕ → Bool
has ts firsts causes v k = kept_by causes k && has_number (merged_by ts firsts k) v

abbrev pub invariant-loop-k : goal.invariant-loop-k
invariant-loop-k l =
    let ts = triangles_of l.topology l.given l.indices (length l.firsts) in
    Marks (length l.firsts) (λ v. cond (some (has ts l.firsts l.causes v) l.k) 1 0) l.words
