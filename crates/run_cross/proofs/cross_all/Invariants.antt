-- `run_cross::cross_all`: after k triangles each entry is the number of those that cross there (`crates/run_cross_lines/proofs/Hits.antt`), and the total
-- that of the rays that graze them (`crates/run_cross_lines/proofs/Grazing.antt`). Assumes nothing.
use mathlib.Core.Path.{◌≡◌}
use Rattle.mesh.specs.Mesh.{mesh_of}
use Rattle.run_cross_lines.specs.Pass.{Counted}
use Rattle.run_cross_lines.proofs.Grazing.{grazed_before}
use Rattle.mesh.specs.Lent.{mesh_in}
use Rattle.run_cross.proofs.cross_all.Given as goal

abbrev pub invariant-loop-k : goal.invariant-loop-k
invariant-loop-k l =
    (l.total ≡ grazed_before l.grid (mesh_in l.mesh) l.k)
    × Counted l.pass l.grid (mesh_in l.mesh) l.k l.crossings
