-- The parts together: where the list of firsts is the mesh's firsts and that of causes its causes, what the marks, the numbers, the list and the
-- packing leave is the tidied mesh. Assumes nothing.
use Prim.Native.Nat.{ℕ, ◌+◌, ◌*◌}
use mathlib.Core.Path.{◌≡◌, ap, ◌∙◌}
use mathlib.Core.Bool.{cond}
use mathlib.Core.List.{List}
use lib.ListN.{length}
use lib.Ieee.{Float}
use Rattle.lists.specs.Range.{count_below}
use Rattle.lists.specs.Joined.{joined}
use Rattle.picks.specs.Picks.{select}
use Rattle.mesh_topology.specs.declared.Triangle.{Triangle}
use Rattle.mesh_topology.specs.Topology.{triangles_of}
use Rattle.mesh_explicit.specs.Explicit.{explicit}
use Rattle.mesh.specs.Mesh.{Mesh}
use Rattle.tidy.specs.Padded.{padded, plus_zero}
use Rattle.tidy.specs.Tidy.{coordinates_at, vertex_total, triangle_total, kept_vertices, kept_triangles, tidied_coordinates, tidied_triangles, firsts, causes}
use Rattle.tidy.specs.Meaning.{Valid}
use Rattle.tidy_marks.specs.Marks.{Marks, is_marked, kept_by, used_by}
use Rattle.tidy_squeeze.specs.InFront.{new_numbers}
use Rattle.tidy_mesh.specs.Outcome.{Found, tidy_left}
use Rattle.tidy_mesh.proofs.Agree.{triangles_counted, vertices_counted, triangles_listed, vertices_packed}
use Rattle.tidy_mesh.proofs.Parts.{of_found}

module _ (m : Mesh) (ok : Valid m) {fs cs : List ℕ} (e : Found m fs cs) where
  abbrev ts : ℕ → List Triangle
  ts n = triangles_of m.topology m.given m.indices n

  pub kept_triangles_lem : {r : ℕ} → r ≡ count_below (kept_by cs) (length cs) → r ≡ kept_triangles m
  kept_triangles_lem {r} h = of_found m (λ l n k t. r ≡ count_below (kept_by k) t) e h ∙ triangles_counted m ok

  module _ {one : List Float} (marks : Marks (length fs) (λ v. cond (used_by (ts (length fs)) fs cs v) 1 0) one) where
    marks_are : Marks (vertex_total m) (λ v. cond (used_by (ts (vertex_total m)) (firsts m) (causes m) v) 1 0) one
    marks_are = of_found m (λ l n k t. Marks n (λ v. cond (used_by (ts n) l k v) 1 0) one) e marks

    pub kept_vertices_lem : {r : ℕ} → r ≡ count_below (is_marked (length fs) one) (length fs) → r ≡ kept_vertices m
    kept_vertices_lem {r} h = of_found m (λ l n k t. r ≡ count_below (is_marked n one) n) e h ∙ vertices_counted m ok marks_are

    module _ {two : List Float} (numbers : Marks (length fs) (λ v. cond (is_marked (length fs) one v) (count_below (is_marked (length fs) one) v + 1) 0) two) where
      numbers_are : Marks (vertex_total m) (λ v. cond (is_marked (vertex_total m) one v) (count_below (is_marked (vertex_total m) one) v + 1) 0) two
      numbers_are = of_found m (λ l n k t. Marks n (λ v. cond (is_marked n one v) (count_below (is_marked n one) v + 1) 0) two) e numbers

      pub listed_is : {out : List ℕ} {long : ℕ} → long ≡ 3 * triangle_total m
          → out ≡ padded 0 long (joined (λ i. new_numbers (ts (length fs)) fs two (select (kept_by cs) (length cs) i)) (count_below (kept_by cs) (length cs)))
          → out ≡ (tidy_left m).indices
      listed_is {out} {long} l h =
          of_found m (λ f n k t. out ≡ padded 0 long (joined (λ i. new_numbers (ts n) f two (select (kept_by k) t i)) (count_below (kept_by k) t))) e h
          ∙ ap (padded 0 long) (triangles_listed m ok marks_are numbers_are)
          ∙ ap (λ (k : ℕ). padded 0 k (explicit (tidied_triangles m))) l

      pub packed_is : {out : List Float} {long : ℕ} → long ≡ length m.vertices
          → out ≡ padded plus_zero long (joined (λ i. coordinates_at m.vertices (select (is_marked (length fs) two) (length fs) i)) (count_below (is_marked (length fs) two) (length fs)))
          → out ≡ (tidy_left m).coordinates
      packed_is {out} {long} l h =
          of_found m (λ f n k t. out ≡ padded plus_zero long (joined (λ i. coordinates_at m.vertices (select (is_marked n two) n i)) (count_below (is_marked n two) n))) e h
          ∙ ap (padded plus_zero long) (vertices_packed m ok marks_are numbers_are)
          ∙ ap (λ (k : ℕ). padded plus_zero k (tidied_coordinates m)) l
