-- What the parts leave, in the words of the tidied mesh. Each part speaks of the lists that it is given; where these are the firsts and the
-- causes of the mesh, its merged triangles, its causes, its used vertices and their numbers are the mesh's. Assumes nothing.
use Prim.Native.Nat.{ℕ, ◌+◌, ◌-◌, ◌<◌}
use native.Mathlib.Omega.{arith}
use mathlib.Core.Path.{◌≡◌, refl, sym, ap, ap₂, ◌∙◌}
use mathlib.Core.Bool.{Bool, true, false, not, cond, ◌&&◌}
use mathlib.Core.List.{List}
use lib.Dec.{eqb}
use lib.ListN.{length, get_or}
use lib.Ieee.{Float}
use borrow.Author.Tests.{ne_eqb}
use Rattle.lists.specs.Range.{count_below}
use Rattle.lists.specs.Table.{table}
use Rattle.lists.specs.Joined.{joined}
use Rattle.lists.proofs.Range.{count_same}
use Rattle.lists.proofs.Table.{table_at, table_same, length_table}
use Rattle.lists.proofs.Joined.{joined_same, joined_each}
use Rattle.picks.specs.Picks.{select}
use Rattle.picks.proofs.Picks.{some_same, select_same}
use Rattle.mesh_topology.specs.declared.Triangle.{Triangle}
use Rattle.mesh_topology.specs.Topology.{triangle}
use Rattle.mesh_topology.proofs.Laws.{vertices_at_lem}
use Rattle.mesh_explicit.specs.Explicit.{vertex_numbers, explicit}
use Rattle.mesh.specs.Mesh.{Mesh, triangles_in}
use Rattle.tidy.specs.Numbers.{renumbered, two_equal_numbers, same_numbers, has_number}
use Rattle.tidy.specs.Tidy.{coordinates_at, vertex_total, triangle_total, first_of, merged, cause, is_kept, used, number_after, kept_vertices, kept_triangles, vertex_from, triangle_from, tidied_triangles, tidied_coordinates, firsts, causes}
use Rattle.tidy.specs.Meaning.{Valid}
use Rattle.tidy.proofs.Tidied.{Had, had, triangles_in_turn}
use Rattle.tidy_causes.specs.Causes.{merged_by, cause_from, cause_by}
use Rattle.tidy_marks.specs.Marks.{Marks, mark_at, is_marked, kept_by, used_by}
use Rattle.tidy_squeeze.specs.InFront.{by_marks, new_numbers}

triangles : {x y z x' y' z' : ℕ} → x ≡ x' → y ≡ y' → z ≡ z' → triangle x y z ≡ triangle x' y' z'
triangles e f g = cc

-- a number is 0 or more as the test says
marked_one : (b : Bool) (x : ℕ) → not (eqb (cond b (x + 1) 0) 0) ≡ b
marked_one true x = ap not (ne_eqb (x + 1) 0 (λ e. omega arith))
marked_one false x = refl

module _ (m : Mesh) (ok : Valid m) where
  -- ---- merged triangles and causes

  pub merged_by_lem : (k : ℕ) → k < triangle_total m → merged_by (triangles_in m) (firsts m) k ≡ merged m k
  unfolding merged_by merged renumbered
  merged_by_lem k l =
      let t = vertices_at_lem (vertex_total m) (triangles_in m) k ok l in
      triangles (at _ t.a_below) (at _ t.b_below) (at _ t.c_below)
    where
      at : (v : ℕ) → v < vertex_total m → get_or (firsts m) v 0 ≡ first_of m v
      at v h = table_at (first_of m) (vertex_total m) v 0 h

  cause_by_lem : (k : ℕ) → k < triangle_total m → cause_by (triangles_in m) (firsts m) k ≡ cause m k
  unfolding cause_from cause
  cause_by_lem k l =
      ap₂ (λ (f s : Bool). cond f 1 (cond s 2 0)) (ap two_equal_numbers (merged_by_lem k l))
      (some_same (λ j. same_numbers (merged_by (triangles_in m) (firsts m) j) (merged_by (triangles_in m) (firsts m) k)) (λ j. same_numbers (merged m j) (merged m k)) k
      (λ j h. ap₂ same_numbers (merged_by_lem j (omega arith)) (merged_by_lem k l)))

  pub causes_by : table (cause_by (triangles_in m) (firsts m)) (triangle_total m) ≡ causes m
  causes_by = table_same (cause_by (triangles_in m) (firsts m)) (cause m) (triangle_total m) cause_by_lem

  kept_by_lem : (k : ℕ) → k < triangle_total m → kept_by (causes m) k ≡ is_kept m k
  unfolding is_kept
  kept_by_lem k l = ap (λ (c : ℕ). eqb c 0) (table_at (cause m) (triangle_total m) k 0 l)

  used_by_lem : (v : ℕ) → used_by (triangles_in m) (firsts m) (causes m) v ≡ used m v
  unfolding used
  used_by_lem v =
      some_same (λ k. kept_by (causes m) k && has_number (merged_by (triangles_in m) (firsts m) k) v)
      (λ k. is_kept m k && has_number (merged m k) v) (triangle_total m)
      (λ k l. ap₂ (λ (a b : Bool). a && b) (kept_by_lem k l) (ap (λ (t : Triangle). has_number t v) (merged_by_lem k l)))

  -- how many triangles are kept
  pub triangles_counted : count_below (kept_by (causes m)) (triangle_total m) ≡ kept_triangles m
  unfolding kept_triangles
  triangles_counted = count_same (kept_by (causes m)) (is_kept m) (triangle_total m) kept_by_lem

  -- ---- marks

  module _ {words : List Float} (marks : Marks (vertex_total m) (λ v. cond (used_by (triangles_in m) (firsts m) (causes m) v) 1 0) words) where
    marked_is : (v : ℕ) → v < vertex_total m → is_marked (vertex_total m) words v ≡ used m v
    marked_is v l =
        ap (λ (k : ℕ). not (eqb k 0)) (marks.is v l) ∙ marked_one (used_by (triangles_in m) (firsts m) (causes m) v) 0 ∙ used_by_lem v

    -- how many vertices are kept
    pub vertices_counted : count_below (is_marked (vertex_total m) words) (vertex_total m) ≡ kept_vertices m
    unfolding kept_vertices
    vertices_counted = count_same (is_marked (vertex_total m) words) (used m) (vertex_total m) marked_is

    -- ---- numbers

    module _ {new : List Float} (numbers : Marks (vertex_total m)
        (λ v. cond (is_marked (vertex_total m) words v) (count_below (is_marked (vertex_total m) words) v + 1) 0) new) where
      number_is : (v : ℕ) → Had m ok v → mark_at (vertex_total m) new v - 1 ≡ number_after m v
      unfolding number_after
      number_is v h =
          ap (λ (k : ℕ). k - 1) (numbers.is v h.below
          ∙ ap₂ (λ (b : Bool) (k : ℕ). cond b (k + 1) 0) (marked_is v h.below ∙ h.in_use)
          (count_same (is_marked (vertex_total m) words) (used m) v (λ i l. marked_is i (omega (arith, h.below)))))
          ∙ less (count_below (used m) v)
        where
          less : (k : ℕ) → k + 1 - 1 ≡ k
          less k = omega arith

      marked_still : (v : ℕ) → v < vertex_total m → is_marked (vertex_total m) new v ≡ used m v
      marked_still v l =
          ap (λ (k : ℕ). not (eqb k 0)) (numbers.is v l)
          ∙ marked_one (is_marked (vertex_total m) words v) (count_below (is_marked (vertex_total m) words) v) ∙ marked_is v l

      pub triangles_listed :
          joined (λ i. new_numbers (triangles_in m) (firsts m) new (select (kept_by (causes m)) (triangle_total m) i)) (count_below (kept_by (causes m)) (triangle_total m))
          ≡ explicit (tidied_triangles m)
      unfolding renumbered triangle_from tidied_triangles
      triangles_listed =
          ap (joined listed) triangles_counted
          ∙ joined_same listed (λ i. vertex_numbers (get_or (table tidy (kept_triangles m)) i (triangle 0 0 0))) (kept_triangles m)
          (λ i l. ap vertex_numbers (is i l ∙ sym (table_at tidy (kept_triangles m) i (triangle 0 0 0) l)))
          ∙ ap (joined (λ i. vertex_numbers (get_or (table tidy (kept_triangles m)) i (triangle 0 0 0)))) (sym (length_table tidy (kept_triangles m)))
          ∙ joined_each vertex_numbers (triangle 0 0 0) (table tidy (kept_triangles m))
        where
          listed : ℕ → List ℕ
          listed i = new_numbers (triangles_in m) (firsts m) new (select (kept_by (causes m)) (triangle_total m) i)

          tidy : ℕ → Triangle
          tidy k = renumbered (number_after m) (merged m (triangle_from m k))

          -- the i-th kept triangle by the marks is that of the tidied mesh
          is : (i : ℕ) → i < kept_triangles m
              → by_marks (length (firsts m)) new (merged_by (triangles_in m) (firsts m) (select (kept_by (causes m)) (triangle_total m) i)) ≡ tidy i
          is i l =
              let h = had m ok i l in
              let from = select_same (kept_by (causes m)) (is_kept m) (triangle_total m) i kept_by_lem in
              ap₂ (λ (n k : ℕ). by_marks n new (merged_by (triangles_in m) (firsts m) k)) (length_table (first_of m) (vertex_total m)) from
              ∙ ap (by_marks (vertex_total m) new) (merged_by_lem (triangle_from m i) ((triangles_in_turn m).below i l))
              ∙ triangles (number_is _ h.a) (number_is _ h.b) (number_is _ h.c)

      pub vertices_packed :
          joined (λ i. coordinates_at m.vertices (select (is_marked (vertex_total m) new) (vertex_total m) i)) (count_below (is_marked (vertex_total m) new) (vertex_total m))
          ≡ tidied_coordinates m
      unfolding tidied_coordinates kept_vertices vertex_from
      vertices_packed =
          joined_same (λ i. coordinates_at m.vertices (select (is_marked (vertex_total m) new) (vertex_total m) i))
          (λ i. coordinates_at m.vertices (select (used m) (vertex_total m) i)) (count_below (is_marked (vertex_total m) new) (vertex_total m))
          (λ i l. ap (coordinates_at m.vertices) (select_same (is_marked (vertex_total m) new) (used m) (vertex_total m) i marked_still))
          ∙ ap (joined (λ i. coordinates_at m.vertices (select (used m) (vertex_total m) i)))
          (count_same (is_marked (vertex_total m) new) (used m) (vertex_total m) marked_still)
