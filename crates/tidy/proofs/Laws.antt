-- A law for each sentence of document 02, §10, as specs/Meaning.antt says them: firsts are firsts, each dropped triangle is listed with a
-- true cause, kept ones retain their corner bits and order, and used vertices theirs. That nothing with a cause to go is kept is `clean` in
-- Tidied, that tidying twice changes nothing is Twice. And one outcome: no other list of firsts or of causes is true. Assumes nothing.
use Prim.Native.Nat.{ℕ, ◌≤◌, ◌<◌}
use native.Mathlib.Omega.{arith}
use mathlib.Core.Path.{◌≡◌, ap, ◌∙◌}
use mathlib.Core.List.{List}
use lib.Dec.{T}
use lib.ListN.{length, get_or}
use lib.Ieee.{nan, binary32, fits}
use Rattle.lists.proofs.Table.{table_at, is_table}
use Rattle.picks.proofs.Picks.{some_none, one_some}
use Rattle.mesh_topology.specs.Topology.{kth}
use Rattle.mesh.specs.Mesh.{Mesh, triangles_in, vertex_at, corners_of, corners_at}
use Rattle.tidy.specs.Numbers.{renumbered, same_numbers}
use Rattle.tidy.specs.Tidy.{vertex_bits, coordinates_at, vertex_total, triangle_total, first_of, merged, cause, number_after, kept_triangles, vertex_from, triangle_from, tidied, firsts, causes}
use Rattle.tidy.specs.Meaning.{Valid, First, Listed, stays, two_equal_lem, repeats, SameCorners, Retained, Squeezed}
use Rattle.tidy.proofs.Coordinates.{same_bits, same_points, bits_points}
use Rattle.tidy.proofs.Kept.{first, first_one, listed}
use Rattle.tidy.proofs.Tidied.{vertices_long, triangles_long, vertex_of_lem, triangle_of, vertices_in_turn, triangles_in_turn, number_below, from_number, Had, had}

module _ (m : Mesh) where
  -- ---- "merges vertices of identical bits (first kept)"

  pub firsts_true : (v : ℕ) → v < vertex_total m → First m v (get_or (firsts m) v 0)
  firsts_true v h = rw (table_at (first_of m) (vertex_total m) v 0 h) (first m v)

  pub firsts_one : (fs : List ℕ) → length fs ≡ vertex_total m → ((v : ℕ) → v < vertex_total m → First m v (get_or fs v 0)) → fs ≡ firsts m
  firsts_one fs e h = is_table 0 (first_of m) (vertex_total m) fs e (λ v l. first_one m v (get_or fs v 0) (h v l))

  -- ---- "each dropped one is listed with a true cause"

  -- only what is listed up to k matters
  listed_as_lem : (c d : ℕ → ℕ) (k : ℕ) → ((j : ℕ) → j ≤ k → d j ≡ c j) → Listed m c k → Listed m d k
  listed_as_lem c d k h (stays e p) = stays (h k (omega arith) ∙ e) p
  listed_as_lem c d k h (two_equal_lem e p) = two_equal_lem (h k (omega arith) ∙ e) p
  listed_as_lem c d k h (repeats e p) =
      repeats (h k (omega arith) ∙ e) (record {
        unequal = p.unequal;
        of = p.of;
        earlier = p.earlier;
        kept = h p.of (omega (arith, p.earlier)) ∙ p.kept;
        numbers = p.numbers;
      })

  pub causes_true : (k : ℕ) → k < triangle_total m → Listed m (λ j. get_or (causes m) j 0) k
  causes_true k h =
      listed_as_lem (cause m) (λ j. get_or (causes m) j 0) k (λ j l. table_at (cause m) (triangle_total m) j 0 (omega arith)) (listed m k)

  listed_one : (c : ℕ → ℕ) (k : ℕ) → Listed m c k → c k ≡ cause m k
  unfolding cause
  listed_one c k (stays e p) = rw (p.unequal, some_none (λ j. same_numbers (merged m j) (merged m k)) k p.new) e
  listed_one c k (two_equal_lem e p) = rw p e
  listed_one c k (repeats e p) =
      rw (p.unequal, one_some (λ j. same_numbers (merged m j) (merged m k)) k p.of p.earlier p.numbers) e

  pub causes_one : (cs : List ℕ) → length cs ≡ triangle_total m
      → ((k : ℕ) → k < triangle_total m → Listed m (λ j. get_or cs j 0) k)
      → cs ≡ causes m
  causes_one cs e h = is_table 0 (cause m) (triangle_total m) cs e (λ k l. listed_one (λ j. get_or cs j 0) k (h k l))

  -- ---- "squeezes out unused vertices"

  pub squeezed : Squeezed m (tidied m)
  squeezed =
      record {
        from = vertex_from m;
        order = rw vertices_long (vertices_in_turn m);
        coordinates = λ v h. vertex_of_lem m v (omega (arith, vertices_long m));
      }

  -- ---- "kept triangles retain their corner bits and order"

  module _ (ok : Valid m) where
    -- the vertex that a corner names in the tidied mesh stood where the first of the given corner stands
    there : (u : ℕ) → Had m ok (first_of m u)
        → coordinates_at (tidied m).vertices (number_after m (first_of m u)) ≡ coordinates_at m.vertices (first_of m u)
    there u h =
        vertex_of_lem m (number_after m (first_of m u)) (number_below m (first_of m u) h.below h.in_use)
        ∙ ap (coordinates_at m.vertices) (from_number m (first_of m u) h.below h.in_use)

    corner : (u : ℕ) → Had m ok (first_of m u) → vertex_bits (tidied m).vertices (number_after m (first_of m u)) ≡ vertex_bits m.vertices u
    corner u h = same_bits (tidied m).vertices m.vertices (number_after m (first_of m u)) (first_of m u) (there u h) ∙ (first m u).identical

    pub corners : (k : ℕ) → k < kept_triangles m
        → SameCorners m (kth (triangles_in m) (triangle_from m k)) (tidied m) (kth (triangles_in (tidied m)) k)
    unfolding merged renumbered
    corners k l =
        let t = kth (triangles_in m) (triangle_from m k) in
        let h = had m ok k l in
        rw triangle_of (record { a = corner t.a h.a; b = corner t.b h.b; c = corner t.c h.c })

    pub retained : Retained m (tidied m)
    retained =
        record {
          from = triangle_from m;
          order = rw triangles_long (triangles_in_turn m);
          corners = λ k h. corners k (omega (arith, triangles_long m));
        }

    -- and the very points, where each coordinate is an f32, as those of a lent slice are
    module _ (held : (i : ℕ) → T (fits binary32 (get_or m.vertices i nan))) where
      point : (u : ℕ) → Had m ok (first_of m u) → vertex_at (tidied m).vertices (number_after m (first_of m u)) ≡ vertex_at m.vertices u
      point u h =
          same_points (tidied m).vertices m.vertices (number_after m (first_of m u)) (first_of m u) (there u h)
          ∙ bits_points m.vertices held (first_of m u) u (first m u).identical

      pub corners_stay : (k : ℕ) → k < kept_triangles m → corners_at (tidied m) k ≡ corners_at m (triangle_from m k)
      unfolding corners_at corners_of merged renumbered
      corners_stay k l =
          let t = kth (triangles_in m) (triangle_from m k) in
          let h = had m ok k l in
          ap (corners_of (tidied m).vertices) (triangle_of m k l)
          ∙ λ i. record { a = point t.a h.a i; b = point t.b h.b i; c = point t.c h.c i }
