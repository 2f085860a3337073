-- The tidied mesh. Four facts say what it is: how many vertices and triangles it has, which given vertex each vertex is, and which given
-- triangle, renumbered, each triangle is. What follows speaks of these alone. Selected vertices are their own firsts and ascend, so their
-- bits are apart; numbers are given one to one, so no test changes: nothing in the tidied mesh has a cause to go. Assumes nothing.
use Prim.Native.Nat.{ℕ, ◌*◌, ◌<◌}
use native.Mathlib.Omega.{arith}
use mathlib.Core.Path.{◌≡◌, refl, sym, ap, ap₂, ◌∙◌}
use mathlib.Core.Bool.{true, false}
use mathlib.Core.List.{List}
use lib.ListN.{length}
use lib.Dec.{ltb}
use borrow.Author.Tests.{lt-ltb}
use Rattle.lists.proofs.Every.{every_each}
use Rattle.lists.proofs.Table.{length_table, table_at}
use Rattle.lists.proofs.Joined.{length_joined, joined_at}
use Rattle.picks.specs.Picks.{InTurn}
use Rattle.picks.proofs.Picks.{picked, select_count, count_up, in_turn}
use Rattle.mesh_topology.specs.declared.Triangle.{Triangle}
use Rattle.mesh_topology.specs.Topology.{triangle, kth}
use Rattle.mesh_topology.specs.Refusals.{below_count}
use Rattle.mesh_topology.proofs.Laws.{vertices_at_lem}
use Rattle.mesh_explicit.proofs.Laws.{explicit_names}
use Rattle.mesh.specs.Mesh.{Mesh, vertex_count, triangles_in}
use Rattle.tidy.specs.Numbers.{renumbered, two_equal_numbers, same_numbers, has_number}
use Rattle.tidy.specs.Tidy.{vertex_bits, coordinates_at, vertex_total, triangle_total, first_of, merged, is_kept, used, number_after, kept_vertices, kept_triangles, vertex_from, triangle_from, tidied, tidied_triangles, tidied_coordinates}
use Rattle.tidy.specs.Meaning.{Valid, Stays, Clean}
use Rattle.tidy.proofs.Coordinates.{coordinates_part, same_bits}
use Rattle.tidy.proofs.Numbers.{On, on_renumbered, has_renumbered, two_equal_renumbered, same_numbers_renumbered}
use Rattle.tidy.proofs.Kept.{first, kept_stays, Uses, used_uses, used_first, kept_used, number_apart}

module _ (m : Mesh) where
  -- ---- what it is

  -- its coordinates, as the definition joins them
  pub vertices_are : (tidied m).vertices ≡ tidied_coordinates m
  unfolding tidied
  vertices_are = refl

  pub coordinates_long : length (tidied m).vertices ≡ 3 * kept_vertices m
  unfolding tidied tidied_coordinates
  coordinates_long = length_joined (λ i. coordinates_at m.vertices (vertex_from m i)) 3 (λ i. refl) (kept_vertices m)

  pub vertices_long : vertex_total (tidied m) ≡ kept_vertices m
  vertices_long = omega (arith, coordinates_long)

  pub vertex_of_lem : (i : ℕ) → i < kept_vertices m → coordinates_at (tidied m).vertices i ≡ coordinates_at m.vertices (vertex_from m i)
  unfolding tidied tidied_coordinates
  vertex_of_lem i h =
      coordinates_part (tidied m).vertices i (omega (arith, vertices_long))
      ∙ joined_at (λ i. coordinates_at m.vertices (vertex_from m i)) 3 (λ i. refl) (kept_vertices m) i h

  pub bits_of_lem : (i : ℕ) → i < kept_vertices m → vertex_bits (tidied m).vertices i ≡ vertex_bits m.vertices (vertex_from m i)
  bits_of_lem i h = same_bits (tidied m).vertices m.vertices i (vertex_from m i) (vertex_of_lem i h)

  pub triangles_are : triangles_in (tidied m) ≡ tidied_triangles m
  unfolding tidied
  triangles_are = explicit_names (tidied_triangles m) (vertex_count (tidied m).vertices)

  pub triangles_long : triangle_total (tidied m) ≡ kept_triangles m
  unfolding tidied_triangles
  triangles_long = ap length triangles_are ∙ length_table (λ k. renumbered (number_after m) (merged m (triangle_from m k))) (kept_triangles m)

  pub triangle_of : (k : ℕ) → k < kept_triangles m
      → kth (triangles_in (tidied m)) k ≡ renumbered (number_after m) (merged m (triangle_from m k))
  unfolding tidied_triangles
  triangle_of k l =
      ap (λ (ts : List Triangle). kth ts k) triangles_are
      ∙ table_at (λ k. renumbered (number_after m) (merged m (triangle_from m k))) (kept_triangles m) k (triangle 0 0 0) l

  -- ---- where its vertices and triangles stood

  pub vertices_in_turn : InTurn (used m) (vertex_total m) (kept_vertices m) (vertex_from m)
  unfolding vertex_from kept_vertices
  vertices_in_turn = in_turn (used m) (vertex_total m)

  pub triangles_in_turn : InTurn (is_kept m) (triangle_total m) (kept_triangles m) (triangle_from m)
  unfolding triangle_from kept_triangles
  triangles_in_turn = in_turn (is_kept m) (triangle_total m)

  -- a used vertex has a number, and the vertex of that number stood where it stands
  pub number_below : (v : ℕ) → v < vertex_total m → used m v ≡ true → number_after m v < kept_vertices m
  unfolding number_after kept_vertices
  number_below v l h = count_up (used m) v (vertex_total m) l h

  pub from_number : (v : ℕ) → v < vertex_total m → used m v ≡ true → vertex_from m (number_after m v) ≡ v
  unfolding number_after vertex_from
  from_number v l h = select_count (used m) (vertex_total m) v l h

  pub number_from : (i : ℕ) → i < kept_vertices m → number_after m (vertex_from m i) ≡ i
  unfolding number_after vertex_from kept_vertices
  number_from i l = (picked (used m) (vertex_total m) i l).before

  -- each vertex is its own first, and comes after those before it: no two have the same bits
  pub vertices_apart : (i j : ℕ) → i < j → j < kept_vertices m → vertex_bits (tidied m).vertices i ≡ vertex_bits (tidied m).vertices j → ⊥
  vertices_apart i j l h e =
      (first m (vertex_from m j)).none_before (vertex_from m i)
      (omega (arith, vertices_in_turn.order i j l h, used_first m (vertex_from m j) (vertices_in_turn.passes j h)))
      (sym (bits_of_lem i (omega arith)) ∙ e ∙ bits_of_lem j h)

  module _ (ok : Valid m) where
    -- ---- the numbers of its triangles

    pub given_below : (k : ℕ) → k < triangle_total m → On (λ v. v < vertex_total m) (kth (triangles_in m) k)
    given_below k l =
        let r = vertices_at_lem (vertex_total m) (triangles_in m) k ok l in
        record { a = r.a_below; b = r.b_below; c = r.c_below }

    -- a number that a kept triangle has
    pub record Had (v : ℕ) : Type 0 where
      pub below : v < vertex_total m
      pub in_use : used m v ≡ true

    pub had : (k : ℕ) → k < kept_triangles m → On Had (merged m (triangle_from m k))
    unfolding merged
    had k l =
        let given = triangles_in_turn.below k l in
        let u = kept_used m (triangle_from m k) given (triangles_in_turn.passes k l) in
        let b = on_renumbered (λ v. v < vertex_total m) (λ v. v < vertex_total m) (first_of m) (kth (triangles_in m) (triangle_from m k))
        (λ v h. omega (arith, (first m v).not_after_lem, h)) (given_below (triangle_from m k) given) in
        record {
          a = record { below = b.a; in_use = u.a };
          b = record { below = b.b; in_use = u.b };
          c = record { below = b.c; in_use = u.c };
        }

    apart : (u v : ℕ) → Had u → Had v → number_after m u ≡ number_after m v → u ≡ v
    apart u v g h e = number_apart m u v g.in_use h.in_use e

    pub tidied_below : (k : ℕ) → k < kept_triangles m → On (λ v. v < kept_vertices m) (kth (triangles_in (tidied m)) k)
    tidied_below k l =
        rw triangle_of (on_renumbered Had (λ v. v < kept_vertices m) (number_after m) (merged m (triangle_from m k))
        (λ v h. number_below v h.below h.in_use) (had k l))

    -- so the tidied mesh is what refusal 4 leaves, too
    pub tidied_valid : Valid (tidied m)
    tidied_valid =
        every_each (below_count n) (triangle 0 0 0) (triangles_in (tidied m)) (λ k l.
        let b = tidied_below k (omega (arith, triangles_long)) in
        let t = kth (triangles_in (tidied m)) k in
        rw (below t.a b.a, below t.b b.b, below t.c b.c))
      where
        n : ℕ
        n = vertex_total (tidied m)

        below : (v : ℕ) → v < kept_vertices m → ltb v n ≡ true
        below v h = lt-ltb v n (omega (arith, vertices_long))

    -- ---- nothing in it has a cause to go

    pub clean : Clean (tidied m)
    clean =
        record {
          apart = λ v w l h. vertices_apart v w l (omega (arith, vertices_long));
          unequal = λ k h. unequal k (omega (arith, triangles_long));
          new = λ j k w h. new j k w (omega (arith, triangles_long));
          in_use = λ i h.
              let l : i < kept_vertices m = omega (arith, vertices_long) in
              held i l (used_uses m (vertex_from m i) (vertices_in_turn.passes i l));
        }
      where
        stood : (k : ℕ) → k < kept_triangles m → Stays m (triangle_from m k)
        stood k l = kept_stays m (triangle_from m k) (triangles_in_turn.passes k l)

        unequal : (k : ℕ) → k < kept_triangles m → two_equal_numbers (kth (triangles_in (tidied m)) k) ≡ false
        unequal k l =
            ap two_equal_numbers (triangle_of k l)
            ∙ two_equal_renumbered Had (number_after m) apart (merged m (triangle_from m k)) (had k l)
            ∙ (stood k l).unequal

        new : (j k : ℕ) → j < k → k < kept_triangles m
            → same_numbers (kth (triangles_in (tidied m)) j) (kth (triangles_in (tidied m)) k) ≡ false
        new j k w l =
            let i : j < kept_triangles m = omega arith in
            ap₂ same_numbers (triangle_of j i) (triangle_of k l)
            ∙ same_numbers_renumbered Had (number_after m) apart (merged m (triangle_from m j)) (merged m (triangle_from m k))
            (had j i) (had k l)
            ∙ (stood k l).new (triangle_from m j) (triangles_in_turn.order j k w l)

        -- the kept triangle that has a given vertex has it in its new place, under its new number
        held : (i : ℕ) → i < kept_vertices m → Uses m (vertex_from m i)
            → (k : ℕ) × (k < triangle_total (tidied m)) × (has_number (kth (triangles_in (tidied m)) k) i ≡ true)
        held i l u = go (triangles_in_turn.each u.at u.below u.stays)
          where
            go : (k : ℕ) × (k < kept_triangles m) × (triangle_from m k ≡ u.at)
                → (k : ℕ) × (k < triangle_total (tidied m)) × (has_number (kth (triangles_in (tidied m)) k) i ≡ true)
            go (k, h, e) = (
              k,
              omega (arith, triangles_long, h),
              ap₂ has_number (triangle_of k h) (sym (number_from i l))
                  ∙ has_renumbered Had (number_after m) apart (merged m (triangle_from m k)) (vertex_from m i) (had k h)
                  (record { below = vertices_in_turn.below i l; in_use = vertices_in_turn.passes i l })
                  ∙ ap (λ (j : ℕ). has_number (merged m j) (vertex_from m i)) e
                  ∙ u.holds,
            )
