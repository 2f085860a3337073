-- One outcome: what document 02, §10, asks of the tidied mesh holds of one mesh only. There is one way to name the used vertices in turn,
-- so the coordinates are fixed; of these no two have the same bits, so each corner names the one vertex that has the bits it retains.
-- Assumes nothing.
use Prim.Native.Nat.{ℕ, ◌<◌}
use native.Mathlib.Decide.{dec_lt}
use native.Mathlib.Omega.{arith}
use mathlib.Core.Path.{◌≡◌, refl, sym, ap, ◌∙◌, subst}
use mathlib.Core.List.{List}
use lib.Seq.{ext_get_or}
use lib.Ieee.{Float}
use Rattle.lists.specs.Joined.{joined}
use Rattle.lists.proofs.Joined.{joined_same}
use Rattle.picks.proofs.Picks.{turns_same, turns_long}
use Rattle.mesh_topology.specs.declared.Triangle.{Triangle}
use Rattle.mesh_topology.specs.Topology.{triangle, kth}
use Rattle.mesh_explicit.specs.Explicit.{explicit}
use Rattle.mesh.specs.Mesh.{Mesh, triangles_in}
use Rattle.tidy.specs.Tidy.{vertex_bits, coordinates_at, vertex_total, triangle_total, kept_vertices, kept_triangles, vertex_from, triangle_from, tidied_coordinates, tidied}
use Rattle.tidy.specs.Meaning.{Valid, SameCorners, ByIndices, IsTidied}
use Rattle.tidy.proofs.Numbers.{On}
use Rattle.tidy.proofs.Coordinates.{coordinates_whole}
use Rattle.tidy.proofs.Tidied.{coordinates_long, triangles_are, triangles_long, vertices_in_turn, triangles_in_turn, vertices_apart, given_below, tidied_below, tidied_valid}
use Rattle.tidy.proofs.Laws.{squeezed, corners, retained}

pub by_indices : (m : Mesh) → ByIndices (tidied m)
unfolding tidied
by_indices m =
    record {
      is_list = refl;
      has_indices = refl;
      no_index_over = ap explicit (sym (triangles_are m));
      no_coordinate_over = omega (arith, coordinates_long m);
    }

pub is_tidied : (m : Mesh) → Valid m → IsTidied m (tidied m)
is_tidied m ok = record { by_indices = by_indices m; valid = tidied_valid m ok; retained = retained m ok; squeezed = squeezed m }

module _ (m n : Mesh) (ok : Valid m) (p : IsTidied m n) where
  vertex_count_lem : vertex_total n ≡ kept_vertices m
  vertex_count_lem = turns_long p.squeezed.order (vertices_in_turn m)

  triangle_count_lem : triangle_total n ≡ kept_triangles m
  triangle_count_lem = turns_long p.retained.order (triangles_in_turn m)

  same_row : n.vertices ≡ (tidied m).vertices
  unfolding tidied tidied_coordinates
  same_row =
      sym (coordinates_whole n.vertices (vertex_total n) p.by_indices.no_coordinate_over)
      ∙ joined_same (coordinates_at n.vertices) (λ v. coordinates_at m.vertices (vertex_from m v)) (vertex_total n) (λ v h.
      p.squeezed.coordinates v h
      ∙ ap (coordinates_at m.vertices) (turns_same p.squeezed.order (vertices_in_turn m) v h (omega (arith, vertex_count_lem))))
      ∙ ap (joined (λ v. coordinates_at m.vertices (vertex_from m v))) vertex_count_lem

  -- one vertex has these bits
  named : (x y : ℕ) → x < kept_vertices m → y < kept_vertices m → vertex_bits n.vertices x ≡ vertex_bits (tidied m).vertices y → x ≡ y
  named x y h l e = go (dec_lt x y) (dec_lt y x)
    where
      f : vertex_bits (tidied m).vertices x ≡ vertex_bits (tidied m).vertices y
      f = ap (λ (vs : List Float). vertex_bits vs x) (sym same_row) ∙ e

      go : Dec (x < y) → Dec (y < x) → x ≡ y
      go (yes w) v = absurd (vertices_apart m x y w l f)
      go (no w) (yes v) = absurd (vertices_apart m y x v h (sym f))
      go (no w) (no v) = omega arith

  same_triangle : (k : ℕ) → k < kept_triangles m → kth (triangles_in n) k ≡ kth (triangles_in (tidied m)) k
  same_triangle k l = λ i.
      record {
        a = named s.a t.a (few s.a b.a) d.a (here.a ∙ sym there.a) i;
        b = named s.b t.b (few s.b b.b) d.b (here.b ∙ sym there.b) i;
        c = named s.c t.c (few s.c b.c) d.c (here.c ∙ sym there.c) i;
      }
    where
      s : Triangle
      s = kth (triangles_in n) k

      t : Triangle
      t = kth (triangles_in (tidied m)) k

      h : k < triangle_total n
      h = omega (arith, triangle_count_lem)

      here : SameCorners m (kth (triangles_in m) (triangle_from m k)) n s
      here =
          subst (λ (j : ℕ). SameCorners m (kth (triangles_in m) j) n s) (turns_same p.retained.order (triangles_in_turn m) k h l)
          (p.retained.corners k h)

      there : SameCorners m (kth (triangles_in m) (triangle_from m k)) (tidied m) t
      there = corners m ok k l

      b : On (λ v. v < vertex_total n) s
      b = given_below n p.valid k h

      d : On (λ v. v < kept_vertices m) t
      d = tidied_below m ok k l

      few : (v : ℕ) → v < vertex_total n → v < kept_vertices m
      few v w = omega (arith, vertex_count_lem)

  same_triangles : triangles_in n ≡ triangles_in (tidied m)
  same_triangles =
      ext_get_or (triangle 0 0 0) (triangles_in n) (triangles_in (tidied m)) (triangle_count_lem ∙ sym (triangles_long m))
      (λ k l. same_triangle k (omega (arith, triangle_count_lem)))

  pub one_outcome : n ≡ tidied m
  one_outcome = λ i.
      record {
        vertices = same_row i;
        topology = (p.by_indices.is_list ∙ sym (by_indices m).is_list) i;
        given = (p.by_indices.has_indices ∙ sym (by_indices m).has_indices) i;
        indices = (p.by_indices.no_index_over ∙ ap explicit same_triangles ∙ sym (by_indices m).no_index_over) i;
      }
