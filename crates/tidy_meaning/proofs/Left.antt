-- What a tidying leaves, in the words of who finds it. An output is the tidied list with zeros behind it, so its front is that list and the
-- rest zeros; all else is a law of the tidied mesh. Tidied again, that mesh is itself, and as long as its outputs. Assumes nothing.
use Prim.Native.Nat.{ℕ, ◌*◌, ◌-◌, ◌≤◌}
use native.Mathlib.Omega.{arith}
use mathlib.Core.Path.{◌≡◌, refl, sym, ap, ap₂, ◌∙◌}
use mathlib.Core.List.{List, ◌++◌, append-nil}
use lib.Dec.{eqb}
use lib.ListN.{length, take, drop, replicate, length-append, length-replicate, take-append-drop}
use lib.Seq.{take_at, drop_at}
use Rattle.lists.specs.Table.{table}
use Rattle.lists.proofs.Table.{length_table, table_at}
use Rattle.mesh_topology.specs.declared.Topology.TheVariants.{TriangleList}
use Rattle.mesh_topology.specs.declared.Indices.TheVariants.{Given}
use Rattle.mesh_explicit.specs.Explicit.{explicit}
use Rattle.mesh_explicit.proofs.Laws.{explicit_long}
use Rattle.mesh.specs.Mesh.{Mesh, mesh_of}
use Rattle.tidy.specs.Padded.{padded, plus_zero}
use Rattle.tidy.specs.Tidy.{vertex_total, triangle_total, first_of, cause, is_kept, kept_vertices, kept_triangles, tidied_coordinates, tidied_triangles, tidied}
use Rattle.tidy.specs.Meaning.{Valid}
use Rattle.tidy.proofs.Tidied.{vertices_are, coordinates_long, vertices_long, triangles_are, triangles_long, clean}
use Rattle.tidy.proofs.Laws.{firsts_true, firsts_one, causes_true, causes_one, squeezed, retained}
use Rattle.tidy.proofs.Again.{no_more_vertices, no_more_triangles}
use Rattle.tidy.proofs.Twice.{nothing_more, twice}
use Rattle.tidy_mesh.specs.declared.Kept.{Kept}
use Rattle.tidy_mesh.specs.Outcome.{TidyLent, kept_counts, tidy_left}
use Rattle.tidy_meaning.specs.Tidied.{mesh_left, TidyMeans}
use Rattle.tidy_meaning.specs.Second.{NothingChanged}

padded_long : {A : Type 0} (z : A) (n : ℕ) (l : List A) → length l ≤ n → length (padded z n l) ≡ n
padded_long z n l h = omega (arith, length-append l (replicate (n - length l) z), length-replicate (n - length l) z)

module _ (m : Mesh) where
  coordinates_count : length (tidied_coordinates m) ≡ 3 * kept_vertices m
  coordinates_count = ap length (sym (vertices_are m)) ∙ coordinates_long m

  indices_count : length (explicit (tidied_triangles m)) ≡ 3 * kept_triangles m
  indices_count = omega (arith, explicit_long (tidied_triangles m), ap length (triangles_are m), triangles_long m)

  indices_are : (tidied m).indices ≡ explicit (tidied_triangles m)
  unfolding tidied
  indices_are = refl

  -- ---- the first time

  found : mesh_left (kept_counts m) (tidy_left m) ≡ tidied m
  unfolding tidied
  found =
      ap₂ (λ vs is. mesh_of vs TriangleList Given is)
      (take_at (tidied_coordinates m) _ (3 * kept_vertices m) coordinates_count)
      (take_at (explicit (tidied_triangles m)) _ (3 * kept_triangles m) indices_count)

  pub means : Valid m → TidyMeans m (kept_counts m) (tidy_left m)
  unfolding is_kept
  means ok =
      record {
        is_tidied = found;
        vertices = sym (ap vertex_total found ∙ vertices_long m);
        triangles = sym (ap triangle_total found ∙ triangles_long m);
        clean = rw found (clean m ok);
        retained = rw found (retained m ok);
        squeezed = rw found (squeezed m);
        first_each = length_table (first_of m) (vertex_total m);
        first_true = firsts_true m;
        cause_each = length_table (cause m) (triangle_total m);
        cause_true = causes_true m;
        cause_kept = λ j l. sym (ap (λ (c : ℕ). eqb c 0) (table_at (cause m) (triangle_total m) j 0 l));
        coordinates_each = padded_long plus_zero (length m.vertices) (tidied_coordinates m)
            (omega (arith, coordinates_count, no_more_vertices m));
        indices_each = padded_long 0 (3 * triangle_total m) (explicit (tidied_triangles m))
            (omega (arith, indices_count, no_more_triangles m));
        coordinates_tail =
            drop_at (tidied_coordinates m) _ (3 * kept_vertices m) coordinates_count
            ∙ ap (λ (l : ℕ). replicate (length m.vertices - l) plus_zero) coordinates_count;
        indices_tail =
            drop_at (explicit (tidied_triangles m)) _ (3 * kept_triangles m) indices_count
            ∙ ap (λ (l : ℕ). replicate (3 * triangle_total m - l) 0) indices_count;
      }

-- ---- the second time

-- a list of the output's own length has nothing behind it
no_tail : {A : Type 0} (z : A) (n : ℕ) (l : List A) → length l ≡ n → padded z n l ≡ l
no_tail z n l e = let none : n - length l ≡ 0 = omega arith in rw none (append-nil l)

pub again_left : (m : Mesh) → Valid m → NothingChanged (tidied m) (kept_counts m) (tidy_left (tidied m))
again_left m ok =
    record {
      coordinates =
          ap (padded plus_zero (length (tidied m).vertices)) (sym (vertices_are (tidied m)) ∙ ap (λ (n : Mesh). n.vertices) (twice m ok))
          ∙ no_tail plus_zero (length (tidied m).vertices) (tidied m).vertices refl;
      indices =
          ap (padded 0 (3 * triangle_total (tidied m))) (sym (indices_are (tidied m)) ∙ ap (λ (n : Mesh). n.indices) (twice m ok))
          ∙ no_tail 0 (3 * triangle_total (tidied m)) (tidied m).indices
          (omega (arith, ap length (indices_are m), indices_count m, triangles_long m));
      none_merged = (nothing_more m ok).none_merged ∙ ap (table (λ v. v)) (vertices_long m);
      none_dropped = (nothing_more m ok).none_dropped ∙ ap (λ (n : ℕ). replicate n 0) (triangles_long m);
    }

-- ---- nothing else means this

module _ (m : Mesh) (k : Kept) (left : TidyLent) (p : TidyMeans m k left) where
  same_vertices : k.vertices ≡ kept_vertices m
  same_vertices = p.vertices ∙ ap vertex_total p.is_tidied ∙ vertices_long m

  same_triangles : k.triangles ≡ kept_triangles m
  same_triangles = p.triangles ∙ ap triangle_total p.is_tidied ∙ triangles_long m

  -- an output is its front and its tail
  whole : {A : Type 0} (z : A) (n i j : ℕ) (l tidy : List A) → take i l ≡ tidy → drop i l ≡ replicate (n - i) z → i ≡ j → length tidy ≡ j
      → l ≡ padded z n tidy
  whole z n i j l tidy e f g h =
      sym (take-append-drop i l) ∙ ap₂ (λ x y. x ++ y) e (f ∙ ap (λ (c : ℕ). replicate (n - c) z) (g ∙ sym h))

  same_left : left ≡ tidy_left m
  same_left =
      λ i.
      record {
        coordinates = coordinates i;
        indices = indices i;
        firsts = firsts_one m left.firsts p.first_each p.first_true i;
        causes = causes_one m left.causes p.cause_each p.cause_true i;
      }
    where
      coordinates : left.coordinates ≡ (tidy_left m).coordinates
      coordinates =
          whole plus_zero (length m.vertices) (3 * k.vertices) (3 * kept_vertices m) left.coordinates (tidied_coordinates m)
          (ap (λ (n : Mesh). n.vertices) p.is_tidied ∙ vertices_are m) p.coordinates_tail (ap (λ (c : ℕ). 3 * c) same_vertices)
          (coordinates_count m)

      indices : left.indices ≡ (tidy_left m).indices
      indices =
          whole 0 (3 * triangle_total m) (3 * k.triangles) (3 * kept_triangles m) left.indices (explicit (tidied_triangles m))
          (ap (λ (n : Mesh). n.indices) p.is_tidied ∙ indices_are m) p.indices_tail (ap (λ (c : ℕ). 3 * c) same_triangles)
          (indices_count m)

  pub only_this : (k ≡ kept_counts m) × (left ≡ tidy_left m)
  only_this = (λ i. record { vertices = same_vertices i; triangles = same_triangles i }, same_left)
