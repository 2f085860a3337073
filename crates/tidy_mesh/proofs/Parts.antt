-- What each part asks for, of a mesh that is tidied: its firsts stand in a list that the parts know by itself and by its length. Assumes
-- nothing.
use Prim.Native.Nat.{ℕ, ◌*◌}
use native.Mathlib.Omega.{arith}
use mathlib.Core.Path.{◌≡◌, sym, subst}
use mathlib.Core.Bool.{true}
use mathlib.Core.List.{List}
use lib.ListN.{length}
use Rattle.lists.proofs.Table.{length_table, table_at}
use Rattle.mesh_topology.specs.Topology.{triangles_of}
use Rattle.mesh_topology.specs.Refusals.{all_below_count}
use Rattle.mesh.specs.Mesh.{Mesh, triangles_in}
use Rattle.tidy.specs.Tidy.{vertex_total, triangle_total, first_of, cause, firsts, causes}
use Rattle.tidy.proofs.Kept.{first}
use Rattle.tidy_causes.specs.Causes.{CanFind}
use Rattle.tidy_marks.specs.Marks.{Squeezable}
use Rattle.tidy_mesh.specs.Outcome.{TidyLent, Tidyable, Found}

module _ (m : Mesh) where
  firsts_long : length (firsts m) ≡ vertex_total m
  firsts_long = length_table (first_of m) (vertex_total m)

  causes_long : length (causes m) ≡ triangle_total m
  causes_long = length_table (cause m) (triangle_total m)

  -- what is said of the firsts and their count is said of a list that is the firsts, and of its length
  pub with_firsts : (P : List ℕ → ℕ → Type 0) {fs : List ℕ} → fs ≡ firsts m → P (firsts m) (vertex_total m) → P fs (length fs)
  with_firsts P e h = subst (λ (l : List ℕ). P l (length l)) (sym e) (subst (P (firsts m)) (sym firsts_long) h)

  -- the other way round
  pub of_firsts : (P : List ℕ → ℕ → Type 0) {fs : List ℕ} → fs ≡ firsts m → P fs (length fs) → P (firsts m) (vertex_total m)
  of_firsts P e h = subst (P (firsts m)) firsts_long (subst (λ (l : List ℕ). P l (length l)) e h)

  -- and of the causes too
  pub of_found : (P : List ℕ → ℕ → List ℕ → ℕ → Type 0) {fs cs : List ℕ} → Found m fs cs → P fs (length fs) cs (length cs)
      → P (firsts m) (vertex_total m) (causes m) (triangle_total m)
  of_found P {fs} {cs} e h =
      subst (P (firsts m) (vertex_total m) (causes m)) causes_long
      (subst (λ (k : List ℕ). P (firsts m) (vertex_total m) k (length k)) e.causes_are
      (of_firsts (λ l n. P l n cs (length cs)) e.firsts_are h))

  module _ {b : TidyLent} (t : Tidyable m b) where
    below : all_below_count (length (firsts m)) (triangles_in m) ≡ true
    below = rw firsts_long t.valid

    pub causes_ready : (links cs : List ℕ) → length links ≡ 3 * triangle_total m → length cs ≡ triangle_total m → CanFind (triangles_in m) (firsts m) links cs
    causes_ready links cs l c =
        record {
          below = below;
          few_vertices = omega (arith, t.few_vertices, firsts_long);
          few = omega (arith, t.few_triangles);
          three = l;
          one = c;
        }

    pub squeezable : {fs cs : List ℕ} → Found m fs cs → (words : ℕ) → words ≡ 3 * vertex_total m
        → Squeezable (triangles_of m.topology m.given m.indices (length fs)) fs cs words
    squeezable {fs} {cs} e words l =
        with_firsts (λ f n. Squeezable (triangles_of m.topology m.given m.indices n) f cs words) e.firsts_are
        (subst (λ (k : List ℕ). Squeezable (triangles_in m) (firsts m) k words) (sym e.causes_are) (record {
          below = below;
          firsts_below = λ v h. omega (arith, firsts_long, table_at (first_of m) (vertex_total m) v 0 (omega (arith, firsts_long)), (first m v).not_after_lem);
          few = omega (arith, t.few_vertices, firsts_long);
          one = causes_long;
          three = omega (arith, firsts_long);
        }))

    -- the coordinates' output has three words for each vertex
    pub words_long : length b.coordinates ≡ 3 * vertex_total m
    words_long = omega (arith, t.coordinates, t.threes)
