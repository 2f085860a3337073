-- What a job that is not refused before the run is known to be. Each test of the list that did not apply is a fact. Assumes nothing.
use mathlib.Core.Path.{◌≡◌, sym, ap₂, ◌∙◌}
use mathlib.Core.Bool.{Bool, true, false, not, ◌||◌, false≢true}
use mathlib.Core.Logic.{◌⊎◌, inl, inr}
use mathlib.Core.List.{List}
use Prim.Native.Nat.{ℕ, ◌*◌, ◌%◌, ◌≤◌}
use native.Mathlib.Decide.{ℕ_discrete}
use native.Mathlib.Omega.{arith}
use lib.Dec.{ltb, eqb}
use lib.ListN.{length}
use lib.Ieee.{Float}
use borrow.Author.Tests.{ltb-false, eqb-true, ne_eqb, not-false}
use Rattle.lists.proofs.Checks.{Numbered, neither, none_applies}
use Rattle.grid.specs.declared.Grid.{Grid}
use Rattle.grid.specs.Index.{total}
use Rattle.grid.specs.Layers.{layers}
use Rattle.grid.specs.Bounds.{in_bounds}
use Rattle.mesh.specs.Mesh.{Mesh, Sound, vertex_count, triangles_in}
use Rattle.mesh_topology.specs.declared.Topology.TheVariants.{TriangleList}
use Rattle.mesh_topology.specs.Refusals.{all_below_count}
use Rattle.mesh_off_grid.specs.OffGrid.{all_on_grid}
use Rattle.run_state.specs.Told.{Fit}
use Rattle.job_checks.specs.declared.Lengths.{Lengths}
use Rattle.job_checks.specs.Refusals.{all_coordinates, wrong_grid, wrong_edition, wrong_vertices, wrong_topology, wrong_triangles, wrong_indices, wrong_places, wrong_lengths, checks, refusal_by}
use Rattle.job_checks.proofs.MeshPassed.{no_strip}

pub few_vertices : (vs : List Float) → wrong_vertices vs ≡ false → vertex_count vs ≤ 393216
few_vertices vs h =
    let uneven = not (eqb (length vs % 3) 0) in
    let many = ltb 393216 (vertex_count vs) in
    ltb-false 393216 (vertex_count vs) (neither uneven many (neither (uneven || many) (not (all_coordinates vs)) h).0).1

pub sound_of : (m : Mesh) → wrong_vertices m.vertices ≡ false → wrong_indices m ≡ false → Sound m
sound_of m vertices-right indices-right =
    record {
      few = omega (arith, few_vertices m.vertices vertices-right);
      below = not-false (all_below_count (vertex_count m.vertices) (triangles_in m)) indices-right;
    }

-- ---- the lengths

pub record Fits (g : Grid) (l : Lengths) : Type 0 where
  pub field : l.field ≡ total g
  pub names : l.names ≡ total g
  pub crossings : l.crossings ≡ 3 * total g
  pub rows : l.rows ≡ layers g
  pub cells : l.cells ≡ l.distances
  pub triangles : l.triangles ≡ l.distances

same : (a b : ℕ) → not (eqb a b) ≡ false → a ≡ b
same a b h = eqb-true a b (not-false (eqb a b) h)

fits : (g : Grid) (l : Lengths) → wrong_lengths g l ≡ false → Fits g l
fits g l h =
    let f = not (eqb l.field (total g)) in
    let n = not (eqb l.names (total g)) in
    let k = not (eqb l.crossings (3 * total g)) in
    let r = not (eqb l.rows (layers g)) in
    let c = not (eqb l.cells l.distances) in
    let t = not (eqb l.triangles l.distances) in
    let to-c = neither (f || n || k || r || c) t h in
    let to-r = neither (f || n || k || r) c to-c.0 in
    let to-k = neither (f || n || k) r to-r.0 in
    let to-n = neither (f || n) k to-k.0 in
    let to-f = neither f n to-n.0 in
    record {
      field = same l.field (total g) to-f.0;
      names = same l.names (total g) to-f.1;
      crossings = same l.crossings (3 * total g) to-n.1;
      rows = same l.rows (layers g) to-k.1;
      cells = same l.cells l.distances to-r.1;
      triangles = same l.triangles l.distances to-c.1;
    }

-- ---- the edition

one_or_two : (e : ℕ) → wrong_edition e ≡ false → (e ≡ 1) ⊎ (e ≡ 2)
one_or_two e h = go (ℕ_discrete e 1) (ℕ_discrete e 2)
  where
    go : Dec (e ≡ 1) → Dec (e ≡ 2) → (e ≡ 1) ⊎ (e ≡ 2)
    go (yes one) d = inl one
    go (no other) (yes two) = inr two
    go (no other) (no another) = absurd (false≢true (sym h ∙ ap₂ (λ (a : Bool) (b : Bool). not (a || b)) (ne_eqb e 1 other) (ne_eqb e 2 another)))

-- ---- all of it

pub record Accepted (g : Grid) (e : ℕ) (m : Mesh) (l : Lengths) : Type 0 where
  pub edition : (e ≡ 1) ⊎ (e ≡ 2)
  pub a_list : m.topology ≡ TriangleList
  pub fit : Fit g m
  pub on_grid : all_on_grid g m ≡ true
  pub long : Fits g l

-- no check has the number 0
numbered : (g : Grid) (e : ℕ) (m : Mesh) (l : Lengths) → Numbered (checks g e m l)
numbered g e m l = omega arith

-- each fact is found among the checks, wherever it stands in the list
pub accepted : (g : Grid) (e : ℕ) (m : Mesh) (l : Lengths) → refusal_by g e m l ≡ 0 → Accepted g e m l
unfolding refusal_by
accepted g e m l h =
    let p = none_applies (checks g e m l) (numbered g e m l) h in
    let grid-right : wrong_grid g ≡ false = search p in
    let edition_right : wrong_edition e ≡ false = search p in
    let vertices-right : wrong_vertices m.vertices ≡ false = search p in
    let topology-right : wrong_topology m ≡ false = search p in
    let triangles-right : wrong_triangles m ≡ false = search p in
    let indices-right : wrong_indices m ≡ false = search p in
    let places-right : wrong_places g m ≡ false = search p in
    let lengths-right : wrong_lengths g l ≡ false = search p in
    record {
      edition = one_or_two e edition_right;
      a_list = no_strip m.topology topology-right;
      fit = record {
        ready = record {
          bounded = not-false (in_bounds g) grid-right;
          sound = sound_of m vertices-right indices-right;
        };
        few = ltb-false 131072 (length (triangles_in m)) triangles-right;
      };
      on_grid = not-false (all_on_grid g m) places-right;
      long = fits g l lengths-right;
    }
