-- `tidy_mesh::tidy_accepted`: the firsts, the causes, the marks, their numbers, the triangles and the vertices are the tidied mesh's, one after the
-- other. Assumes nothing.
use native.Mathlib.Omega.{arith}
use Prim.Native.Nat.{ℕ}
use mathlib.Core.Path.{◌≡◌, ap, ◌∙◌}
use mathlib.Core.List.{List}
use lib.ListN.{length}
use lib.Ieee.{Float}
use Rattle.lists.specs.Table.{table}
use Rattle.mesh_topology.specs.Topology.{triangles_of}
use Rattle.mesh.specs.Mesh.{Mesh, mesh_of}
use Rattle.tidy.specs.Tidy.{vertex_total, first_of, firsts, causes}
use Rattle.tidy.specs.Meaning.{Valid}
use Rattle.tidy_firsts.specs.Firsts.{first_in}
use Rattle.tidy_causes.specs.Causes.{cause_by, CanFind}
use Rattle.tidy_mesh.specs.Outcome.{tidy_lent_of, tidy_left}
use Rattle.tidy_mesh.proofs.Agree.{causes_by}
use Rattle.tidy_mesh.proofs.Parts.{with_firsts, of_firsts, causes_ready}
use Rattle.mesh.specs.Lent.{mesh_in}
use Rattle.tidy_mesh.proofs.tidy_accepted.Goals as goal

left : (m : Mesh) {vs : List Float} {is fs cs : List ℕ} → vs ≡ (tidy_left m).coordinates → is ≡ (tidy_left m).indices → fs ≡ firsts m → cs ≡ causes m
    → tidy_lent_of vs is fs cs ≡ tidy_left m
left m e f g h = λ i. record { coordinates = e i; indices = f i; firsts = g i; causes = h i }

-- the firsts and the causes that were found are the mesh's
firsts_are : (m : Mesh) {fs : List ℕ} {n : ℕ} → n ≡ vertex_total m → fs ≡ table (first_in m.vertices) n → fs ≡ firsts m
unfolding first_of
firsts_are m e h = h ∙ ap (table (first_in m.vertices)) e

causes_are : (m : Mesh) {fs cs : List ℕ} → Valid m → fs ≡ firsts m →
    let ts = triangles_of m.topology m.given m.indices (length fs) in
    cs ≡ table (cause_by ts fs) (length ts) → cs ≡ causes m
causes_are m {cs = cs} ok f h =
    of_firsts m (λ l n. cs ≡ table (cause_by (triangles_of m.topology m.given m.indices n) l) (length (triangles_of m.topology m.given m.indices n))) f h
    ∙ causes_by m ok

pub find_firsts-requires : goal.find_firsts-requires
find_firsts-requires c =
    let t = c.requires in record { vertices_len = omega (arith, t.firsts, t.threes); links_len = t.coordinates; firsts_len_bound = omega (arith, t.firsts, t.few_vertices) }

pub find_causes-requires : goal.find_causes-requires
find_causes-requires c =
    let m : Mesh = mesh_in c.args.mesh in
    with_firsts m (λ l n. CanFind (triangles_of m.topology m.given m.indices n) l c.args.listed.now c.args.causes.now)
    (firsts_are m c.requires.firsts c.find_firsts.ensures)
    (causes_ready m c.requires c.args.listed.now c.args.causes.now c.requires.indices c.requires.causes)

pub squeeze-requires : goal.squeeze-requires
squeeze-requires c =
    let m : Mesh = mesh_in c.args.mesh in
    let t = c.requires in
    let f = firsts_are m t.firsts c.find_firsts.ensures in
    record {
      fact = record {
        valid = t.valid;
        threes = t.threes;
        few_vertices = t.few_vertices;
        few_triangles = t.few_triangles;
        coordinates = omega (arith, c.find_firsts.auto, t.coordinates);
        indices = omega (arith, c.find_causes.auto, t.indices);
        firsts = omega (arith, c.find_firsts.auto, t.firsts);
        causes = omega (arith, c.find_causes.auto, t.causes);
      };
      found = record { firsts_are = f; causes_are = causes_are m t.valid f c.find_causes.ensures };
    }

pub returns : goal.returns
returns c =
    let m : Mesh = mesh_in c.args.mesh in
    let f = firsts_are m c.requires.firsts c.find_firsts.ensures in
    record {
      value = c.squeeze.ensures.value;
      left_after = left m c.squeeze.ensures.fact_2.0 c.squeeze.ensures.fact_2.1 f (causes_are m c.requires.valid f c.find_causes.ensures);
    }
