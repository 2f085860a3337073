-- A conversion is answered as the strip was: it has the same grid, terms and vertices and names the same triangles, so that the checks but 13,
-- the run, the rays and the rows are the same, and 13 does not apply to a list. Assumes nothing.
use Prim.Native.Nat.{ℕ, ◌*◌}
use native.Mathlib.Omega.{arith}
use mathlib.Core.Path.{◌≡◌, refl, sym, ap, ◌∙◌}
use mathlib.Core.List.{List, [], ◌∷◌}
use lib.ListN.{length, length-map}
use lib.Ieee.{binary32, of_bits}
use Rattle.mesh_topology.specs.declared.Topology.{Topology}
use Rattle.mesh_topology.specs.declared.Topology.TheVariants.{TriangleList, TriangleStrip}
use Rattle.mesh_topology.specs.Topology.{triangles_of}
use Rattle.terms.specs.declared.SignMethod.{SignMethod}
use Rattle.grid.specs.declared.Grid.{Grid}
use Rattle.mesh.specs.Mesh.{Mesh, vertex_count, triangles_in}
use Rattle.run.proofs.SameMesh.{SameMesh}
use Rattle.job_checks.specs.Job.{Lent}
use Rattle.job_checks.specs.Refusals.{lengths_of}
use Rattle.job_outcome.specs.Outcome.{Outcome, ended, run_of, unless_refused, outcome}
use Rattle.job_outcome.proofs.SameMesh.{job_with, run_same, ended_same}
use Rattle.text.specs.declared.Three.{Three}
use Rattle.text.specs.TextJob.{TextJob, flat, given_of, index_list, job_text}
use Rattle.text.proofs.Job.{one_job}
use Rattle.listing.specs.Listing.{asked_job, lent_for, listed, listing, Prints, listing_of, unreadable}
use Rattle.text_convert.specs.Converted.{triangles_named, converted_by, converted, conversion_of}
use Rattle.text_convert.proofs.Laws.{same_triangles, list_of, still_readable, one_conversion}
use Rattle.conversion_meaning.specs.AsBefore.{old_outcome, old_listing, PrintedAsBefore}
use Rattle.conversion_meaning.proofs.Checks.{refused_as_before}

-- ---- a text's triangles are those of the job that it asks for

flat_long : (vs : List Three) → length (flat vs) ≡ 3 * length vs
unfolding flat
flat_long [] = refl
flat_long (v ∷ vs) = omega (arith, flat_long vs)

vertices_counted : (j : TextJob) → vertex_count (asked_job j).mesh.vertices ≡ length j.vertices
vertices_counted j = omega (arith, length-map (flat j.vertices) (of_bits binary32), flat_long j.vertices)

triangles_asked : (j : TextJob) → triangles_in (asked_job j).mesh ≡ triangles_named j
triangles_asked j = ap (triangles_of j.head.topology (given_of j.indices) (index_list j.indices)) (vertices_counted j)

-- ---- the outcome

-- of two jobs with one grid, method, limit and edition whose meshes are the same, the second a list
pub outcome_as_before : (g : Grid) (sign : SignMethod) (limit edition : ℕ) {m n : Mesh}
    → SameMesh m n
    → n.topology ≡ TriangleList
    → (b : Lent)
    → outcome (job_with g sign limit edition n) b ≡ old_outcome (job_with g sign limit edition m) b
unfolding outcome old_outcome
outcome_as_before g sign limit edition {m} {n} same list b =
    let refused = refused_as_before g edition same (lengths_of b) list in
    let ends = sym (ended_same g sign limit edition same b (run_of (job_with g sign limit edition n) b)) ∙ ap (ended (job_with g sign limit edition m) b) (sym (run_same g sign limit edition same b)) in
    λ i. unless_refused (refused i) b (ends i)

same_mesh : (j : TextJob) → SameMesh (asked_job j).mesh (asked_job (converted j)).mesh
unfolding converted_by
same_mesh j =
    record {
      vertices = same_vertices j.head.topology;
      triangles = triangles_asked j ∙ sym (same_triangles j) ∙ sym (triangles_asked (converted j));
    }
  where
    same_vertices : (t : Topology) → (asked_job j).mesh.vertices ≡ (asked_job (converted_by t j)).mesh.vertices
    same_vertices TriangleList = refl
    same_vertices TriangleStrip = refl

-- a conversion has the same grid, method, limit, edition and buffers
pub record Kept (j k : TextJob) : Type 0 where
  pub grid : (asked_job k).grid ≡ (asked_job j).grid
  pub sign : (asked_job k).sign ≡ (asked_job j).sign
  pub limit : (asked_job k).limit ≡ (asked_job j).limit
  pub edition : (asked_job k).edition ≡ (asked_job j).edition
  pub lent : lent_for k.head k.tail ≡ lent_for j.head j.tail

kept : (j : TextJob) → Kept j (converted j)
unfolding converted_by
kept j = by j.head.topology
  where
    by : (t : Topology) → Kept j (converted_by t j)
    by TriangleList = record { grid = refl; sign = refl; limit = refl; edition = refl; lent = refl }
    by TriangleStrip = record { grid = refl; sign = refl; limit = refl; edition = refl; lent = refl }

-- "so that the field is what the strip gave": number, pops, peak, grazed rays and every buffer
pub as_before : (j : TextJob) (b : Lent) → outcome (asked_job (converted j)) b ≡ old_outcome (asked_job j) b
as_before j b =
    let m = (asked_job (converted j)).mesh in
    let k = kept j in
    (λ i. outcome (job_with (k.grid i) (k.sign i) (k.limit i) (k.edition i) m) b)
    ∙ outcome_as_before (asked_job j).grid (asked_job j).sign (asked_job j).limit (asked_job j).edition (same_mesh j) (list_of j) b

-- ---- the two programs, one after the other

listing_as_before : (j : TextJob) → listing (converted j) ≡ old_listing j
listing_as_before j =
    ap (λ (o : Outcome). listed o.answer o.left)
    (ap (outcome (asked_job (converted j))) (kept j).lent ∙ as_before j (lent_for j.head j.tail))

pub printed_as_before : (old conversion output : List ℕ) → PrintedAsBefore old conversion output
printed_as_before old conversion output j o e c p = by p
  where
    is : conversion ≡ job_text (converted j)
    is = one_conversion conversion (job_text (converted j)) c (conversion_of j o e refl)

    by : Prints conversion output → output ≡ old_listing j
    by (listing_of k r f u) = u ∙ ap listing (one_job k (converted j) r (still_readable j o.readable) (sym f ∙ is)) ∙ listing_as_before j
    by (unreadable none u) = absurd (none (converted j) (still_readable j o.readable) is)
