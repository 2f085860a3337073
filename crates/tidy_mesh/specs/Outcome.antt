-- What tidying a mesh comes to as a call (document 02, §10): "Refusals: 2, 13, 3, 4, then 5 for lent lengths, all before any change";
-- "Both kept counts are returned. Lent outputs: coordinates as given, three indices a triangle, tails zero; a u32 a vertex (its first) and
-- a triangle (0 kept, or the cause)." It is one function of the mesh and of the outputs as they are lent. Definitions only.
use Rattle.std.specs.Prelude.{ℕ, zero, suc, ◌*◌, ◌%◌, ◌≤◌, ◌≡◌, Bool, not, ◌||◌, List, [], ◌∷◌, ◌++◌, eqb, length, Float}
use Rattle.lists.specs.Checks.{Check, first_that_applies}
use Rattle.refusals.specs.Numbers.{Reply, refused, given}
use Rattle.mesh.specs.Mesh.{Mesh}
use Rattle.mesh_explicit.specs.Explicit.{explicit}
use Rattle.job_checks.specs.Refusals.{mesh_checks}
use Rattle.tidy.specs.Padded.{padded, plus_zero}
use Rattle.tidy.specs.Tidy.{vertex_total, triangle_total, kept_vertices, kept_triangles, tidied_coordinates, tidied_triangles, firsts, causes}
use Rattle.tidy.specs.Meaning.{Valid}
use Rattle.tidy_mesh.specs.declared.Kept.{Kept}
use Rattle.tidy_mesh.specs.declared.Outputs.{Outputs}

-- the lent outputs
pub record TidyLent : Type 0 where
  pub coordinates : List Float
  pub indices : List ℕ
  pub firsts : List ℕ
  pub causes : List ℕ

abbrev pub tidy_lent_of : List Float → List ℕ → List ℕ → List ℕ → TidyLent
tidy_lent_of coordinates indices firsts causes = record { coordinates = coordinates; indices = indices; firsts = firsts; causes = causes }

-- ---- the refusals

-- how long they are
abbrev pub outputs_of : TidyLent → Outputs
outputs_of b =
    record {
      coordinates = length b.coordinates;
      indices = length b.indices;
      firsts = length b.firsts;
      causes = length b.causes;
    }

-- 5: coordinates not as many as given, indices not three a triangle, firsts not one a vertex, causes not one a triangle
abbrev pub wrong_outputs : Mesh → Outputs → Bool
wrong_outputs m l =
    not (eqb l.coordinates (length m.vertices))
    || not (eqb l.indices (3 * triangle_total m))
    || not (eqb l.firsts (vertex_total m))
    || not (eqb l.causes (triangle_total m))

-- "2, 13, 3, 4", which are the job's own checks of a mesh, "then 5"
abbrev pub tidy_checks : Mesh → TidyLent → List Check
tidy_checks m b = mesh_checks m ++ record { applies = wrong_outputs m (outputs_of b); number = 5 } ∷ []

unfoldable pub tidy_refusal : Mesh → TidyLent → ℕ
tidy_refusal m b = first_that_applies (tidy_checks m b)

-- ---- the outcome

abbrev pub tidy_left : Mesh → TidyLent
tidy_left m =
    record {
      coordinates = padded plus_zero (length m.vertices) (tidied_coordinates m);
      indices = padded 0 (3 * triangle_total m) (explicit (tidied_triangles m));
      firsts = firsts m;
      causes = causes m;
    }

abbrev pub kept_counts : Mesh → Kept
kept_counts m = record { vertices = kept_vertices m; triangles = kept_triangles m }

pub record TidyOutcome : Type 0 where
  -- refused by its number, or tidied, with what is kept
  pub answer : Reply Kept
  -- what each lent output then holds
  pub left : TidyLent

abbrev pub tidy_by : ℕ → Mesh → TidyLent → TidyOutcome
tidy_by zero m b = record { answer = given (kept_counts m); left = tidy_left m }
tidy_by (suc n) m b = record { answer = refused (suc n); left = b }

unfoldable pub tidy_outcome : Mesh → TidyLent → TidyOutcome
tidy_outcome m b = tidy_by (tidy_refusal m b) m b

-- ---- what a call promises

-- the number of an answer, 0 where nothing is refused; and the kept counts, 0 on a refusal
abbrev pub tidy_number : Reply Kept → ℕ
tidy_number (refused n) = n
tidy_number (given k) = 0

abbrev pub vertices_kept : Reply Kept → ℕ
vertices_kept (refused n) = 0
vertices_kept (given k) = k.vertices

abbrev pub triangles_kept : Reply Kept → ℕ
triangles_kept (refused n) = 0
triangles_kept (given k) = k.triangles

-- the reply that its answer is, by number and kept counts, and what it leaves in each lent output are those of the outcome
pub record GivesTidy (o : TidyOutcome) (answer : Reply Kept) (left : TidyLent) : Type 0 where
  pub answers : answer ≡ o.answer
  pub number : tidy_number answer ≡ tidy_number o.answer
  pub vertices : vertices_kept answer ≡ vertices_kept o.answer
  pub triangles : triangles_kept answer ≡ triangles_kept o.answer
  pub leaves : left ≡ o.left

-- ---- between the functions: what is known of a mesh that is tidied, and of the lent outputs

pub record Tidyable (m : Mesh) (b : TidyLent) : Type 0 where
  pub valid : Valid m
  pub threes : length m.vertices % 3 ≡ 0
  pub few_vertices : vertex_total m ≤ 393216
  pub few_triangles : triangle_total m ≤ 131072
  pub coordinates : length b.coordinates ≡ length m.vertices
  pub indices : length b.indices ≡ 3 * triangle_total m
  pub firsts : length b.firsts ≡ vertex_total m
  pub causes : length b.causes ≡ triangle_total m

-- and of the firsts and the causes, when they are found
pub record Found (m : Mesh) (fs cs : List ℕ) : Type 0 where
  pub firsts_are : fs ≡ firsts m
  pub causes_are : cs ≡ causes m
