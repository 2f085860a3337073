-- "and tidying twice changes nothing" (document 02, §10), of two calls: the second is given the mesh that the first left. Definitions only;
-- proofs/Theorem.antt shows that they hold (`twice_by_replies`, `twice_after_calls`, `only_for_lengths`, and from C), proofs/Second.antt the
-- last (`not_refused`).
use Rattle.std.specs.Prelude.{ℕ, ◌*◌, ◌≡◌, length, replicate, Result, Ok}
use Rattle.lists.specs.Checks.{first_that_applies}
use Rattle.lists.specs.Table.{table}
use Rattle.mesh.specs.Mesh.{Mesh}
use Rattle.job_checks.specs.Refusals.{mesh_checks}
use Rattle.tidy.specs.Tidy.{tidied}
use Rattle.refusals.specs.declared.Refusal.{Refusal}
use Rattle.refusals.specs.Numbers.{Reply, refused, given, reply_of}
use Rattle.tidy_mesh.specs.declared.Kept.{Kept}
use Rattle.tidy_mesh.specs.Outcome.{TidyLent, tidy_outcome, GivesTidy}
use Rattle.c_tidy.specs.declared.SdfTidyAnswer.{SdfTidyAnswer}
use Rattle.c_tidy.specs.Tidy.{GivesTidyC}
use Rattle.tidy_meaning.specs.Tidied.{mesh_left, kept_in}

-- outputs as long as a mesh of so many vertices and triangles asks for
pub record OutputsFor (k : Kept) (c : TidyLent) : Type 0 where
  pub coordinates : length c.coordinates ≡ 3 * k.vertices
  pub indices : length c.indices ≡ 3 * k.triangles
  pub firsts : length c.firsts ≡ k.vertices
  pub causes : length c.causes ≡ k.triangles

-- Mesh n, of so many vertices and triangles, was tidied and this was left: n itself, with no tail, as nothing was squeezed out; each vertex
-- is its own first, so none was merged; no triangle has a cause, so none was dropped.
pub record NothingChanged (n : Mesh) (k : Kept) (left : TidyLent) : Type 0 where
  pub coordinates : left.coordinates ≡ n.vertices
  pub indices : left.indices ≡ n.indices
  pub none_merged : left.firsts ≡ table (λ v. v) k.vertices
  pub none_dropped : left.causes ≡ replicate k.triangles 0

-- The first call, with m and b, was answered the kept counts and left a mesh; the second was given that mesh and outputs c of its lengths. Its
-- reply is the same, both counts too, and nothing has changed.
abbrev pub TwiceByReplies : Mesh → TidyLent → Reply Kept → TidyLent → TidyLent → Reply Kept → TidyLent → Type 0
TwiceByReplies m b answer left c again second =
    GivesTidy (tidy_outcome m b) answer left → (k : Kept) → answer ≡ given k
    → OutputsFor k c → GivesTidy (tidy_outcome (mesh_left k left) c) again second
    → (again ≡ answer) × NothingChanged (mesh_left k left) k second

-- So it is of the answers of two calls of the public function, by its contract: the second answers the same.
abbrev pub TwiceAfterCalls : Mesh → TidyLent → Result Kept Refusal → TidyLent → TidyLent → Result Kept Refusal → TidyLent → Type 0
TwiceAfterCalls m b answer left c again second =
    GivesTidy (tidy_outcome m b) (reply_of answer) left → (k : Kept) → answer ≡ Ok k
    → OutputsFor k c → GivesTidy (tidy_outcome (mesh_left k left) c) (reply_of again) second
    → (again ≡ answer) × NothingChanged (mesh_left k left) k second

abbrev pub TwiceAfterCallsFromC : Mesh → TidyLent → SdfTidyAnswer → TidyLent → TidyLent → SdfTidyAnswer → TidyLent → Type 0
TwiceAfterCallsFromC m b answer left c again second =
    let k = kept_in answer in
    GivesTidyC (tidy_outcome m b) answer left → answer.number ≡ 0
    → OutputsFor k c → GivesTidyC (tidy_outcome (mesh_left k left) c) again second
    → (again ≡ answer) × NothingChanged (mesh_left k left) k second

-- With outputs of any lengths, a second call that is refused is refused by 5, and for their lengths.
abbrev pub OnlyForLengths : Mesh → TidyLent → Reply Kept → TidyLent → TidyLent → TidyLent → Type 0
OnlyForLengths m b answer left c second =
    GivesTidy (tidy_outcome m b) answer left → (k : Kept) → answer ≡ given k
    → (j : ℕ) → GivesTidy (tidy_outcome (mesh_left k left) c) (refused j) second
    → (j ≡ 5) × (OutputsFor k c → ⊥)

abbrev pub OnlyForLengthsFromC : Mesh → TidyLent → SdfTidyAnswer → TidyLent → TidyLent → SdfTidyAnswer → TidyLent → Type 0
OnlyForLengthsFromC m b answer left c again second =
    let k = kept_in answer in
    GivesTidyC (tidy_outcome m b) answer left → answer.number ≡ 0
    → GivesTidyC (tidy_outcome (mesh_left k left) c) again second → (again.number ≡ 0 → ⊥)
    → (again.number ≡ 5) × (OutputsFor k c → ⊥)

-- 2, 13, 3 and 4 refuse no tidied mesh where they did not refuse the given one: so a job with it is not refused by them either
abbrev pub NotRefused : Mesh → Type 0
NotRefused m = first_that_applies (mesh_checks m) ≡ 0 → first_that_applies (mesh_checks (tidied m)) ≡ 0
