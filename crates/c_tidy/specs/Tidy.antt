-- How an answer about a tidied mesh reaches C. The outcome is that of crate `tidy_mesh`, unchanged. Definitions only.
use Rattle.std.specs.Prelude.{◌≡◌}
use Rattle.refusals.specs.Numbers.{Reply}
use Rattle.tidy_mesh.specs.declared.Kept.{Kept}
use Rattle.tidy_mesh.specs.Outcome.{TidyLent, TidyOutcome, tidy_number, vertices_kept, triangles_kept}
use Rattle.c_tidy.specs.declared.SdfTidyAnswer.{SdfTidyAnswer}

-- document 02's number and counts for each case of the answer
abbrev pub tidy_out : Reply Kept → SdfTidyAnswer
tidy_out a = record { number = tidy_number a; vertices = vertices_kept a; triangles = triangles_kept a }

-- what a call for C promises: its answer, and what it leaves in each lent output, are those of the outcome
pub record GivesTidyC (o : TidyOutcome) (answer : SdfTidyAnswer) (left : TidyLent) : Type 0 where
  pub answers : answer ≡ tidy_out o.answer
  pub leaves : left ≡ o.left
