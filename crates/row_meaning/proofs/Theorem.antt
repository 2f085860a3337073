-- What a row means. The outcome's rows are those of its field, and where rays give the signs demand 3 says what each cell of a job that
-- is done holds. Assumes nothing.
use mathlib.Core.Path.{◌≡◌, sym, ap, ◌∙◌, subst}
use Rattle.terms.specs.declared.SignMethod.{SignMethod}
use Rattle.grid.specs.Index.{cell_at}
use Rattle.grid.proofs.Laws.{cell_within}
use Rattle.run.specs.Signs.{rows}
use Rattle.job_checks.specs.Job.{Job, Lent}
use Rattle.refusals.specs.Numbers.{reply_of}
use Rattle.job_outcome.specs.Outcome.{Answer, outcome}
use Rattle.job_outcome.proofs.Numbers.{number_0}
use Rattle.job_outcome.proofs.Passed.{done_edition}
use Rattle.c_job.specs.declared.SdfJobAnswer.{SdfJobAnswer}
use Rattle.demand_3.specs.Meaning.{CellMeans}
use Rattle.demand_3.specs.Demand3.{input_for}
use Rattle.demand_3.proofs.Theorem.{done_ended, demand_3}
use Rattle.row_meaning.specs.Rows.{RowsOfOutcome, RowsAfterCall, RowsAfterCallFromC}
use Rattle.row_meaning.proofs.Rows.{row_for_each, rows_by_sign, rows_add_up, rows_by_rays}

-- ---- the theorem

pub rows_mean : (j : Job) (b : Lent) → RowsOfOutcome j b
rows_mean j b t h =
    record {
      row_each = row_for_each j.edition j.grid (outcome j b).left rows_left;
      row_by_sign = rows_by_sign j.edition j.grid (outcome j b).left rows_left;
      one_or_two = done_edition j b t h;
      rows_sum = rows_add_up j.edition j.grid (outcome j b).left rows_left;
      by_rays = λ e.
          rows_by_rays j.edition j.grid j.mesh (input_for j b) (outcome j b).left
          (λ i l. subst (λ (s : SignMethod). CellMeans s j.grid j.mesh (input_for j b) (outcome j b).left.field (outcome j b).left.names (outcome j b).left.crossings (cell_at j.grid i)) e
          (demand_3 j b t h (cell_at j.grid i) (cell_within l)))
          rows_left;
    }
  where
    rows_left : (outcome j b).left.rows ≡ rows j.edition j.grid (outcome j b).left.field
    rows_left = rw (done_ended j b t h).fills

-- ---- the corollaries, of the lent buffers after a call

pub rows_after_a_call : (j : Job) (b : Lent) (answer : Answer) (left : Lent) → RowsAfterCall j b answer left
rows_after_a_call j b answer left gives t done = rw gives.leaves (rows_mean j b t (sym gives.answers ∙ ap reply_of done))

pub rows_after_a_call_from_c : (j : Job) (b : Lent) (answer : SdfJobAnswer) (left : Lent) → RowsAfterCallFromC j b answer left
rows_after_a_call_from_c j b answer left gives zero =
    let d = number_0 j b (sym (ap (λ (a : SdfJobAnswer). a.number) gives.answers) ∙ zero) in
    rw gives.leaves (rows_mean j b d.tally d.is)
