-- `trial::asked`: each part that is lent is as long as it says, and the number is that of the answer that the public job's contract names. Assumes
-- nothing.
use borrow.Author.Rules.{rules}
use mathlib.Core.Path.{sym, ap, ◌∙◌}
use lib.Seq.{length-take-le}
use Rattle.job_outcome.specs.Outcome.{number_of}
use Rattle.replay_bounds.proofs.trial.asked.Goals as goal

pub slice_bounds-generate_grid_sdf-end : goal.slice_bounds-generate_grid_sdf-end
slice_bounds-generate_grid_sdf-end c = sym (length-take-le _ _ (search rules))

pub slice_bounds-generate_grid_sdf-end-2 : goal.slice_bounds-generate_grid_sdf-end-2
slice_bounds-generate_grid_sdf-end-2 c = sym (length-take-le _ _ (search rules))

pub slice_bounds-generate_grid_sdf-end-3 : goal.slice_bounds-generate_grid_sdf-end-3
slice_bounds-generate_grid_sdf-end-3 c = sym (length-take-le _ _ (search rules))

pub slice_bounds-generate_grid_sdf-end-4 : goal.slice_bounds-generate_grid_sdf-end-4
slice_bounds-generate_grid_sdf-end-4 c = sym (length-take-le _ _ (search rules))

pub slice_bounds-generate_grid_sdf-end-5 : goal.slice_bounds-generate_grid_sdf-end-5
slice_bounds-generate_grid_sdf-end-5 c = sym (length-take-le _ _ (search rules))

pub slice_bounds-generate_grid_sdf-end-6 : goal.slice_bounds-generate_grid_sdf-end-6
slice_bounds-generate_grid_sdf-end-6 c = sym (length-take-le _ _ (search rules))

pub slice_bounds-generate_grid_sdf-end-7 : goal.slice_bounds-generate_grid_sdf-end-7
slice_bounds-generate_grid_sdf-end-7 c = sym (length-take-le _ _ (search rules))

pub returns : goal.returns
returns c = c.number_of.ensures ∙ ap number_of c.generate_grid_sdf-answer.ensures.answers
