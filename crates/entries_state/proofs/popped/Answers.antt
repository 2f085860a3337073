-- `popped`, by its test. Assumes nothing.
use mathlib.Core.Path.{◌∙◌}
use Rattle.entries_state.proofs.Counts.{spent, one_taken_lem}
use Rattle.entries_state.proofs.popped.Goals as goal

pub returns-then-at-terms : goal.returns-then-at-terms
returns-then-at-terms c = c.refused.ensures ∙ spent c.args.terms.limit c.args.at c.if-at-terms.true

pub returns : goal.returns
returns c = one_taken_lem c.args.terms.limit c.args.at c.if-at-terms.false
