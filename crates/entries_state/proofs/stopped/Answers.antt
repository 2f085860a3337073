-- `stopped`, by its test. Assumes nothing.
use mathlib.Core.Path.{◌∙◌}
use Rattle.entries_state.proofs.Counts.{was_stopped, stops_now}
use Rattle.entries_state.proofs.stopped.Goals as goal

pub returns-then-at-ne0 : goal.returns-then-at-ne0
returns-then-at-ne0 c = was_stopped c.args.number c.args.at c.if-at-ne0.true

pub returns : goal.returns
returns c = c.refused.ensures ∙ stops_now c.args.number c.args.at c.if-at-ne0.false
