-- `entries::clear`: every entry becomes the one that `none` gave, and that is the blank one. Assumes nothing.
use Rattle.std.proofs.Common.{rules}
use mathlib.Core.Path.{ap, ◌∙◌}
use lib.ListN.{length, replicate}
use Rattle.entries.proofs.Projections.{blank_row}
use Rattle.entries.proofs.clear.Goals as goal

pub returns : goal.returns
returns c =
    blank_row _ _ (c.fill.ensures.after (λ y. search rules) ∙ ap (replicate (length c.args.row.now)) c.none.ensures)
