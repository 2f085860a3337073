-- `queued`, by its tests. Assumes nothing.
use native.Mathlib.Omega.{arith}
use mathlib.Core.Path.{◌∙◌}
use Rattle.entries_batch.proofs.Cells.{room_left, room_full}
use Rattle.entries_batch.proofs.queued.Goals as goal

pub returns-then-at-n : goal.returns-then-at-n
returns-then-at-n c =
    room_left c.args.at c.args.room _ c.if-at-room.true (omega (arith, c.if-at-n.true))

pub returns-else-at-n : goal.returns-else-at-n
returns-else-at-n c =
    room_left c.args.at c.args.room _ c.if-at-room.true (omega (arith, c.if-at-n.false))

pub returns : goal.returns
returns c =
    c.refused.ensures ∙ room_full c.args.at c.args.room c.if-at-room.false
