-- `text_write_job::parts::put_index_lines` meets its contract: a line for each index, one after the other. Assumes nothing.
use native.Mathlib.Omega.{arith}
use mathlib.Core.Path.{refl}
use Rattle.text.specs.Words.{line}
use Rattle.text.specs.TextJob.{index_line}
use Rattle.lists.proofs.Joined.{joined_each}
use Rattle.lists.proofs.Puts.{said, no_pieces, pieces_more, pieces_room, pieces_all}
use Rattle.text_write_job.proofs.parts.put_index_lines.Goals as goal

pub loop-index-init : goal.loop-index-init
loop-index-init c = no_pieces _ _ _ _ _

pub put_number-next-requires : goal.put_number-next-requires
put_number-next-requires c =
    omega (arith, pieces_room _ _ _ _ _ c.loop-index.invariant c.loop-index-test.true c.requires.room)

pub loop-index-preserved : goal.loop-index-preserved
unfolding line
loop-index-preserved c =
    pieces_more _ _ _ _ _ c.loop-index.invariant c.loop-index-test.true c.put_number-next.ensures.put (omega (arith, c.put_number-next.ensures.upper_bound))

pub shape_of-out : goal.shape_of-out
shape_of-out c = c.loop-index.invariant.put.long

pub returns : goal.returns
returns c =
    let put = pieces_all _ _ _ _ _ c.loop-index.invariant c.loop-index-test.false in
    record { put = said (joined_each index_line 0 c.args.indices.now) refl put.0; upper_bound = put.1 }
