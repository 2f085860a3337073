-- `listing::cells::put_cells` meets its contract: a line for each cell, one after the other. Assumes nothing.
use Rattle.lists.proofs.Puts.{no_pieces, pieces_more, pieces_room, pieces_all}
use Rattle.listing.proofs.cells.put_cells.Goals as goal

pub loop-i-init : goal.loop-i-init
loop-i-init c = no_pieces _ _ _ _ _

pub put_cell-next-requires : goal.put_cell-next-requires
put_cell-next-requires c =
    pieces_room _ _ _ _ _ c.loop-i.invariant c.loop-i-test.true c.requires.field_in_bounds

pub loop-i-preserved : goal.loop-i-preserved
loop-i-preserved c =
    pieces_more _ _ _ _ _ c.loop-i.invariant c.loop-i-test.true (rw c.bits_of.ensures at c.put_cell-next.ensures.fact) c.put_cell-next.ensures.upper_bound

pub shape_of-out : goal.shape_of-out
shape_of-out c = c.loop-i.invariant.put.long

pub returns : goal.returns
returns c = let all = pieces_all _ _ _ _ _ c.loop-i.invariant c.loop-i-test.false in record { fact = all.0; upper_bound = all.1 }
