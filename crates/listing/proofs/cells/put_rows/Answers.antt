-- `listing::cells::put_rows` meets its contract: a line for each layer, one after the other. Assumes nothing.
use native.Mathlib.Omega.{arith}
use Rattle.text.specs.Words.{line}
use Rattle.lists.proofs.Puts.{no_pieces, pieces_more, pieces_room, pieces_all}
use Rattle.listing.proofs.cells.put_rows.Goals as goal

pub loop-layer-init : goal.loop-layer-init
loop-layer-init c = no_pieces _ _ _ _ _

pub put_two-next-requires : goal.put_two-next-requires
put_two-next-requires c =
    omega (arith, pieces_room _ _ _ _ _ c.loop-layer.invariant c.loop-layer-test.true c.requires.rows_in_bounds)

pub loop-layer-preserved : goal.loop-layer-preserved
unfolding line
loop-layer-preserved c =
    pieces_more _ _ _ _ _ c.loop-layer.invariant c.loop-layer-test.true c.put_two-next.ensures.fact (omega (arith, c.put_two-next.ensures.upper_bound))

pub shape_of-out : goal.shape_of-out
shape_of-out c = c.loop-layer.invariant.put.long

pub returns : goal.returns
returns c = let all = pieces_all _ _ _ _ _ c.loop-layer.invariant c.loop-layer-test.false in record { fact = all.0; upper_bound = all.1 }
