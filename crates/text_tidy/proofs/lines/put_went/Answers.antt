-- `text_tidy::lines::put_went` meets its contract: after i turns the lines of the first i numbers stand there. Assumes nothing.
use native.Mathlib.Omega.{arith}
use Rattle.lists.proofs.Puts.{no_pieces, pieces_more, pieces_all}
use Rattle.text_tidy.specs.Tidied.{went_line}
use Rattle.text_tidy.proofs.lines.put_went.Goals as goal

pub loop-i-init : goal.loop-i-init
loop-i-init c = no_pieces _ _ _ _ _

pub put_line-next-requires : goal.put_line-next-requires
put_line-next-requires c =
    let inv = c.loop-i.invariant in
    let small = c.requires.short.small c.loop-i.i c.loop-i-test.true in record { at_in_bounds = omega (arith, inv.near, inv.put.long, c.loop-i-test.true, c.requires.values_in_bounds); i_bound = (omega (arith, c.loop-i-test.true, c.requires.short.few), small) }

pub loop-i-preserved : goal.loop-i-preserved
unfolding went_line
loop-i-preserved c =
    pieces_more _ _ _ _ _ c.loop-i.invariant c.loop-i-test.true c.put_line-next.ensures.put c.put_line-next.ensures.upper_bound

pub shape_of-out : goal.shape_of-out
shape_of-out c = c.loop-i.invariant.put.long

pub returns : goal.returns
returns c = let all = pieces_all _ _ _ _ _ c.loop-i.invariant c.loop-i-test.false in record { fact = all.0; upper_bound = all.1 }
