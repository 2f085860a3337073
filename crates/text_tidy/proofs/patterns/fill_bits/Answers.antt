-- `text_tidy::patterns::fill_bits` meets its contract. The invariant: the patterns of the floats below i are there. Assumes nothing.
use native.Mathlib.Omega.{arith}
use mathlib.Core.Path.{refl, sym, ◌∙◌}
use lib.Ieee.{nan, binary32, to_bits}
use Rattle.lists.proofs.Table.{filled_none, filled_more, filled_all, map_is_table}
use Rattle.text_tidy.proofs.patterns.fill_bits.Goals as goal

pub loop-i-init : goal.loop-i-init
loop-i-init c = filled_none 0 _ c.args.bits.now

pub bounds-bits-i : goal.bounds-bits-i
bounds-bits-i c = omega (arith, c.requires, c.loop-i.invariant.long)

pub loop-i-preserved : goal.loop-i-preserved
loop-i-preserved c =
    filled_more 0 _ c.args.bits.now _ _ c.bits_of.result (omega (arith, c.requires)) c.bits_of.ensures c.loop-i.invariant

pub shape_of-bits : goal.shape_of-bits
shape_of-bits c = c.loop-i.invariant.long

pub returns : goal.returns
returns c =
    filled_all 0 _ _ _ _ _ (sym c.requires) c.loop-i-test.false c.loop-i.invariant
    ∙ sym (map_is_table (to_bits binary32) nan c.args.floats.now _ refl)
