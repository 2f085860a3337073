-- `listing::floats::fill` meets its contract. The invariant: the floats of the patterns below i are there. Assumes nothing.
use native.Mathlib.Omega.{arith}
use mathlib.Core.Path.{refl, sym, ◌∙◌}
use lib.Ieee.{binary32, of_bits}
use Rattle.float.specs.Arith.{f0}
use Rattle.lists.proofs.Table.{filled_none, filled_more, filled_all, map_is_table}
use Rattle.listing.proofs.floats.fill.Goals as goal

pub loop-i-init : goal.loop-i-init
loop-i-init c = filled_none f0 _ c.args.floats.now

pub bounds-floats-i : goal.bounds-floats-i
bounds-floats-i c = omega (arith, c.requires, c.loop-i.invariant.long)

pub loop-i-preserved : goal.loop-i-preserved
loop-i-preserved c =
    filled_more f0 _ c.args.floats.now _ _ c.float_of.result (omega (arith, c.requires)) c.float_of.ensures c.loop-i.invariant

pub shape_of-floats : goal.shape_of-floats
shape_of-floats c = c.loop-i.invariant.long

pub returns : goal.returns
returns c =
    filled_all f0 _ _ _ _ _ (sym c.requires) c.loop-i-test.false c.loop-i.invariant
    ∙ sym (map_is_table (of_bits binary32) 0 c.args.bits.now _ refl)
