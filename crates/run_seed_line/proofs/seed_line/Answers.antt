-- `run_seed_line::seed_line`: the loop along z (`proofs/Along.antt`), in pieces of four. Assumes nothing.
use mathlib.Core.Path.{refl, ◌∙◌}
use Prim.Native.Nat.{◌+◌}
use native.Mathlib.Omega.{arith}
use Rattle.std.proofs.lemmas.Result.{err_from_is_err_and}
use Rattle.grid.proofs.Facts.{bounds_of}
use Rattle.run_seed_cells.specs.Parts.{along_line}
use Rattle.run_seed_cells.proofs.Told.{never_none}
use Rattle.run_seed_line.proofs.Along.{starts, goes_on, stops, ends}
use Rattle.run_seed_line.proofs.seed_line.Goals as goal

pub loop-z-init : goal.loop-z-init
loop-z-init c = starts

pub last_of_four-last-requires : goal.last_of_four-last-requires
last_of_four-last-requires c = c.loop-z-test.true

pub offer_four-requires : goal.offer_four-requires
offer_four-requires c =
    let inside = c.requires.grid_value.1 in record { grid_value = (c.requires.grid_value.0, record { x_below = inside.x_below; y_below = inside.y_below; z_below = omega (arith, inside.z_below, c.last_of_four-last.ensures.1) }, c.last_of_four-last.ensures.0, c.last_of_four-last.ensures.2); field_len = (c.loop-z.invariant.field_long ∙ c.requires.field_len.0, c.loop-z.invariant.names_long ∙ c.requires.field_len.1) }

pub returns-in_err-offer_four : goal.returns-in_err-offer_four
unfolding along_line
returns-in_err-offer_four c =
    let p = err_from_is_err_and c.from_residual.result c.from_residual.ensures.1 in
    rw (p.1, p.2) (stops c.loop-z.invariant _ _ (c.last_of_four-last.result + 1) _ (omega (arith, c.last_of_four-last.ensures.0)) (omega (arith, c.last_of_four-last.ensures.1)) c.in_err-offer_four.ensures (never_none _))

pub overflow_add-z : goal.overflow_add-z
overflow_add-z c =
    omega (arith, c.last_of_four-last.ensures.1, (bounds_of c.args.grid c.requires.grid_value.0).on_z.few, c.requires.grid_value.1.z_below)

pub loop-z-smaller : goal.loop-z-smaller
loop-z-smaller c =
    omega (arith, c.last_of_four-last.ensures.0, c.loop-z-test.true)

pub loop-z-preserved : goal.loop-z-preserved
unfolding along_line
loop-z-preserved c =
    goes_on c.loop-z.invariant _ _ (c.last_of_four-last.result + 1) _ (omega (arith, c.last_of_four-last.ensures.0)) (omega (arith, c.last_of_four-last.ensures.1)) c.in_ok-offer_four.ensures refl (omega arith) (omega arith)

pub returns : goal.returns
unfolding along_line
returns c = ends c.loop-z.invariant (omega arith)
