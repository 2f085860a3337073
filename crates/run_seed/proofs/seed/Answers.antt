-- `run_seed::seed`: the state is the one after k turns, each a triangle. Assumes nothing.
use mathlib.Core.Path.{refl, ◌∙◌}
use native.Mathlib.Omega.{arith}
use Rattle.std.proofs.lemmas.Result.{err_from_is_err_and}
use Rattle.lists.proofs.Turns.{turns_none, turns_on, turns_stop, turns_end}
use Rattle.run_seed_cells.proofs.Told.{never_none}
use Rattle.run_seed_cells.specs.Parts.{over_triangle}
use Rattle.run_seed.proofs.seed.Goals as goal

pub loop-k-init : goal.loop-k-init
loop-k-init c = (c.triangle_count-n.ensures, refl, refl, turns_none _ _)

pub corners_at-corners-requires : goal.corners_at-corners-requires
corners_at-corners-requires c = record { sound = c.requires.sound; k_in_bounds = omega (arith, c.loop-k.invariant.0) }

pub overflow_cast-k : goal.overflow_cast-k
overflow_cast-k c = omega (arith, c.loop-k.invariant.0, c.requires.indices_len_bound)

pub seed_triangle-requires : goal.seed_triangle-requires
seed_triangle-requires c = record { grid_value = c.requires.grid_value; field_len = (c.loop-k.invariant.1 ∙ c.requires.field_len.0, c.loop-k.invariant.2 ∙ c.requires.field_len.1) }

pub returns-in_err-seed_triangle : goal.returns-in_err-seed_triangle
unfolding over_triangle
returns-in_err-seed_triangle c =
    let p = err_from_is_err_and c.from_residual.result c.from_residual.ensures.1 in
    let turned = rw c.corners_at-corners.ensures at c.in_err-seed_triangle.ensures in
    rw (p.1, p.2) (turns_stop _ _ _ _ _ _ _ _ c.loop-k.invariant.3 turned (never_none _) (omega (arith, c.loop-k.invariant.0)))

pub loop-k-preserved : goal.loop-k-preserved
unfolding over_triangle
loop-k-preserved c =
    let turned = rw c.corners_at-corners.ensures at c.in_ok-seed_triangle.ensures in
    (c.loop-k.invariant.0, omega arith, omega arith, turns_on _ _ _ _ _ _ c.loop-k.invariant.3 turned refl)

pub returns : goal.returns
returns c = let l = c.loop-k.invariant in turns_end _ _ _ _ _ l.3 (omega arith)
