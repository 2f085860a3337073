-- `run_cross_hits::cross_row`: where no line is marked every line is missed, and nothing is to be added. Assumes nothing.
use Prim.Native.Nat.{ℕ, ◌<◌}
use native.Mathlib.Omega.{arith}
use mathlib.Core.Path.{◌≡◌, sym, ap, ◌∙◌}
use mathlib.Core.Bool.{false}
use mathlib.Core.List.{List}
use lib.Ieee.{Float}
use Rattle.grid.specs.Axes.{count_on, next}
use Rattle.grid.proofs.Facts.{bounds_of, on_axis}
use Rattle.geo_ray.specs.declared.Three.{Three}
use Rattle.geo_ray.specs.declared.RayHit.TheVariants.{Miss}
use Rattle.run_cross_lines.specs.Pass.{parts_at, may_meet, row_hit}
use Rattle.run_cross_lines.proofs.Grown.{row_missed}
use Rattle.run_cross_lines.proofs.Hits.{must_miss}
use Rattle.run_cross_lines.proofs.Grazing.{row_grazed_none}
use Rattle.run_cross_hits.proofs.cross_row.Goals as goal

-- the lines of a row that has no mark
missed : (z0 z1 z2 : List Float) (ys xs : Three) {count lines : ℕ} → count ≡ lines → ((v : ℕ) → v < count → may_meet (parts_at z0 z1 z2 v) ys ≡ false)
    → (v : ℕ) → v < lines → row_hit z0 z1 z2 ys xs v ≡ Miss
missed z0 z1 z2 ys xs counted unmarked v below = must_miss (parts_at z0 z1 z2 v) ys xs (unmarked v (omega arith))

pub mark_row-any-requires : goal.mark_row-any-requires
mark_row-any-requires c =
    let counted = c.count_on-count.ensures ∙ ap (λ x. count_on x c.args.grid) c.second.ensures in
    let few = (on_axis (bounds_of c.args.grid c.requires.grid_value) (next (next c.args.axis))).few in
    let long = c.requires.u_bound in
    omega arith

pub returns-clause-grown : goal.returns-clause-grown
returns-clause-grown c =
    let a = c.args in
    let counted = c.count_on-count.ensures ∙ ap (λ x. count_on x a.grid) c.second.ensures in
    row_missed a.pass a.grid a.axis a.u (row_hit a.z0.now a.z1.now a.z2.now a.ys a.xs) a.crossings.now
    (missed a.z0.now a.z1.now a.z2.now a.ys a.xs counted (c.mark_row-any.ensures.fact c.if-any.false))

pub returns-clause-result_value : goal.returns-clause-result_value
returns-clause-result_value c =
    let a = c.args in
    let counted = c.count_on-count.ensures ∙ ap (λ x. count_on x a.grid) c.second.ensures in
    sym (row_grazed_none (row_hit a.z0.now a.z1.now a.z2.now a.ys a.xs) (count_on (next (next a.axis)) a.grid)
    (missed a.z0.now a.z1.now a.z2.now a.ys a.xs counted (c.mark_row-any.ensures.fact c.if-any.false)))
