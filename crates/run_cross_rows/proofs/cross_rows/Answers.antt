-- `run_cross_rows::cross_rows`: the rows before u are crossed, and those of their lines that graze counted (`crates/run_cross_lines/proofs/Grown.antt`). Assumes nothing.
use Prim.Native.Nat.{ℕ, ◌+◌}
use native.Mathlib.Omega.{arith}
use mathlib.Core.Path.{◌≡◌, refl, sym, ap, ap₂, ◌∙◌, subst}
use mathlib.Core.List.{List}
use lib.Ieee.{Float}
use Rattle.point.specs.declared.Axis.{Axis}
use Rattle.terms.specs.declared.Pass.{Pass}
use Rattle.grid.specs.declared.Grid.{Grid}
use Rattle.grid.specs.Axes.{count_on, next}
use Rattle.grid.proofs.Facts.{bounds_of, on_axis}
use Rattle.geo_ray.specs.declared.Cast.{Cast}
use Rattle.geo_ray.specs.declared.RayHit.{RayHit}
use Rattle.geo_ray.specs.declared.Three.{Three}
use Rattle.geo_ray.specs.Ray.{across_y, along_x}
use Rattle.run.specs.Grazed.{grazed_in_row}
use Rattle.run_cross_lines.specs.Lines.{centre_along}
use Rattle.run_cross_lines.specs.Pass.{Grown, row_crossed, row_hit, cast_hit}
use Rattle.run_cross_lines.proofs.Grown.{room_after, axis_none, axis_more, axis_all}
use Rattle.run_cross_lines.proofs.Grazing.{rows_grazed_first, rows_grazed_more, rows_grazed_le}
use Rattle.run_cross_rows.proofs.cross_rows.Goals as goal

-- what a row leaves and tells by its two parts, it leaves and tells by the cast
met : (pass : Pass) (g : Grid) (axis : Axis) (cast : Cast) (z0 z1 z2 : List Float) (u : ℕ) {told : ℕ} {old new : List ℕ} {across : Axis} {first last : Float} {ys xs : Three}
    → ys ≡ across_y cast last → last ≡ centre_along g across u → across ≡ next axis → xs ≡ along_x cast first → first ≡ centre_along g axis 0
    → Grown g (row_crossed pass g axis u (row_hit z0 z1 z2 ys xs)) old new → told ≡ grazed_in_row (count_on (next (next axis)) g) (row_hit z0 z1 z2 ys xs)
    → let hit = cast_hit g axis cast z0 z1 z2 u in Grown g (row_crossed pass g axis u hit) old new × (told ≡ grazed_in_row (count_on (next (next axis)) g) hit)
met pass g axis cast z0 z1 z2 u {told} {old} {new} y there on x here grown counted =
    subst (λ (hit : ℕ → RayHit). Grown g (row_crossed pass g axis u hit) old new × (told ≡ grazed_in_row (count_on (next (next axis)) g) hit))
    (ap₂ (λ (ys : Three) (xs : Three). row_hit z0 z1 z2 ys xs) (y ∙ ap (across_y cast) (there ∙ ap (λ (a : Axis). centre_along g a u) on)) (x ∙ ap (along_x cast) here))
    (grown, counted)

pub loop-u-init : goal.loop-u-init
loop-u-init c =
    let a = c.args in
    let hits = cast_hit a.grid a.axis a.cast a.z0.now a.z1.now a.z2.now in
    (rows_grazed_first a.grid a.axis hits, axis_none a.pass a.grid a.axis hits a.crossings.now)

pub centre-requires-in-loop-u : goal.centre-requires-in-loop-u
centre-requires-in-loop-u c =
    let counted = c.count_on-count.ensures ∙ ap (λ x. count_on x c.args.grid) c.next-across.ensures in
    omega (arith, counted, (on_axis (bounds_of c.args.grid c.requires.grid_value) (next c.args.axis)).few)

pub cross_row-grazed-requires-clause-room : goal.cross_row-grazed-requires-clause-room
cross_row-grazed-requires-clause-room c = room_after 2 3 refl c.requires.crossings_len c.requires.room c.loop-u.invariant.1

pub overflow_add-grazed : goal.overflow_add-grazed
overflow_add-grazed c =
    let a = c.args in
    let l = c.loop-u in
    let hits = cast_hit a.grid a.axis a.cast a.z0.now a.z1.now a.z2.now in
    let counted = c.count_on-count.ensures ∙ ap (λ x. count_on x a.grid) c.next-across.ensures in
    let few = (on_axis (bounds_of a.grid c.requires.grid_value) (next a.axis)).few in
    let row = met a.pass a.grid a.axis a.cast a.z0.now a.z1.now a.z2.now l.u c.across_y-ys.ensures c.centre-in-loop-u.ensures c.next-across.ensures c.along_x-xs.ensures c.centre.ensures
    c.cross_row-grazed.ensures.grown c.cross_row-grazed.ensures.result_value in
    let summed = ap₂ ◌+◌ l.invariant.0 row.1 ∙ sym (rows_grazed_more a.grid a.axis hits l.u) in
    omega (arith, summed, rows_grazed_le a.grid a.axis hits (l.u + 1) c.requires.grid_value)

pub loop-u-preserved : goal.loop-u-preserved
loop-u-preserved c =
    let a = c.args in
    let l = c.loop-u in
    let hits = cast_hit a.grid a.axis a.cast a.z0.now a.z1.now a.z2.now in
    let row = met a.pass a.grid a.axis a.cast a.z0.now a.z1.now a.z2.now l.u c.across_y-ys.ensures c.centre-in-loop-u.ensures c.next-across.ensures c.along_x-xs.ensures c.centre.ensures
    c.cross_row-grazed.ensures.grown c.cross_row-grazed.ensures.result_value in
    (ap₂ ◌+◌ l.invariant.0 row.1 ∙ sym (rows_grazed_more a.grid a.axis hits l.u), axis_more a.pass a.grid a.axis l.u hits l.invariant.1 row.0)

pub returns-clause-grown : goal.returns-clause-grown
returns-clause-grown c =
    let a = c.args in
    let l = c.loop-u in
    let counted = c.count_on-count.ensures ∙ ap (λ x. count_on x a.grid) c.next-across.ensures in
    axis_all a.pass a.grid a.axis l.u (cast_hit a.grid a.axis a.cast a.z0.now a.z1.now a.z2.now) (omega arith) l.invariant.1
