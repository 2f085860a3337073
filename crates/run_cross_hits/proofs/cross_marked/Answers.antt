-- `run_cross_hits::cross_marked`: the lines before v are crossed and those of them that graze counted. A line that is not marked is missed
-- (`crates/run_cross_lines/proofs/Hits.antt`), so that nothing is to be added there. Assumes nothing.
use Prim.Native.Nat.{◌+◌}
use native.Mathlib.Omega.{arith}
use mathlib.Core.Path.{refl, sym, ap, ap₂, ◌∙◌}
use Rattle.grid.specs.Axes.{count_on, next}
use Rattle.grid.proofs.Facts.{bounds_of, on_axis}
use Rattle.geo_ray.specs.declared.Three.{Three}
use Rattle.geo_ray.specs.Ray.{ray_of}
use Rattle.run_cross_lines.specs.Pass.{parts_at, ahead, row_hit}
use Rattle.run_cross_lines.proofs.Grown.{room_after, row_none, row_more, row_all, line_passed}
use Rattle.run_cross_lines.proofs.Hits.{must_miss, hit_ahead}
use Rattle.run_cross_lines.proofs.Grazing.{line_grazed_le, row_grazed_first, row_grazed_more, row_grazed_missed, row_grazed_le}
use Rattle.run_cross_hits.proofs.cross_marked.Goals as goal
use Rattle.run_cross_hits.proofs.cross_marked.Goals.{then-flags-at, else-flags-at}

pub loop-v-init : goal.loop-v-init
loop-v-init c =
    let a = c.args in
    let hits = row_hit a.z0.now a.z1.now a.z2.now a.ys a.xs in
    (row_grazed_first hits, row_none a.pass a.grid a.axis a.u hits a.crossings.now)

pub bounds-flags-at : goal.bounds-flags-at
bounds-flags-at c =
    let counted = c.count_on-count.ensures ∙ ap (λ x. count_on x c.args.grid) c.second.ensures in
    omega (arith, counted, (on_axis (bounds_of c.args.grid c.requires.grid_value) (next (next c.args.axis))).few)

pub three_at-requires : goal.three_at-requires
three_at-requires c =
    let counted = c.count_on-count.ensures ∙ ap (λ x. count_on x c.args.grid) c.second.ensures in
    omega (arith, counted, (on_axis (bounds_of c.args.grid c.requires.grid_value) (next (next c.args.axis))).few)

pub cross_line-grazed-requires-clause-hit_value : goal.cross_line-grazed-requires-clause-hit_value
cross_line-grazed-requires-clause-hit_value c = ap ahead c.ray_of-hit.ensures ∙ hit_ahead c.three_at.result c.args.ys c.args.xs

pub cross_line-grazed-requires-clause-room : goal.cross_line-grazed-requires-clause-room
cross_line-grazed-requires-clause-room c = room_after 1 2 refl c.requires.crossings_len c.requires.room c.loop-v.invariant.1

-- a line adds at most one
pub overflow_add-grazed : goal.overflow_add-grazed
overflow_add-grazed c =
    let a = c.args in
    let l = c.loop-v in
    let hits = row_hit a.z0.now a.z1.now a.z2.now a.ys a.xs in
    omega (arith, l.invariant.0, row_grazed_le hits l.v, c.cross_line-grazed.ensures.value, line_grazed_le c.ray_of-hit.result)

pub loop-v-preserved : goal.loop-v-preserved
loop-v-preserved c =
    let a = c.args in
    let l = c.loop-v in
    let hits = row_hit a.z0.now a.z1.now a.z2.now a.ys a.xs in
    let counted = c.count_on-count.ensures ∙ ap (λ x. count_on x a.grid) c.second.ensures in
    elim c.if-flags-at.branch [
      | then-flags-at w ↦
          let e = w.ray_of-hit.ensures ∙ ap (λ (t : Three). ray_of t a.ys a.xs) w.three_at.ensures in (
            w.grazed-is ∙ ap₂ ◌+◌ l.invariant.0 (rw e at w.cross_line-grazed.ensures.value) ∙ sym (row_grazed_more hits l.v),
            row_more a.pass a.grid a.axis a.u l.v hits l.invariant.1 (rw w.crossings-is (rw e at w.cross_line-grazed.ensures.grown)),
          )
      | else-flags-at w ↦
          let missed = must_miss (parts_at a.z0.now a.z1.now a.z2.now l.v) a.ys a.xs (sym (c.requires.marked.each l.v (omega (arith, counted))) ∙ w.if-flags-at.false) in (
            w.grazed-is ∙ l.invariant.0 ∙ sym (row_grazed_missed hits l.v missed),
            row_more a.pass a.grid a.axis a.u l.v hits l.invariant.1 (rw w.crossings-is (line_passed a.pass a.grid a.axis a.u l.v (hits l.v) l.crossings (λ i. rw missed))),
          )
    ]

pub returns-clause-grown : goal.returns-clause-grown
returns-clause-grown c =
    let a = c.args in
    let l = c.loop-v in
    let counted = c.count_on-count.ensures ∙ ap (λ x. count_on x a.grid) c.second.ensures in
    row_all a.pass a.grid a.axis a.u l.v (row_hit a.z0.now a.z1.now a.z2.now a.ys a.xs) (omega arith) l.invariant.1
