-- `run_cross::cross_triangle`: three growths, each of its own axis's entries (`crates/run_cross_lines/proofs/Grown.antt`), and no axis has more than
-- 1,048,576 rays. Assumes nothing.
use Prim.Native.Nat.{◌+◌}
use native.Mathlib.Omega.{arith}
use mathlib.Core.Path.{refl, ap₂, ◌∙◌}
use Rattle.point.specs.declared.Axis.TheVariants.{X, Y, Z}
use Rattle.run_cross_lines.specs.Pass.{hit_on, grazed_by}
use Rattle.run_cross_lines.proofs.Grown.{room_less, room_after, triangle_grown}
use Rattle.run_cross_lines.proofs.Grazing.{axis_grazed_le}
use Rattle.run_cross.proofs.cross_triangle.Goals as goal

pub cross_along-y-requires-clause-room : goal.cross_along-y-requires-clause-room
cross_along-y-requires-clause-room c =
    let room = room_after 4 5 refl c.requires.crossings_len c.requires.room c.cross_along-x.ensures.grown in
    room_less 3 4 c.cross_along-x.new.crossings (omega arith) room

pub cross_along-z-requires-clause-room : goal.cross_along-z-requires-clause-room
cross_along-z-requires-clause-room c =
    let x = c.cross_along-x.ensures.grown in
    let room = room_after 4 5 refl c.requires.crossings_len c.requires.room x in
    room_after 3 4 refl (x.long ∙ c.requires.crossings_len) room c.cross_along-y.ensures.grown

pub overflow_add-result : goal.overflow_add-result
overflow_add-result c =
    let g = c.args.grid in
    let ok = c.requires.grid_value in
    omega (arith, c.cross_along-x.ensures.value, axis_grazed_le g X (hit_on g c.args.t X) ok, c.cross_along-y.ensures.value, axis_grazed_le g Y (hit_on g c.args.t Y) ok)

pub overflow_add-result-2 : goal.overflow_add-result-2
overflow_add-result-2 c =
    let g = c.args.grid in
    let ok = c.requires.grid_value in
    omega (
      arith,
      c.cross_along-x.ensures.value,
      axis_grazed_le g X (hit_on g c.args.t X) ok,
      c.cross_along-y.ensures.value,
      axis_grazed_le g Y (hit_on g c.args.t Y) ok,
      c.cross_along-z.ensures.value,
      axis_grazed_le g Z (hit_on g c.args.t Z) ok,
    )

pub returns-clause-grown : goal.returns-clause-grown
returns-clause-grown c = triangle_grown c.args.pass c.args.grid c.args.t c.cross_along-x.ensures.grown c.cross_along-y.ensures.grown c.cross_along-z.ensures.grown

pub returns-clause-value : goal.returns-clause-value
unfolding grazed_by
returns-clause-value c = ap₂ ◌+◌ (ap₂ ◌+◌ c.cross_along-x.ensures.value c.cross_along-y.ensures.value) c.cross_along-z.ensures.value
