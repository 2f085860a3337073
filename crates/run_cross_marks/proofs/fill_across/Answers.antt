-- `run_cross_marks::fill_across`: the parts of the lines before i are there (`crates/run_cross_lines/proofs/Marks.antt`), and a row has at
-- most 1,024 lines. Assumes nothing.
use native.Mathlib.Omega.{arith}
use mathlib.Core.Path.{ap, ◌∙◌}
use Rattle.grid.proofs.Facts.{bounds_of, on_axis}
use Rattle.geo_ray.specs.Ray.{across_z}
use Rattle.run_cross_lines.proofs.Marks.{across_more}
use Rattle.run_cross_marks.proofs.fill_across.Goals as goal

pub centre-requires : goal.centre-requires
centre-requires c = omega (arith, c.count_on-count.ensures, (on_axis (bounds_of c.args.grid c.requires.grid_value) c.args.axis).few)

pub bounds-z0-at : goal.bounds-z0-at
bounds-z0-at c = omega (arith, c.count_on-count.ensures, (on_axis (bounds_of c.args.grid c.requires.grid_value) c.args.axis).few)

pub bounds-z1-at : goal.bounds-z1-at
bounds-z1-at c = omega (arith, c.count_on-count.ensures, (on_axis (bounds_of c.args.grid c.requires.grid_value) c.args.axis).few)

pub bounds-z2-at : goal.bounds-z2-at
bounds-z2-at c = omega (arith, c.count_on-count.ensures, (on_axis (bounds_of c.args.grid c.requires.grid_value) c.args.axis).few)

pub loop-i-preserved : goal.loop-i-preserved
loop-i-preserved c =
    let a = c.args in
    let l = c.loop-i in
    let count = c.count_on-count.ensures in
    let few = (on_axis (bounds_of a.grid c.requires.grid_value) a.axis).few in
    let long = c.requires.in_bounds in
    across_more a.grid a.axis a.cast l.i l.z0 l.z1 l.z2 c.across_z-part.result (omega arith) (omega arith) (omega arith) (c.across_z-part.ensures ∙ ap (across_z a.cast) c.centre.ensures) l.invariant
