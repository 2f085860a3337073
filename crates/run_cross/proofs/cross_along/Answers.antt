-- `run_cross::cross_along`: the parts that are worked out make up the ray test of document 01 (`crates/run_cross_lines/proofs/Hits.antt`). Assumes nothing.
use mathlib.Core.Path.{◌∙◌}
use Rattle.geo_ray.specs.Ray.{cast_of}
use Rattle.run_cross_lines.specs.Pass.{hit_on, cast_hit}
use Rattle.run_cross_lines.proofs.Grown.{axis_as}
use Rattle.run_cross_lines.proofs.Hits.{cast_hits}
use Rattle.run_cross_lines.proofs.Grazing.{axis_grazed_as}
use Rattle.run_cross.proofs.cross_along.Goals as goal

pub returns : goal.returns
returns c =
    let a = c.args in
    let g = a.grid in
    let t = a.t in
    let axis = a.axis in
    let cast = c.cast_of-cast.ensures in
    let z0 = c.fill_across.new.z0 in
    let z1 = c.fill_across.new.z1 in
    let z2 = c.fill_across.new.z2 in
    let same = cast_hits g t axis z0 z1 z2 (rw (c.second.ensures, cast) at c.fill_across.ensures) in
    let parts = cast_hit g axis (cast_of axis t.a t.b t.c) z0 z1 z2 in
    record {
      grown = axis_as a.pass g axis parts (hit_on g t axis) same (rw cast at c.cross_rows.ensures.grown);
      value = (rw cast at c.cross_rows.ensures.result_value) ∙ axis_grazed_as g axis parts (hit_on g t axis) same;
    }
