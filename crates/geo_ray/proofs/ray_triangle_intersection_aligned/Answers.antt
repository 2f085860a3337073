-- `geo_ray::ray_triangle_intersection_aligned`: the parts make up the test. Assumes nothing.
use mathlib.Core.Path.{◌∙◌}
use Rattle.geo_ray.proofs.Rays.{in_parts}
use Rattle.geo_ray.proofs.ray_triangle_intersection_aligned.Goals as goal

pub returns : goal.returns
returns c =
    let s = c.args in
    (rw (
      c.along_x.ensures,
      c.across_y.ensures,
      c.across_z.ensures,
      c.cast_of-f.ensures,
      c.turned-q.ensures,
    ) at c.ray_of.ensures)
    ∙ in_parts s.o s.v0 s.v1 s.v2 s.axis
