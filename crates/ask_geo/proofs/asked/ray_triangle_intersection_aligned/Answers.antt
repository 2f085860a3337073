-- `asked::ray_triangle_intersection_aligned`: a ray's reply holds no NaN. Assumes nothing.
use Rattle.ask_geo.specs.Asked.{ray_nan}
use Rattle.geo_ray.specs.Ray.{ray_aligned}
use Rattle.ask_geo.proofs.Answers.{given, ray_no_nan}
use Rattle.ask_geo.proofs.asked.ray_triangle_intersection_aligned.Goals as goal

pub returns-clause-answered : goal.returns-clause-answered
returns-clause-answered c =
    let h = rw (c.within-4.ensures, c.within-3.ensures, c.within-2.ensures, c.within.ensures) at c.if-not-inside.false in
    let s = c.args in
    rw c.ray_triangle_intersection_aligned.ensures
    (given ray_nan (ray_aligned s.o s.v0 s.v1 s.v2 s.axis) h (ray_no_nan s.o s.v0 s.v1 s.v2 s.axis))
