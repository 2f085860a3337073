-- `geo_ray::ray_of`: where a ray that may hit lies behind its origin, it does not graze either (`crates/geo_ray/proofs/Sides.antt`). Assumes nothing.
use Rattle.geo_ray.specs.Ray.{ray_of}
use Rattle.geo_ray.proofs.Sides.{no_graze}
use Rattle.geo_ray.proofs.ray_of.Goals as goal

pub returns-then-below-above : goal.returns-then-below-above
unfolding ray_of
returns-then-below-above c = rw (no_graze _ _ _ c.if-below-above.true, c.if-below-above.true, c.if-t.false)
