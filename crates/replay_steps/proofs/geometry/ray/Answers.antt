-- `geometry::ray`: the calls in turn, from the last. Assumes nothing.
use Rattle.replay_steps.proofs.geometry.ray.Goals as goal

pub returns : goal.returns
returns c = rw (c.is_real.ensures, c.is_word-3.ensures, c.is_word-2.ensures, c.is_word.ensures, c.sdf_ray_triangle_intersection_aligned-r.ensures, c.word-axis.ensures, c.point-c.ensures, c.point-b.ensures, c.point-a.ensures, c.point-o.ensures)
