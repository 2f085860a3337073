-- `geometry::distance`: the calls in turn, from the last. Assumes nothing.
use Rattle.replay_steps.proofs.geometry.distance.Goals as goal

pub returns : goal.returns
returns c = rw (c.is_real.ensures, c.is_word.ensures, c.sdf_point_triangle_distance-r.ensures, c.point-c.ensures, c.point-b.ensures, c.point-a.ensures, c.point-p.ensures)
