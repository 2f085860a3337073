-- `geometry::segment`: the calls in turn, from the last. Assumes nothing.
use Rattle.replay_steps.proofs.geometry.segment.Goals as goal

pub returns : goal.returns
returns c = rw (c.is_point.ensures, c.is_word.ensures, c.sdf_closest_point_segment-r.ensures, c.point-b.ensures, c.point-a.ensures, c.point-p.ensures)
