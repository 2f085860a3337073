-- `geometry::triangle_box`: the calls in turn, from the last. Assumes nothing.
use Rattle.replay_steps.proofs.geometry.triangle_box.Goals as goal

pub returns : goal.returns
returns c = rw (c.is_point-2.ensures, c.is_point.ensures, c.is_word.ensures, c.sdf_triangle_bounding_box-r.ensures, c.point-c.ensures, c.point-b.ensures, c.point-a.ensures)
