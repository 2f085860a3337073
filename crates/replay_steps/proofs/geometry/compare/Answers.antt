-- `geometry::compare`: the calls in turn, from the last; the order goes through its 32 bits and comes out as it was. Assumes nothing.
use Rattle.replay_steps.proofs.Orders.{order_kept}
use Rattle.replay_steps.proofs.geometry.compare.Goals as goal

pub returns : goal.returns
returns c = rw (c.is_word-2.ensures, c.is_word.ensures, c.order_word-order.ensures, c.sdf_compare_distances-r.ensures, c.real-b.ensures, c.real-a.ensures, order_kept _)
