-- `geometry::sdf_compare_distances`: the number and the order that an answer gives say which answer it is. Assumes nothing.
use Rattle.float_order.proofs.Laws.{answered}
use Rattle.sdf_c.proofs.geometry.sdf_compare_distances.Goals as goal

pub returns : goal.returns
returns c = rw (c.order_answer.ensures, answered c.args.a c.args.b c.compare.result c.compare.ensures)
