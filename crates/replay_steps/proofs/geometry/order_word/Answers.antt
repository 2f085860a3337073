-- `geometry::order_word`: by the test that led there. Assumes nothing.
use Rattle.replay_steps.proofs.Orders.{word_of, other_word}
use Rattle.replay_steps.proofs.geometry.order_word.Goals as goal

pub returns-then-order-eq0 : goal.returns-then-order-eq0
returns-then-order-eq0 c = word_of c.args.order 0 (record { sfits = c.well_formed.0 }) c.if-order-eq0.true

pub returns-then-order-eq1 : goal.returns-then-order-eq1
returns-then-order-eq1 c = word_of c.args.order 1 (record { sfits = c.well_formed.0 }) c.if-order-eq1.true

pub returns : goal.returns
returns c = other_word c.args.order c.if-order-eq0.false c.if-order-eq1.false
