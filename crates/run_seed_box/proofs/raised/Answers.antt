-- `run_seed_box::raised`: by its one test. Assumes nothing.
use Rattle.run_seed_box.proofs.raised.Goals as goal

pub returns-then-i-count : goal.returns-then-i-count
returns-then-i-count c = rw c.if-i-count.true

pub returns-else-i-count : goal.returns-else-i-count
returns-else-i-count c = rw c.if-i-count.false
