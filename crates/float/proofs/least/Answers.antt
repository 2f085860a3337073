-- `float::least`: each return by the tests that led there. Assumes nothing.
use mathlib.Core.Path.{sym, ◌∙◌}
use Rattle.float.proofs.Magnitude.{ne_itself}
use Rattle.float.proofs.least.Goals as goal

pub returns-then-x : goal.returns-then-x
returns-then-x c = rw (c.if-y-x.false, sym (ne_itself c.args.x) ∙ c.if-x.true)

pub returns-else-x : goal.returns-else-x
returns-else-x c = rw (c.if-y-x.false, sym (ne_itself c.args.x) ∙ c.if-x.false)
