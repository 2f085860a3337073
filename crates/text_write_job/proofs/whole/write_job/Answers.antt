-- `text_write_job::whole::write_job` meets its contract, by its tests. Assumes nothing.
use borrow.Author.Rules.{rules}
use mathlib.Core.Path.{refl}
use native.Mathlib.Omega.{arith}
use Rattle.text_write_job.proofs.whole.write_job.Goals as goal

pub returns-then-asked : goal.returns-then-asked
returns-then-asked c = (λ f. omega (arith, f.vertices_few, c.if-asked.true), refl)

pub returns : goal.returns
returns c = (search rules, c.put_job.ensures)
