-- `text_write_job::parts::put_upright` meets its contract, by what was said. Assumes nothing.
use native.Mathlib.Omega.{arith}
use Rattle.lists.proofs.Puts.{nothing}
use Rattle.text_write_job.proofs.parts.put_upright.Goals as goal

pub returns-in-Some : goal.returns-in-Some
returns-in-Some c = record { put = rw c.in-Some.is c.put_axis.ensures.put; upper_bound = c.put_axis.ensures.upper_bound }

pub returns-in-None : goal.returns-in-None
returns-in-None c = record { put = rw c.in-None.is (nothing _ _); upper_bound = omega arith }
