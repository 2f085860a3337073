-- `text_write_job::parts::put_table` meets its contract, by what was said. Assumes nothing.
use Rattle.text.specs.Words.{line}
use Rattle.lists.proofs.Puts.{nothing}
use Rattle.text_write_job.proofs.parts.put_table.Goals as goal

pub returns-in-None : goal.returns-in-None
returns-in-None c =
    rw c.in-None.is (nothing _ _)

pub returns-in-Some : goal.returns-in-Some
unfolding line
returns-in-Some c =
    rw c.in-Some.is c.put_number.ensures.put
