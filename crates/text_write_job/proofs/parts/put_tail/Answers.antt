-- `text_write_job::parts::put_tail` meets its contract: its lines stand one after the other. Assumes nothing.
use Rattle.text.specs.Words.{line}
use Rattle.text.specs.TextJob.{tail_text}
use Rattle.lists.proofs.Puts.{and_then}
use Rattle.text_write_job.proofs.parts.put_tail.Goals as goal

pub returns : goal.returns
unfolding tail_text line
returns c =
    and_then (and_then c.put_number-a.ensures.put c.put_number-b.ensures.put) c.put_table.ensures
