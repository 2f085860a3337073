-- `text_tidy::whole::put_tidied` meets its contract: the merges, the drops and the job stand one after the other. Assumes nothing.
use Rattle.lists.proofs.Puts.{and_then}
use Rattle.text_tidy.proofs.whole.put_tidied.Goals as goal

pub returns : goal.returns
returns c =
    and_then (and_then c.put_went-merged.ensures.fact c.put_went-dropped.ensures.fact) c.put_kept.ensures
