-- `text_write::bytes::put_all` meets its contract: the part of the slice that has the word's length is the word. Assumes nothing.
use native.Mathlib.Omega.{arith}
use Rattle.lists.proofs.Puts.{part}
use Rattle.text_write.proofs.bytes.put_all.Goals as goal

pub returns : goal.returns
returns c = rw c.copy_from_slice.ensures.after (part _ _ _ _ (omega arith) (omega arith) (omega arith))
