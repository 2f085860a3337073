-- `text_write::lines::put_number` meets its contract. Assumes nothing.
use mathlib.Core.Path.{refl}
use mathlib.Core.List.{append_assoc}
use borrow.Author.Rules.{rules}
use Rattle.lists.proofs.Puts.{said, and_then}
use Rattle.text_write.proofs.lines.put_number.Goals as goal

pub returns : goal.returns
returns c = record { put = said (simp append_assoc) refl (and_then c.put_all-next.ensures c.put_value_then.ensures.put); upper_bound = search rules }
