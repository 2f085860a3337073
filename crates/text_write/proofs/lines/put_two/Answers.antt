-- `text_write::lines::put_two` meets its contract: the key and the two numbers stand one after the other. Assumes nothing.
use mathlib.Core.Path.{refl}
use borrow.Author.Rules.{rules}
use Rattle.text.specs.Words.{decimal}
use Rattle.lists.proofs.Puts.{said, and_then}
use Rattle.text_write.proofs.Words.{two_words}
use Rattle.text_write.proofs.lines.put_two.Goals as goal

pub returns : goal.returns
returns c =
    let s = c.args in
    let put = and_then (and_then c.put_all-first.ensures c.put_value_then-second.ensures.put) c.put_value_then.ensures.put in record { fact = said (two_words s.key.now (decimal s.a) (decimal s.b)) refl put; upper_bound = search rules }
