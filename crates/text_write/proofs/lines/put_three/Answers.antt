-- `text_write::lines::put_three` meets its contract: the key and the three numbers stand one after the other. Assumes nothing.
use mathlib.Core.Path.{refl}
use borrow.Author.Rules.{rules}
use Rattle.text.specs.TextJob.{spelled}
use Rattle.lists.proofs.Puts.{said, and_then}
use Rattle.text_write.proofs.Words.{three_words}
use Rattle.text_write.proofs.lines.put_three.Goals as goal

pub returns : goal.returns
returns c =
    let a = c.args in
    let put = and_then (and_then (and_then c.put_all-x.ensures c.put_value_then-y.ensures.put) c.put_value_then-z.ensures.put) c.put_value_then.ensures.put in record { put = said (three_words a.key.now (spelled a.form a.t.x) (spelled a.form a.t.y) (spelled a.form a.t.z)) refl put; upper_bound = search rules }
