-- `listing::cells::put_cell` meets its contract: the key and the three numbers stand one after the other. Assumes nothing.
use mathlib.Core.Path.{refl}
use borrow.Author.Rules.{rules}
use Rattle.text.specs.Words.{bytes, decimal, hex8, line}
use Rattle.lists.proofs.Puts.{said, and_then}
use Rattle.text_write.proofs.Words.{three_words}
use Rattle.listing.proofs.cells.put_cell.Goals as goal

pub returns : goal.returns
unfolding line
returns c =
    let a = c.args in
    let put = and_then (and_then (and_then c.put_all-a.ensures c.put_value_then-b.ensures.put) c.put_value_then-c.ensures.put) c.put_value_then.ensures.put in record { fact = said (three_words (bytes "cell=") (decimal a.index) (hex8 a.distance) (decimal a.name)) refl put; upper_bound = search rules }
