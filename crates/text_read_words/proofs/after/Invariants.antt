-- `text_read_words::after`: what is left of the word stands at the place where it is looked for, exactly if the whole word stands where the
-- search began. Assumes nothing.
use mathlib.Core.Path.{◌≡◌}
use lib.ListN.{drop}
use Rattle.text.specs.Reader.{word_at}
use Rattle.text_read_words.proofs.after.Given as goal

abbrev pub invariant-loop-b : goal.invariant-loop-b
invariant-loop-b l = word_at l.word (drop l.at l.text) ≡ word_at (drop l.b-index l.word) (drop l.k l.text)
