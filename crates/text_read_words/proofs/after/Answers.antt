-- `text_read_words::after`: what is left of the word stands at the place where it is looked for, exactly if the whole word stands where the
-- search began. Assumes nothing.
use mathlib.Core.Path.{sym, ◌∙◌}
use Rattle.text.proofs.Places.{word_more, word_short, word_differs, word_end}
use Rattle.text_read_words.proofs.after.Goals as goal

pub returns-then-text-k : goal.returns-then-text-k
returns-then-text-k c = sym (c.loop-b.invariant ∙ word_short _ _ _ _ c.loop-b-test.true c.if-text-k.true)

pub returns-then-text-k-2 : goal.returns-then-text-k-2
returns-then-text-k-2 c =
    sym (c.loop-b.invariant ∙ word_differs _ _ _ _ c.loop-b-test.true c.if-text-k.false c.if-text-k-2.true)

pub loop-b-preserved : goal.loop-b-preserved
loop-b-preserved c = c.loop-b.invariant ∙ word_more _ _ _ _ c.loop-b-test.true c.if-text-k.false c.if-text-k-2.false

pub returns : goal.returns
returns c = sym (c.loop-b.invariant ∙ word_end _ _ c.args.text.now c.loop-b.k c.loop-b-test.false)
