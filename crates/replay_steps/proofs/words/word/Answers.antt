-- `words::word`: past the end by the tests, and else its four bytes. Assumes nothing.
use native.Mathlib.Omega.{arith}
use Rattle.replay_steps.proofs.Places.{word_past, word_here}
use Rattle.replay_steps.proofs.words.word.Goals as goal

pub returns-then-words-base : goal.returns-then-words-base
returns-then-words-base c = let a = c.args in word_past _ a.base a.k (omega arith)

pub returns-then-words-base-2 : goal.returns-then-words-base-2
returns-then-words-base-2 c = let a = c.args in word_past _ a.base a.k (omega arith)

pub returns : goal.returns
returns c = let a = c.args in word_here _ a.base a.k _ _ _ _ (omega arith) c.byte.ensures.1 c.byte-2.ensures.1 c.byte-3.ensures.1 c.byte-4.ensures.1
