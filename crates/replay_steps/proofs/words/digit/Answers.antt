-- `words::digit`: each way out has passed the tests that choose the same case of the definition. Assumes nothing.
use borrow.Author.Tests.{lt-ltb, le-ltb}
use native.Mathlib.Omega.{arith}
use Rattle.replay_steps.specs.Words.{sample_digit}
use Rattle.replay_steps.proofs.words.digit.Goals as goal

pub returns-then-b-lt48 : goal.returns-then-b-lt48
unfolding sample_digit
returns-then-b-lt48 c = (omega arith, rw (lt-ltb c.args.b 48 (omega arith)))

pub returns-then-b-lt58 : goal.returns-then-b-lt58
unfolding sample_digit
returns-then-b-lt58 c = let b = c.args.b in (omega arith, rw (le-ltb b 48 (omega arith), lt-ltb b 58 (omega arith)))

pub returns-then-b-lt97 : goal.returns-then-b-lt97
unfolding sample_digit
returns-then-b-lt97 c =
    let b = c.args.b in
    (omega arith, rw (le-ltb b 48 (omega arith), le-ltb b 58 (omega arith), lt-ltb b 97 (omega arith)))

pub returns-then-b-lt103 : goal.returns-then-b-lt103
unfolding sample_digit
returns-then-b-lt103 c =
    let b = c.args.b in
    (omega arith, rw (le-ltb b 48 (omega arith), le-ltb b 58 (omega arith), le-ltb b 97 (omega arith), lt-ltb b 103 (omega arith)))

pub returns : goal.returns
unfolding sample_digit
returns c =
    let b = c.args.b in
    (omega arith, rw (le-ltb b 48 (omega arith), le-ltb b 58 (omega arith), le-ltb b 97 (omega arith), le-ltb b 103 (omega arith)))
