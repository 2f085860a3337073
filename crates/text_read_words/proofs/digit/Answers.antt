-- `text_read_words::digit`: each way out has passed the tests that choose the same case of the definition. Assumes nothing.
use borrow.Author.Tests.{lt-ltb, le-ltb}
use native.Mathlib.Omega.{arith}
use Rattle.text.specs.Reader.{hex_value}
use Rattle.text_read_words.proofs.digit.Goals as goal

pub returns-then-b-lt48 : goal.returns-then-b-lt48
unfolding hex_value
returns-then-b-lt48 c = rw (lt-ltb c.args.b 48 (omega arith))

pub returns-then-b-le57 : goal.returns-then-b-le57
unfolding hex_value
returns-then-b-le57 c = let b = c.args.b in rw (le-ltb b 48 (omega arith), lt-ltb b 58 (omega arith))

pub returns-then-b-lt97 : goal.returns-then-b-lt97
unfolding hex_value
returns-then-b-lt97 c = let b = c.args.b in rw (le-ltb b 48 (omega arith), le-ltb b 58 (omega arith), lt-ltb b 97 (omega arith))

pub returns-then-b-le102 : goal.returns-then-b-le102
unfolding hex_value
returns-then-b-le102 c =
    let b = c.args.b in
    rw (le-ltb b 48 (omega arith), le-ltb b 58 (omega arith), le-ltb b 97 (omega arith), lt-ltb b 103 (omega arith)) (omega arith)

pub returns : goal.returns
unfolding hex_value
returns c =
    let b = c.args.b in
    rw (le-ltb b 48 (omega arith), le-ltb b 58 (omega arith), le-ltb b 97 (omega arith), le-ltb b 103 (omega arith))
