-- `text_read_words::decimal`: the number that began at `at` is the one that goes on at k after digits of value `value`. Each way out is one step of the
-- reader on lists. Assumes nothing.
use Prim.Native.Nat.{◌^◌, ◌<◌}
use mathlib.Core.Path.{◌≡◌}
use lib.ListN.{drop}
use Rattle.text.specs.Reader.{number_at, digits_at}
use Rattle.text_read_words.proofs.decimal.Given as goal

abbrev pub invariant-loop-k : goal.invariant-loop-k
invariant-loop-k l = (l.value < 2 ^ 32) × (number_at l.stop (drop l.at l.text) ≡ digits_at l.stop l.value (drop l.k l.text))
