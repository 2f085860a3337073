-- `text_read_words::hex8`: the eight digits that began at `at` are those that go on at k, 8 - i of them, after digits of value `value`, which is
-- below 16 ^ i. Assumes nothing.
use Prim.Native.Nat.{◌-◌, ◌^◌, ◌<◌}
use mathlib.Core.Path.{◌≡◌}
use lib.ListN.{drop}
use Rattle.text.specs.Reader.{bits_at, hex_at}
use Rattle.text_read_words.proofs.hex8.Given as goal

abbrev pub invariant-loop-i : goal.invariant-loop-i
invariant-loop-i l =
    (l.value < 16 ^ l.i) × (bits_at l.stop (drop l.at l.text) ≡ hex_at l.stop (8 - l.i) l.value (drop l.k l.text))
