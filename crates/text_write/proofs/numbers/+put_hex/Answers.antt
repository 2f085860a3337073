-- `text_write::numbers::put_hex`, which calls itself, meets its contract: the last digit is put after those before it. The measure is k.
-- Assumes nothing.
use Prim.Native.Nat.{ℕ, ◌-◌, ◌/◌}
use mathlib.Core.Path.{refl, sym, ap}
use Rattle.text.specs.Words.{hex}
use native.Mathlib.Omega.{arith}
use Rattle.lists.proofs.Puts.{nothing, said, and_then}
use Rattle.text_write.proofs.Spelled.{hex_long, last_hex}
use Rattle.text_write.proofs.numbers.+put_hex.Goals as goal

pub returns-then-k-eq0 : goal.returns-then-k-eq0
unfolding hex
returns-then-k-eq0 t c =
    said (sym (ap (λ (k : ℕ). hex k c.args.b) c.if-k-eq0.true)) refl (nothing c.args.out.now c.args.at)

pub put-requires : goal.put-requires
put-requires t c =
    let p = c.put_hex-next.ensures in
    omega (arith, c.requires, p.next, p.long, hex_long (c.args.k - 1) (c.args.b / 16))

pub returns : goal.returns
returns t c =
    let digit = rw c.hex_digit.ensures at c.put.ensures in
    said (last_hex c.args.k c.args.b (omega arith)) refl (and_then c.put_hex-next.ensures digit)
