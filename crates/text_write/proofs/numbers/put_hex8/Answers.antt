-- `text_write::numbers::put_hex8` meets its contract: eight digits are eight bytes. Assumes nothing.
use native.Mathlib.Omega.{arith}
use Rattle.text_write.proofs.Spelled.{hex_long}
use Rattle.text_write.proofs.numbers.put_hex8.Goals as goal

pub returns : goal.returns
returns c =
    let p = c.put_hex.ensures in record { put = p; upper_bound = omega (arith, p.next, hex_long 8 c.args.b) }
