-- `text_write::numbers::put_decimal` meets its contract: a u32 has at most ten digits. Assumes nothing.
use native.Mathlib.Omega.{arith}
use borrow.Author.Rules.{rules}
use Rattle.text_write.proofs.Spelled.{few, all_few}
use Rattle.text_write.proofs.numbers.put_decimal.Goals as goal

pub put_digits-requires : goal.put_digits-requires
put_digits-requires c = record { k_in_bounds = search rules; few_digits = all_few 9 c.args.n (omega arith) }

pub returns : goal.returns
returns c =
    let p = c.put_digits.ensures in record { put = p; upper_bound = omega (arith, p.next, few 9 c.args.n) }
