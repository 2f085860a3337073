-- `text_write::numbers::put_digits`, which calls itself, meets its contract: the last digit is put after those before it. The measure is k.
-- Assumes nothing.
use Prim.Native.Nat.{◌-◌, ◌/◌}
use mathlib.Core.Path.{refl, sym}
use native.Mathlib.Omega.{arith}
use Rattle.lists.proofs.Puts.{said, and_then}
use Rattle.text_write.proofs.Spelled.{one_digit, last_digit, few, deep, fewer}
use Rattle.text_write.proofs.numbers.+put_digits.Goals as goal

pub returns-then-n-lt10 : goal.returns-then-n-lt10
returns-then-n-lt10 t c = said (sym (one_digit _ _ c.if-n-lt10.true)) refl c.put.ensures

pub overflow_sub-k : goal.overflow_sub-k
overflow_sub-k t c = deep c.args.k c.args.n c.requires.few_digits c.if-n-lt10.false

pub put_digits-next-requires : goal.put_digits-next-requires
put_digits-next-requires t c =
    let d = deep c.args.k c.args.n c.requires.few_digits c.if-n-lt10.false in
    (omega (arith, d), (omega (arith, d), fewer c.args.k c.args.n d c.requires.few_digits))

pub put-requires-2 : goal.put-requires-2
put-requires-2 t c =
    let d = deep c.args.k c.args.n c.requires.few_digits c.if-n-lt10.false in
    let p = c.put_digits-next.ensures in
    omega (arith, c.requires.k_in_bounds, d, p.next, p.long, few (c.args.k - 1) (c.args.n / 10))

pub returns : goal.returns
returns t c =
    let d = deep c.args.k c.args.n c.requires.few_digits c.if-n-lt10.false in
    said (last_digit c.args.k c.args.n d c.if-n-lt10.false) refl (and_then c.put_digits-next.ensures c.put-2.ensures)
