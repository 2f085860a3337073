-- `text_write::lines::put_long_number` meets its contract: a u64 has at most twenty digits. Assumes nothing.
use native.Mathlib.Omega.{arith}
use mathlib.Core.Path.{refl}
use mathlib.Core.List.{append_assoc}
use Rattle.lists.proofs.Puts.{said, and_then}
use Rattle.text_write.proofs.Spelled.{few, all_few}
use Rattle.text_write.proofs.lines.put_long_number.Goals as goal

pub put_digits-end-requires : goal.put_digits-end-requires
put_digits-end-requires c =
    let p = c.put_all-next.ensures in record { k_in_bounds = omega (arith, c.requires, p.next, p.long); few_digits = all_few 19 c.args.n (omega arith) }

pub put-requires : goal.put-requires
put-requires c =
    let p = c.put_all-next.ensures in
    let q = c.put_digits-end.ensures in
    omega (arith, c.requires, p.next, p.long, q.next, q.long, few 19 c.args.n)

pub returns : goal.returns
returns c =
    let p = c.put_all-next.ensures in
    let q = c.put_digits-end.ensures in record { put = said (simp append_assoc) refl (and_then (and_then p q) c.put.ensures); upper_bound = omega (arith, p.next, q.next, c.put.ensures.next, few 19 c.args.n) }
