-- `tidy_squeeze::put_vertex`: three stores, one behind the other. Assumes nothing.
use Prim.Native.Nat.{◌+◌}
use native.Mathlib.Omega.{arith}
use mathlib.Core.Path.{refl}
use lib.ListN.{length-set}
use Rattle.lists.proofs.Puts.{one, and_then, said}
use Rattle.tidy_squeeze.proofs.put_vertex.Goals as goal

pub bounds-words-at-2 : goal.bounds-words-at-2
bounds-words-at-2 c = simp length-set (omega arith)

pub bounds-words-at-3 : goal.bounds-words-at-3
bounds-words-at-3 c = simp length-set (omega arith)

pub returns : goal.returns
returns c =
    let words = c.args.words.now in
    let at = c.args.at in
    and_then (and_then
    (one words at _ (omega arith))
    (said refl (omega arith) (one _ (at + 1) _ (simp length-set (omega arith)))))
    (said refl (omega arith) (one _ (at + 2) _ (simp length-set (omega arith))))
