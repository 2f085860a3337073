-- `stl_write::write_head`: after i turns i words of zero are put; twenty of them are the header. Assumes nothing.
use Prim.Native.Nat.{◌*◌}
use native.Mathlib.Omega.{arith}
use mathlib.Core.Path.{◌≡◌, refl}
use lib.ListN.{replicate}
use Rattle.lists.specs.Joined.{joined}
use Rattle.lists.proofs.Puts.{no_pieces, pieces_more, pieces_all, and_then, said}
use Rattle.stl.specs.File.{bytes_of, head_of}
use Rattle.stl_write.proofs.write_head.Goals as goal

zeros : joined (λ j. bytes_of 0) 20 ≡ replicate 80 0
unfolding joined bytes_of
zeros = refl

pub loop-i-init : goal.loop-i-init
loop-i-init c = no_pieces _ _ _ _ _

pub loop-i-preserved : goal.loop-i-preserved
loop-i-preserved c =
    pieces_more _ _ _ _ _ c.loop-i.invariant c.loop-i-test.true (said refl (omega arith) c.put_word.ensures) (omega arith)

pub returns : goal.returns
unfolding head_of
returns c =
    let place : 4 * c.loop-i.i ≡ 80 = omega (arith, c.loop-i.invariant.few, c.loop-i-test.false) in
    and_then (said zeros place (pieces_all _ _ _ _ _ c.loop-i.invariant c.loop-i-test.false).0) c.put_word-2.ensures
