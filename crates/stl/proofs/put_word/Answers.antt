-- `stl::put_word`: the four bytes that the word comes to are put as one part of the bytes (`Put`). Assumes nothing.
use Prim.Native.Nat.{◌+◌}
use native.Mathlib.Nat.{add-sub_cancel_left}
use native.Mathlib.Omega.{arith}
use mathlib.Core.Path.{refl, sym, ap, ◌∙◌}
use lib.ListN.{length}
use Rattle.lists.proofs.Puts.{part, said}
use Rattle.stl.specs.File.{bytes_of}
use Rattle.stl.proofs.put_word.Goals as goal

pub returns : goal.returns
unfolding bytes_of
returns c =
    let at = c.args.at in
    let four = c.copy_from_slice.ensures.after ∙ c.to_le_bytes.ensures in
    said four refl (part _ _ at (at + 4) (omega arith) (omega arith) (ap length four ∙ sym (add-sub_cancel_left at 4)))
