-- `stl::nine_words`: after i turns the first i words stand in the array (`Filled`). Assumes nothing.
use native.Mathlib.Omega.{arith}
use mathlib.Core.Path.{sym}
use Rattle.lists.proofs.Table.{filled_all}
use Rattle.stl.specs.File.{nine_of}
use Rattle.stl.proofs.nine_words.Goals as goal

pub returns : goal.returns
unfolding nine_of
returns c =
    let l = c.loop-i in
    filled_all 0 _ _ l.words l.i 9 (sym l.invariant.0) (omega arith) l.invariant.1
