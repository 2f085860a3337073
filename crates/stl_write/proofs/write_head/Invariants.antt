-- `stl_write::write_head`: after i turns i words of zero are put; twenty of them are the header. Assumes nothing.
use Prim.Native.Nat.{◌*◌}
use Rattle.lists.proofs.Puts.{Pieces}
use Rattle.stl.specs.File.{bytes_of}
use Rattle.stl_write.proofs.write_head.Given as goal

abbrev pub invariant-loop-i : goal.invariant-loop-i
invariant-loop-i l = Pieces (λ j. bytes_of 0) 4 l.initial.file 0 20 l.file l.i (4 * l.i)
