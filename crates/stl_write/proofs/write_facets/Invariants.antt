-- `stl_write::write_facets`: after k turns the records of the first k facets stand in the file, one behind the other. Assumes nothing.
use Rattle.lists.proofs.Puts.{Pieces}
use Rattle.float_bits.specs.Patterns.{bits_of}
use Rattle.stl.specs.File.{length_for, record_of, nine_at}
use Rattle.stl_write.proofs.write_facets.Given as goal

abbrev pub invariant-loop-k : goal.invariant-loop-k
invariant-loop-k l = Pieces (λ j. record_of (bits_of (nine_at l.vertices j))) 50 l.initial.file 84 l.count l.file l.k (length_for l.k)
