-- `text_read_parts::index_lines`: each line's number is stored behind those before it. Assumes nothing.
use lib.ListN.{take}
use Rattle.text.specs.Reader.{index_at}
use Rattle.text_read_parts.proofs.Stored.{Stored}
use Rattle.text_read_parts.proofs.index_lines.Given as goal

abbrev pub invariant-loop-i : goal.invariant-loop-i
invariant-loop-i l = Stored index_at take l.text l.at l.n l.initial.out l.out l.k l.i
