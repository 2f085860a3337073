-- `text_read_parts::vertex_lines`: each line's three numbers are stored behind those before them. Assumes nothing.
use Rattle.text.specs.Reader.{vertex_line_at}
use Rattle.text_read_parts.specs.Told.{threes_in}
use Rattle.text_read_parts.proofs.Stored.{Stored}
use Rattle.text_read_parts.proofs.vertex_lines.Given as goal

abbrev pub invariant-loop-i : goal.invariant-loop-i
invariant-loop-i l = Stored vertex_line_at threes_in l.text l.at l.n l.initial.out l.out l.k l.i
