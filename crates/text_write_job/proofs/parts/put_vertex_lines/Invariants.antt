-- `text_write_job::parts::put_vertex_lines` meets its contract: a line for each vertex, one after the other. Assumes nothing.
use Prim.Native.Nat.{ℕ, ◌+◌, ◌*◌}
use mathlib.Core.List.{List}
use lib.ListN.{get_or}
use Rattle.text.specs.declared.Three.{Three}
use Rattle.text.specs.TextJob.{vertex_line}
use Rattle.text.specs.Reader.{three}
use Rattle.lists.proofs.Puts.{Pieces}
use Rattle.text_write_job.proofs.parts.put_vertex_lines.Given as goal

abbrev pub vertex_of : List ℕ → ℕ → Three
vertex_of vertices i = three (get_or vertices (3 * i) 0) (get_or vertices (3 * i + 1) 0) (get_or vertices (3 * i + 2) 0)

abbrev pub line_of : List ℕ → ℕ → List ℕ
line_of vertices i = vertex_line (vertex_of vertices i)

abbrev pub invariant-loop-i : goal.invariant-loop-i
invariant-loop-i l = Pieces (line_of l.vertices) 29 l.initial.out l.at l.n l.out l.i l.next
