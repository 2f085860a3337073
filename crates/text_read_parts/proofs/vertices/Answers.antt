-- `text_read_parts::vertices`: the count and then as many lines, as in the reader on lists. Assumes nothing.
use native.Mathlib.Omega.{arith}
use mathlib.Core.Path.{◌∙◌}
use Rattle.text.specs.Reader.{vertices_at}
use Rattle.text.proofs.Calls.{onward, stopped, bounded}
use Rattle.text_read_parts.proofs.vertices.Goals as goal

pub returns-in_err-count : goal.returns-in_err-count
unfolding vertices_at
returns-in_err-count c = rw c.from_residual.ensures (stopped _ c.in_err-count.ensures)

pub vertex_lines-requires : goal.vertex_lines-requires
vertex_lines-requires c = omega (arith, bounded _ _ _ c.in_ok-count.ensures)

pub returns-in_err-next : goal.returns-in_err-next
unfolding vertices_at
returns-in_err-next c = rw c.from_residual-in_err-next.ensures (c.in_err-next.ensures ∙ onward _ c.in_ok-count.ensures)

pub returns : goal.returns
unfolding vertices_at
returns c = c.in_ok-next.ensures ∙ onward _ c.in_ok-count.ensures
