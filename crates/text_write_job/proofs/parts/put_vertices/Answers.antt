-- `text_write_job::parts::put_vertices` meets its contract: their number, and their lines. Assumes nothing.
use native.Mathlib.Omega.{arith}
use Rattle.text.specs.Words.{line}
use Rattle.text.specs.TextJob.{vertices_text}
use Rattle.text_read_parts.proofs.Threes.{threes_length}
use Rattle.lists.proofs.Puts.{and_then}
use Rattle.text_write_job.proofs.parts.put_vertices.Goals as goal

pub returns : goal.returns
unfolding vertices_text line
returns c =
    let a = c.args in record { put = rw (threes_length a.n a.vertices.now) (and_then c.put_number-next.ensures.put c.put_vertex_lines.ensures.put); upper_bound = omega (arith, c.put_number-next.ensures.upper_bound, c.put_vertex_lines.ensures.upper_bound) }
