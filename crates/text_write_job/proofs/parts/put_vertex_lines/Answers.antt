-- `text_write_job::parts::put_vertex_lines` meets its contract: a line for each vertex, one after the other. Assumes nothing.
use native.Mathlib.Omega.{arith}
use mathlib.Core.Path.{refl}
use Rattle.text.specs.Words.{line}
use Rattle.text.specs.TextJob.{vertex_line}
use Rattle.text_read_parts.specs.Told.{threes_in}
use Rattle.lists.proofs.Joined.{each_held}
use Rattle.lists.proofs.Puts.{said, no_pieces, pieces_more, pieces_room, pieces_all}
use Rattle.text_write_job.proofs.parts.put_vertex_lines.Invariants.{vertex_of}
use Rattle.text_write_job.proofs.parts.put_vertex_lines.Goals as goal

pub loop-i-init : goal.loop-i-init
loop-i-init c = no_pieces _ _ _ _ _

pub put_three-next-requires : goal.put_three-next-requires
put_three-next-requires c =
    omega (arith, pieces_room _ _ _ _ _ c.loop-i.invariant c.loop-i-test.true c.requires.n_in_bounds_2)

pub loop-i-preserved : goal.loop-i-preserved
unfolding line
loop-i-preserved c =
    pieces_more _ _ _ _ _ c.loop-i.invariant c.loop-i-test.true c.put_three-next.ensures.put (omega (arith, c.put_three-next.ensures.upper_bound))

pub shape_of-out : goal.shape_of-out
shape_of-out c = c.loop-i.invariant.put.long

pub returns : goal.returns
unfolding threes_in
returns c =
    let a = c.args in
    let vertices = a.vertices.now in
    let put = pieces_all _ _ _ _ _ c.loop-i.invariant c.loop-i-test.false in record { put = said (each_held vertex_line (λ i. threes_in i vertices) (vertex_of vertices) a.n refl (λ i h. refl)) refl put.0; upper_bound = put.1 }
