-- `text_write_job::parts::put_indices` meets its contract, with indices and without. Assumes nothing.
use native.Mathlib.Omega.{arith}
use lib.Seq.{length-take-le}
use Rattle.text.specs.Words.{line}
use Rattle.text.specs.TextJob.{indices_text}
use Rattle.lists.proofs.Puts.{and_then}
use Rattle.text_write_job.proofs.parts.put_indices.Goals as goal

pub put_index_lines-requires : goal.put_index_lines-requires
put_index_lines-requires c =
    let held = length-take-le c.args.n c.args.indices.now c.requires.n_in_bounds in
    record {
      few = omega (arith, held, c.requires.n_le_index_room);
      room = omega (arith, held, c.requires.n_in_bounds_2, c.put_number-next.ensures.upper_bound, c.put_number-next.ensures.put.long);
    }

pub returns-in-Given : goal.returns-in-Given
unfolding line indices_text
returns-in-Given c =
    let a = c.args in
    let held = length-take-le a.n a.indices.now c.requires.n_in_bounds in
    record {
      put = rw (c.in-Given.is, held) (and_then c.put_number-next.ensures.put c.put_index_lines.ensures.put);
      upper_bound = omega (arith, held, c.put_number-next.ensures.upper_bound, c.put_index_lines.ensures.upper_bound);
    }

pub returns-in-None : goal.returns-in-None
unfolding line indices_text
returns-in-None c =
    let put = c.put_all.ensures in record { put = rw c.in-None.is (put); upper_bound = omega (arith, put.next) }
