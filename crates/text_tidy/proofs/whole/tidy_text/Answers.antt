-- `text_tidy::whole::tidy_text` meets its contract, by what the text is read as. Assumes nothing.
use native.Mathlib.Omega.{arith}
use mathlib.Core.Path.{refl, sym}
use lib.Seq.{length-take-le}
use Rattle.text.specs.Words.{line}
use Rattle.text_read_job.proofs.Held.{bits_held, indices_held}
use Rattle.lists.proofs.Puts.{cut, inside}
use Rattle.text_tidy.proofs.Read.{small, answered, nine}
use Rattle.text_tidy.proofs.whole.tidy_text.Goals as goal

pub returns-then-out-lt-TIDY_ROOM : goal.returns-then-out-lt-TIDY_ROOM
returns-then-out-lt-TIDY_ROOM c = record { front = (omega arith, refl); answered = (λ h. absurd (omega (arith, h, c.if-out-lt-TIDY_ROOM.true))); value = (λ h. (refl, refl)) }

pub overflow_mul-n : goal.overflow_mul-n
overflow_mul-n c = record { fits = omega (arith, c.in-Ok.ensures.3.vertices_few) }

pub slice_bounds-bits-end : goal.slice_bounds-bits-end
slice_bounds-bits-end c =
    bits_held c.in-Ok.ensures.3 (omega (arith, c.read_job.auto.vertices, c.coordinate_words-bits.ensures))

pub slice_bounds-tidy_asked-end : goal.slice_bounds-tidy_asked-end
slice_bounds-tidy_asked-end c =
    sym (length-take-le _ _ (bits_held c.in-Ok.ensures.3 (omega (arith, c.read_job.auto.vertices, c.coordinate_words-bits.ensures))))

pub slice_bounds-indices-end : goal.slice_bounds-indices-end
slice_bounds-indices-end c =
    indices_held c.in-Ok.ensures.3 (omega (arith, c.read_job.auto.indices, c.index_words-indices.ensures))

pub slice_bounds-tidy_asked-end-in-Ok : goal.slice_bounds-tidy_asked-end-in-Ok
slice_bounds-tidy_asked-end-in-Ok c =
    sym (length-take-le _ _ (indices_held c.in-Ok.ensures.3 (omega (arith, c.read_job.auto.indices, c.index_words-indices.ensures))))

pub tidy_asked-requires : goal.tidy_asked-requires
tidy_asked-requires c =
    small c.in-Ok.ensures.3 (omega (arith, c.read_job.auto.vertices, c.coordinate_words-bits.ensures))
    (omega (arith, c.read_job.auto.indices, c.index_words-indices.ensures)) c.if-out-lt-TIDY_ROOM.false

-- the text of no job
pub returns-in-Err : goal.returns-in-Err
unfolding line
returns-in-Err c =
    let none = c.in-Err.ensures in
    let p = rw (c.number.ensures, none.0) at c.put_number.ensures.put in
    record {
      front = (inside (omega arith) p, cut (omega arith) p);
      answered = (λ h. nine none.1 p);
      value = (λ h. absurd (omega (arith, h, c.if-out-lt-TIDY_ROOM.false)));
    }

pub returns-in-Ok : goal.returns-in-Ok
returns-in-Ok c =
    let p = c.tidy_asked.ensures in
    let read = c.in-Ok.ensures in
    record {
      front = (inside (omega arith) p, cut (omega arith) p);
      answered = (λ h. answered read.3 (omega (arith, c.read_job.auto.vertices, c.coordinate_words-bits.ensures))
          (omega (arith, c.read_job.auto.indices, c.index_words-indices.ensures)) read.1 read.2 p);
      value = (λ h. absurd (omega (arith, h, c.if-out-lt-TIDY_ROOM.false)));
    }
