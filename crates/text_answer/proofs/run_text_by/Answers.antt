-- `text_answer::run_text_by` meets its contract, by what the text is read as. Assumes nothing.
use native.Mathlib.Omega.{arith}
use mathlib.Core.Path.{refl, sym}
use lib.Seq.{length-take-le}
use Rattle.text.specs.Words.{line}
use Rattle.text.specs.Answering.{answer_line}
use Rattle.text_read_job.proofs.Held.{bits_held, indices_held}
use Rattle.lists.proofs.Puts.{cut, inside}
use Rattle.listing.specs.Listing.{unreadable}
use Rattle.text_answer.proofs.Read.{small, answered}
use Rattle.text_answer.proofs.run_text_by.Goals as goal

pub returns-then-out-lt-LISTING_ROOM : goal.returns-then-out-lt-LISTING_ROOM
returns-then-out-lt-LISTING_ROOM c = record { front = (omega arith, refl); answered = (λ h. absurd (omega (arith, h, c.if-out-lt-LISTING_ROOM.true))); value = (λ h. (refl, refl)) }

pub overflow_mul-n : goal.overflow_mul-n
overflow_mul-n c = record { fits = omega (arith, c.in-Ok.ensures.3.vertices_few) }

pub slice_bounds-bits-end : goal.slice_bounds-bits-end
slice_bounds-bits-end c =
    bits_held c.in-Ok.ensures.3 (omega (arith, c.read_job.auto.vertices, c.coordinate_words-bits.ensures))

pub slice_bounds-answer_job-end : goal.slice_bounds-answer_job-end
slice_bounds-answer_job-end c =
    sym (length-take-le _ _ (bits_held c.in-Ok.ensures.3 (omega (arith, c.read_job.auto.vertices, c.coordinate_words-bits.ensures))))

pub slice_bounds-indices-end : goal.slice_bounds-indices-end
slice_bounds-indices-end c =
    indices_held c.in-Ok.ensures.3 (omega (arith, c.read_job.auto.indices, c.index_words-indices.ensures))

pub slice_bounds-answer_job-end-in-Ok : goal.slice_bounds-answer_job-end-in-Ok
slice_bounds-answer_job-end-in-Ok c =
    sym (length-take-le _ _ (indices_held c.in-Ok.ensures.3 (omega (arith, c.read_job.auto.indices, c.index_words-indices.ensures))))

pub answer_job-requires : goal.answer_job-requires
answer_job-requires c =
    small c.in-Ok.ensures.3 c.in-Ok.ensures.1 (omega (arith, c.read_job.auto.vertices, c.coordinate_words-bits.ensures))
    c.if-out-lt-LISTING_ROOM.false

-- the text of no job
pub returns-in-Err : goal.returns-in-Err
unfolding line
returns-in-Err c =
    let none = c.in-Err.ensures in
    let p = rw (c.number.ensures, none.0) at c.put_number.ensures.put in
    record {
      front = (inside (omega arith) p, cut (omega arith) p);
      answered = (λ h. record { output = answer_line 9; owes = unreadable none.1 refl; put = p });
      value = (λ h. absurd (omega (arith, h, c.if-out-lt-LISTING_ROOM.false)));
    }

pub returns-in-Ok : goal.returns-in-Ok
returns-in-Ok c =
    let p = c.answer_job.ensures in
    let read = c.in-Ok.ensures in
    record {
      front = (inside (omega arith) p, cut (omega arith) p);
      answered = (λ h. answered read.3 read.1 read.2 p);
      value = (λ h. absurd (omega (arith, h, c.if-out-lt-LISTING_ROOM.false)));
    }
