-- `text_convert::convert_text` meets its contract, by what the text is read as. Assumes nothing.
use native.Mathlib.Omega.{arith}
use mathlib.Core.Path.{refl}
use Rattle.text.specs.Words.{line}
use Rattle.lists.proofs.Puts.{cut, inside}
use Rattle.text_convert.proofs.Read.{writable, answered, too_many_lem, nine}
use Rattle.text_convert.proofs.convert_text.Goals as goal

pub returns-then-out-lt-TEXT_ROOM : goal.returns-then-out-lt-TEXT_ROOM
returns-then-out-lt-TEXT_ROOM c = record { front = (omega arith, refl); answered = (λ h. absurd (omega (arith, h, c.if-out-lt-TEXT_ROOM.true))); value = (λ h. (refl, refl)) }

-- more indices than an old job has
pub put_number-requires-then-asked-gt-OLD_MOST_INDICES : goal.put_number-requires-then-asked-gt-OLD_MOST_INDICES
put_number-requires-then-asked-gt-OLD_MOST_INDICES c =
    omega (arith, c.if-out-lt-TEXT_ROOM.false)

pub returns-then-asked-gt-OLD_MOST_INDICES : goal.returns-then-asked-gt-OLD_MOST_INDICES
unfolding line
returns-then-asked-gt-OLD_MOST_INDICES c =
    let read = c.in-Ok.ensures in
    let p = rw c.number-then-asked-gt-OLD_MOST_INDICES.ensures at c.put_number-then-asked-gt-OLD_MOST_INDICES.ensures.put in
    let many = too_many_lem read.3 (omega (arith, c.read_job.auto.vertices, c.coordinate_words-bits.ensures)) (omega (arith, c.read_job.auto.indices, c.index_words-indices.ensures)) read.1 read.2 (omega (arith, c.if-asked-gt-OLD_MOST_INDICES.true)) in
    record {
      front = (inside (omega arith) p, cut (omega arith) p);
      answered = (λ h. nine many p);
      value = (λ h. absurd (omega (arith, h, c.if-out-lt-TEXT_ROOM.false)));
    }

pub put_converted-requires : goal.put_converted-requires
put_converted-requires c =
    writable c.in-Ok.ensures.3 (omega (arith, c.read_job.auto.vertices, c.coordinate_words-bits.ensures)) (omega (arith, c.read_job.auto.indices, c.index_words-indices.ensures)) c.if-out-lt-TEXT_ROOM.false

-- the text of no job
pub returns-in-Err : goal.returns-in-Err
unfolding line
returns-in-Err c =
    let none = c.in-Err.ensures in
    let p = rw (c.number.ensures, none.0) at c.put_number.ensures.put in
    record {
      front = (inside (omega arith) p, cut (omega arith) p);
      answered = (λ h. nine (λ j o. none.1 j o.readable) p);
      value = (λ h. absurd (omega (arith, h, c.if-out-lt-TEXT_ROOM.false)));
    }

pub returns-else-asked-gt-OLD_MOST_INDICES : goal.returns-else-asked-gt-OLD_MOST_INDICES
returns-else-asked-gt-OLD_MOST_INDICES c =
    let p = c.put_converted.ensures in
    let read = c.in-Ok.ensures in
    record {
      front = (inside (omega arith) p, cut (omega arith) p);
      answered = (λ h. answered read.3 (omega (arith, c.read_job.auto.vertices, c.coordinate_words-bits.ensures)) (omega (arith, c.read_job.auto.indices, c.index_words-indices.ensures)) read.1 read.2 (omega (arith, c.if-asked-gt-OLD_MOST_INDICES.false)) p);
      value = (λ h. absurd (omega (arith, h, c.if-out-lt-TEXT_ROOM.false)));
    }
