-- `tidy_marks::mark_triangle`: three stores. Assumes nothing.
use Rattle.float_bits.specs.Patterns.{bits_of}
use Rattle.tidy_marks.proofs.Marks.{bits_long, marked_three}
use Rattle.tidy_marks.proofs.mark_triangle.Goals as goal

pub returns : goal.returns
returns c =
    let words = c.args.words.now in
    let t = c.args.t in
    let w = c.requires.numbers_below in
    record {
      is = λ v l. marked_three (bits_of words) c.args.n t v (bits_long words _ c.requires.words_len.0) w.a w.b w.c
          c.put_number.ensures c.put_number-2.ensures c.put_number-3.ensures;
    }
