-- `tidy_marks::number_if_marked`: nothing where there is no mark, else a store. Assumes nothing.
use Prim.Native.Nat.{ℕ, ◌+◌, ◌*◌}
use mathlib.Core.Path.{sym, ap, ◌∙◌}
use mathlib.Core.List.{List}
use lib.Dec.{eqb}
use lib.ListN.{get_or}
use Rattle.float_bits.specs.Patterns.{bits_of}
use Rattle.tidy_marks.specs.Marks.{mark_at}
use Rattle.tidy_marks.proofs.Marks.{bits_long, mark_set, no_number, a_number}
use Rattle.tidy_marks.proofs.number_if_marked.Goals as goal

pub returns-then-mark-eq0 : goal.returns-then-mark-eq0
returns-then-mark-eq0 c =
    let zero = sym c.number_at-mark.ensures ∙ c.if-mark-eq0.true in
    let n = no_number c.args.count _ zero in record { value = n.0; marks = record { is = λ w l. n.1 (eqb c.args.v w) _ } }

pub returns : goal.returns
returns c =
    let words = c.args.words.now in
    let n = c.args.n in
    let some = a_number c.args.count _ (λ z. c.if-mark-eq0.false (c.number_at-mark.ensures ∙ z)) in record {
      value = some.0;
      marks = record {
        is = λ w l. ap (λ (r : List ℕ). get_or r (2 * n + w) 0) c.put_number.ensures
            ∙ mark_set (bits_of words) n c.args.v w (c.args.count + 1) c.requires.v_lt_n.0 (bits_long words _ c.requires.words_len.0) ∙ some.1 (eqb c.args.v w) (mark_at n words w);
      };
    }
