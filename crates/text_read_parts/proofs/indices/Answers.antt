-- `text_read_parts::indices`: that there are none, or the count and as many lines, as in the reader on lists. Assumes nothing.
use native.Mathlib.Omega.{arith}
use mathlib.Core.Path.{refl, ◌∙◌}
use Rattle.text.specs.Reader.{indices_at}
use Rattle.text.proofs.Job.{most_held}
use Rattle.text.proofs.Calls.{onward, stopped, bounded, the_first, the_second}
use Rattle.text_read_parts.proofs.indices.Goals as goal

pub returns-in-Some : goal.returns-in-Some
unfolding indices_at
returns-in-Some c = record { is = the_first _ (onward _ c.in-Some.ensures); few = refl }

pub returns-in_err-number : goal.returns-in_err-number
unfolding indices_at
returns-in_err-number c =
    let no_number = rw c.most_indices-most.ensures at c.in_err-number.ensures in
    rw c.from_residual.ensures (record { is = the_second (stopped _ c.in_default.ensures) (stopped _ no_number); few = tt })

pub index_lines-requires : goal.index_lines-requires
index_lines-requires c =
    let number = rw c.most_indices-most.ensures at c.in_ok-number.ensures in
    omega (arith, bounded _ _ _ number, most_held c.args.topology)

pub returns-in_err-next : goal.returns-in_err-next
unfolding indices_at
returns-in_err-next c =
    let number = rw c.most_indices-most.ensures at c.in_ok-number.ensures in
    rw c.from_residual-in_err-next.ensures (record {
      is = the_second (stopped _ c.in_default.ensures) (stopped _ c.in_err-next.ensures ∙ onward _ number);
      few = tt;
    })

pub returns : goal.returns
unfolding indices_at
returns c =
    let number = rw c.most_indices-most.ensures at c.in_ok-number.ensures in
    record {
      is = the_second (stopped _ c.in_default.ensures) (onward _ c.in_ok-next.ensures ∙ onward _ number);
      few = bounded _ _ _ number;
    }
