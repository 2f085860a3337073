-- `text_tidy::lines::put_line` meets its contract, by whether the number stays and by what the line tells of. Assumes nothing.
use native.Mathlib.Omega.{arith}
use mathlib.Core.Path.{◌≡◌, refl, sym, ◌∙◌}
use Rattle.lists.proofs.Puts.{said, nothing}
use Rattle.text.specs.Words.{line}
use Rattle.text_tidy.specs.declared.Went.TheVariants.{Merged, Dropped}
use Rattle.text_tidy.specs.Tidied.{staying}
use Rattle.text_tidy.proofs.Line.{stayed, line_put}
use Rattle.text_tidy.proofs.lines.put_line.Goals as goal

pub returns-then-value-value_of_staying : goal.returns-then-value-value_of_staying
returns-then-value-value_of_staying c =
    let a = c.args in
    let e = c.if-value-value_of_staying.true ∙ c.value_of_staying.ensures in record { put = said (sym (stayed a.went (λ _. a.value) a.i e)) refl (nothing _ _); upper_bound = omega arith }

pub returns-in-Merged : goal.returns-in-Merged
unfolding line
returns-in-Merged c =
    let goes : (let a = c.args in a.value ≡ staying a.went a.i → ⊥) = λ h. c.if-value-value_of_staying.false (h ∙ sym c.value_of_staying.ensures) in
    let all = line_put _ Merged _ _ c.in-Merged.is (goes) c.requires.i_bound.0 c.requires.i_bound.1 c.put_two.ensures.fact in record { put = all.0; upper_bound = all.1 }

pub returns-in-Dropped : goal.returns-in-Dropped
unfolding line
returns-in-Dropped c =
    let goes : (let a = c.args in a.value ≡ staying a.went a.i → ⊥) = λ h. c.if-value-value_of_staying.false (h ∙ sym c.value_of_staying.ensures) in
    let all = line_put _ Dropped _ _ c.in-Dropped.is (goes) c.requires.i_bound.0 c.requires.i_bound.1 c.put_two-in-Dropped.ensures.fact in record { put = all.0; upper_bound = all.1 }
