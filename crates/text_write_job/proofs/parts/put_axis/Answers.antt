-- `text_write_job::parts::put_axis` meets its contract, by the three axes. Assumes nothing.
use native.Mathlib.Omega.{arith}
use mathlib.Core.Path.{ap}
use Rattle.std.specs.Prelude.{Some}
use Rattle.point.specs.declared.Axis.{Axis}
use Rattle.text.specs.Words.{line}
use Rattle.text.specs.TextJob.{upright_text}
use Rattle.text_write_job.proofs.Word.{word_put}
use Rattle.text_write_job.proofs.parts.put_axis.Goals as goal

pub returns-in-X : goal.returns-in-X
unfolding line
returns-in-X c =
    let all = word_put _ 10 (ap (λ (a : Axis). upright_text (Some a)) c.in-X.is) (omega arith) c.put_all.ensures in
    record { put = all.0; upper_bound = all.1 }

pub returns-in-Y : goal.returns-in-Y
unfolding line
returns-in-Y c =
    let all = word_put _ 10 (ap (λ (a : Axis). upright_text (Some a)) c.in-Y.is) (omega arith) c.put_all-in-Y.ensures in
    record { put = all.0; upper_bound = all.1 }

pub returns-in-Z : goal.returns-in-Z
unfolding line
returns-in-Z c =
    let all = word_put _ 10 (ap (λ (a : Axis). upright_text (Some a)) c.in-Z.is) (omega arith) c.put_all-in-Z.ensures in
    record { put = all.0; upper_bound = all.1 }
