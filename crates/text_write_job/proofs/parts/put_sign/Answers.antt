-- `text_write_job::parts::put_sign` meets its contract, by the two methods. Assumes nothing.
use native.Mathlib.Omega.{arith}
use mathlib.Core.Path.{ap}
use Rattle.text.specs.Words.{line}
use Rattle.text.specs.TextJob.{sign_text}
use Rattle.lists.proofs.Puts.{nothing}
use Rattle.text_write_job.proofs.Word.{word_put}
use Rattle.text_write_job.proofs.parts.put_sign.Goals as goal

pub returns-in-Raycast : goal.returns-in-Raycast
returns-in-Raycast c = record { put = rw c.in-Raycast.is (nothing _ _); upper_bound = omega arith }

pub returns-in-Normal : goal.returns-in-Normal
unfolding line
returns-in-Normal c = let all = word_put _ 12 (ap sign_text c.in-Normal.is) (omega arith) c.put_all.ensures in record { put = all.0; upper_bound = all.1 }
