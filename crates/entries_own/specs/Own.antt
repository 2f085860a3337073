-- What is lent to a job whose queue is of its own, and what it gives back. Definitions only.
use Rattle.std.specs.Prelude.{ℕ, ◌≡◌, List, replicate, Float}
use Rattle.job_checks.specs.Job.{Lent, lent_of}
use Rattle.refusals.specs.Numbers.{reply_of}
use Rattle.job_outcome.specs.Outcome.{Answer, Outcome}

-- how many entries the row has; the code's is in src/lib.rt
abbrev pub own_room : ℕ
own_room = 2048

-- the buffers, with a queue that is all zero
abbrev pub lent_own : List Float → List ℕ → List ℕ → List ℕ → ℕ → Lent
lent_own field names crossings rows room = lent_of field names crossings rows (replicate room 0) (replicate room 0) (replicate room 0)

-- the answer, and what is left in each buffer that was lent, are those of the outcome
pub record GivesFour (o : Outcome) (answer : Answer) (field : List Float) (names crossings rows : List ℕ) : Type 0 where
  pub answers : reply_of answer ≡ o.answer
  pub field_left : field ≡ o.left.field
  pub names_left : names ≡ o.left.names
  pub crossings_left : crossings ≡ o.left.crossings
  pub rows_left : rows ≡ o.left.rows
