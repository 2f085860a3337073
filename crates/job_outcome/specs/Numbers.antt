-- "Reply numbers. Checked in this order; the first that applies is given, and no number is given otherwise." (document 01; document
-- 02 adds 10, 13 and 14). Which numbers a job may be answered, and what each leaves in the lent buffers. Definitions only; proofs/Numbers.antt
-- shows it of every job (`replies`).
use Rattle.std.specs.Prelude.{ℕ, ◌≡◌, ◌≢◌, ◌≤◌}
use mathlib.Core.List.{List, [], ◌∷◌, Memᴰ}
use Rattle.job_checks.specs.Job.{Job, Lent}
use Rattle.lists.specs.Checks.{numbers_of}
use Rattle.job_checks.specs.Refusals.{lengths_of, checks}
use Rattle.job_clear.specs.Cleared.{cleared}
use Rattle.refusals.specs.Numbers.{Reply, refused, given}
use Rattle.job_outcome.specs.declared.Tally.{Tally}
use Rattle.job_outcome.specs.Outcome.{Outcome}

-- the numbers of the checks before the run, as their list has them: 1, 14, 2, 13, 3, 4, 10 and 5
abbrev pub check_numbers : Job → Lent → List ℕ
check_numbers j b = numbers_of (checks j.grid j.edition j.mesh (lengths_of b))

-- the numbers that are met in the run
abbrev pub run_numbers : List ℕ
run_numbers = 6 ∷ 7 ∷ 8 ∷ []

-- how a run ends: done, which it tells by 0, or refused by one of its numbers, which are those from 6 to 8
abbrev pub RunEnds : ℕ → Type 0
RunEnds n = (n ≢ 0 → 6 ≤ n) × (n ≤ 8)

-- all of them: those of the checks in their order, then those of the run
abbrev pub refusal_numbers : List ℕ
refusal_numbers = 1 ∷ 14 ∷ 2 ∷ 13 ∷ 3 ∷ 4 ∷ 10 ∷ 5 ∷ run_numbers

pub record IsDone (a : Reply Tally) : Type 0 where
  pub tally : Tally
  pub is : a ≡ given tally

-- The three ways of a job: it is done; it is refused by a number of the checks, and no lent buffer is changed; or it is refused by a
-- number of the run, and all are cleared.
pub data Replies (j : Job) (b : Lent) (o : Outcome) : Type 0 where
  done : IsDone o.answer → Replies j b o
  before_the_run : (n : ℕ) → Memᴰ n (check_numbers j b) → o.answer ≡ refused n → o.left ≡ b → Replies j b o
  in_the_run : (n : ℕ) → Memᴰ n run_numbers → o.answer ≡ refused n → o.left ≡ cleared b → Replies j b o
