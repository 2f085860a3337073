-- "One call has one possible outcome: number, pops, peak and each cell of each buffer follow from the input" (document 01, "What the
-- contracts owe"); and the total of grazed rays (document 02, §3). It is one function of the job and of the buffers as they are lent. Definitions only.
use Rattle.std.specs.Prelude.{ℕ, zero, suc, ◌≡◌, length, Result, Ok, Err}
use Rattle.lists.specs.Turns.{Turn, goes, refuses}
use Rattle.run.specs.Run.{State, run}
use Rattle.run.specs.Input.{run_input}
use Rattle.run.specs.Signs.{rows}
use Rattle.run.specs.Method.{field_by, crossings_by, grazed_by}
use Rattle.job_checks.specs.Job.{Job, Lent}
use Rattle.job_checks.specs.Refusals.{refusal}
use Rattle.job_clear.specs.Cleared.{zeros, cleared}
use Rattle.refusals.specs.declared.Refusal.{Refusal}
use Rattle.refusals.specs.Numbers.{Reply, refused, given, reply_of}
use Rattle.job_outcome.specs.declared.Tally.{Tally}

-- what the code answers; a reply in numbers, as the documents speak of it, is what it comes to
abbrev pub Answer : Type 0
Answer = Result Tally Refusal

-- what is told where a run is closed: done, with its counts, or refused by the run's number, whichever that is
abbrev pub reply_told : Result Tally ℕ → Reply Tally
reply_told (Ok t) = given t
reply_told (Err n) = refused n

pub record Outcome : Type 0 where
  pub answer : Reply Tally
  -- what each lent buffer then holds
  pub left : Lent

-- "Numbers 1 to 5 change no lent buffer." (document 01); 10, 13 and 14: "buffers unchanged" (document 02, §6, §7 and §11)
abbrev pub unchanged : ℕ → Lent → Outcome
unchanged n b = record { answer = refused n; left = b }

-- 0: the field with its signs, the names and the counts, by the method of the signs, the rows by the edition of the table, and the queue all zero
abbrev pub filled : Job → State → Lent → Lent
filled j s b =
    let field = field_by j.sign j.grid j.mesh s.field in
    record {
      field = field;
      names = s.names;
      crossings = crossings_by j.sign j.grid j.mesh;
      rows = rows j.edition j.grid field;
      distances = zeros b.distances;
      cells = zeros b.cells;
      triangles = zeros b.triangles;
    }

-- what is counted of a job: the entries taken in its run, the most that waited at once, and how often a ray grazed a triangle
abbrev pub tally_of : Job → State → Tally
tally_of j s = record { pops = s.pops; peak = s.peak; grazed = grazed_by j.sign j.grid j.mesh }

-- what a run that has ended gives
unfoldable pub ended : Job → Lent → Turn State → Outcome
ended j b (goes s) = record { answer = given (tally_of j s); left = filled j s b }
ended j b (refuses n) = record { answer = refused n; left = cleared b }

-- the run of a job over the lent queue, whose room is its length
abbrev pub run_of : Job → Lent → Turn State
run_of j b = run (run_input j.grid j.mesh j.sign (length b.distances) j.limit)

unfoldable pub unless_refused : ℕ → Lent → Outcome → Outcome
unless_refused zero b o = o
unless_refused (suc n) b o = unchanged (suc n) b

unfoldable pub outcome : Job → Lent → Outcome
outcome j b = unless_refused (refusal j b) b (ended j b (run_of j b))

-- ---- document 01's number and values for each case of the reply

abbrev pub number_of : Reply Tally → ℕ
number_of (refused n) = n
number_of (given t) = 0

-- "Refusals return pops and peak as 0."
abbrev pub pops_of : Reply Tally → ℕ
pops_of (refused n) = 0
pops_of (given t) = t.pops

abbrev pub peak_of : Reply Tally → ℕ
peak_of (refused n) = 0
peak_of (given t) = t.peak

-- "Done carries the total over all rays and triangles .. on refusal it is 0" (document 02, §3)
abbrev pub grazed_of : Reply Tally → ℕ
grazed_of (refused n) = 0
grazed_of (given t) = t.grazed

-- ---- what a call promises

-- its answer, by number, pops, peak and grazed rays, and what it leaves in each lent buffer are those of the outcome
pub record Gives (o : Outcome) (answer : Answer) (left : Lent) : Type 0 where
  pub answers : reply_of answer ≡ o.answer
  pub number : number_of (reply_of answer) ≡ number_of o.answer
  pub pops : pops_of (reply_of answer) ≡ pops_of o.answer
  pub peak : peak_of (reply_of answer) ≡ peak_of o.answer
  pub grazed : grazed_of (reply_of answer) ≡ grazed_of o.answer
  pub leaves : left ≡ o.left

-- the same of a reply in numbers
pub record GivesReply (o : Outcome) (reply : Reply Tally) (left : Lent) : Type 0 where
  pub answers : reply ≡ o.answer
  pub number : number_of reply ≡ number_of o.answer
  pub pops : pops_of reply ≡ pops_of o.answer
  pub peak : peak_of reply ≡ peak_of o.answer
  pub grazed : grazed_of reply ≡ grazed_of o.answer
  pub leaves : left ≡ o.left
