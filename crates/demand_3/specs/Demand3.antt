-- Demand 3, of the outcome that the public job's contract names: for every job that is done, with no other condition, and for each
-- cell of its grid, by the method of its signs; and the same of the lent buffers after a call. Definitions only; proofs/Theorem.antt shows that both hold
-- (`demand_3`, `after_a_call`).
use Rattle.std.specs.Prelude.{◌≡◌, length, Ok}
use Rattle.grid.specs.declared.Cell.{Cell}
use Rattle.grid.specs.Index.{Inside}
use Rattle.run.specs.Run.{RunInput}
use Rattle.run.specs.Input.{run_input}
use Rattle.refusals.specs.Numbers.{given}
use Rattle.job_outcome.specs.declared.Tally.{Tally}
use Rattle.job_checks.specs.Job.{Job, Lent}
use Rattle.job_outcome.specs.Outcome.{Answer, Gives, outcome}
use Rattle.demand_3.specs.Meaning.{CellMeans}

-- what the run of a job is told: the queue's room is the length of the lent queue
abbrev pub input_for : Job → Lent → RunInput
input_for j b = run_input j.grid j.mesh j.sign (length b.distances) j.limit

abbrev pub Demand3 : Job → Lent → Type 0
Demand3 j b =
    (t : Tally) → (outcome j b).answer ≡ given t → (c : Cell) → Inside j.grid c
    → CellMeans j.sign j.grid j.mesh (input_for j b) (outcome j b).left.field (outcome j b).left.names (outcome j b).left.crossings c

-- Of a call of the public function, by its contract: it was given the job j and lent the buffers b, and it answered and left what the
-- contract says. If the job was done, then what it left means this.
abbrev pub AfterCall : Job → Lent → Answer → Lent → Type 0
AfterCall j b answer left =
    Gives (outcome j b) answer left → (t : Tally) → answer ≡ Ok t → (c : Cell) → Inside j.grid c
    → CellMeans j.sign j.grid j.mesh (input_for j b) left.field left.names left.crossings c
