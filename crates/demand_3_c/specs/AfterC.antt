-- Demand 3 of a call from C. Definitions only; proofs/AfterC.antt shows that it holds (`after_a_call_from_c`).
use Rattle.std.specs.Prelude.{◌≡◌}
use Rattle.grid.specs.declared.Cell.{Cell}
use Rattle.grid.specs.Index.{Inside}
use Rattle.job_checks.specs.Job.{Job, Lent}
use Rattle.job_outcome.specs.Outcome.{outcome}
use Rattle.demand_3.specs.Meaning.{CellMeans}
use Rattle.demand_3.specs.Demand3.{input_for}
use Rattle.c_job.specs.declared.SdfJobAnswer.{SdfJobAnswer}
use Rattle.c_job.specs.Job.{GivesC}

-- Of a call of `sdf_generate_grid_sdf` or of `sdf_generate_grid_sdf_records`, by its contract: it was given the job j and lent the
-- buffers b, and it answered and left what the contract says. If its number is 0, then what it left means this.
abbrev pub AfterCallFromC : Job → Lent → SdfJobAnswer → Lent → Type 0
AfterCallFromC j b answer left =
    GivesC (outcome j b) answer left → answer.number ≡ 0 → (c : Cell) → Inside j.grid c
    → CellMeans j.sign j.grid j.mesh (input_for j b) left.field left.names left.crossings c
