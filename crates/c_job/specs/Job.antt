-- How the whole job reaches C and its answer comes back. The outcome is that of crate `job_generate`, unchanged. Definitions only.
use Rattle.std.specs.Prelude.{ℕ, ◌≡◌, eqb, if◌then◌else◌}
use Rattle.mesh_topology.specs.declared.Topology.{Topology}
use Rattle.mesh_topology.specs.declared.Topology.TheVariants.{TriangleList, TriangleStrip}
use Rattle.mesh_topology.specs.declared.Indices.{Indices}
use Rattle.mesh_topology.specs.declared.Indices.TheVariants.{Given}
use Rattle.refusals.specs.Numbers.{Reply}
use Rattle.job_outcome.specs.declared.Tally.{Tally}
use Rattle.job_checks.specs.Job.{Lent}
use Rattle.job_outcome.specs.Outcome.{Outcome, number_of, pops_of, peak_of, grazed_of}
use Rattle.c_job.specs.declared.SdfJobAnswer.{SdfJobAnswer}

-- 0 is a list, and any other number a strip
abbrev pub topology_in : ℕ → Topology
topology_in n = if eqb n 0 then TriangleList else TriangleStrip

-- 0 is none, and any other number that they are given
abbrev pub indices_in : ℕ → Indices
indices_in n = if eqb n 0 then Indices.None else Given

-- document 01's number and values for each case of the reply: 0 with pops, peak and grazed rays, or a refusal's number with all three 0
abbrev pub answer_out : Reply Tally → SdfJobAnswer
answer_out a = record { number = number_of a; pops = pops_of a; peak = peak_of a; grazed = grazed_of a }

-- what a call for C promises: its answer, and what it leaves in each lent buffer, are those of the outcome
pub record GivesC (o : Outcome) (answer : SdfJobAnswer) (left : Lent) : Type 0 where
  pub answers : answer ≡ answer_out o.answer
  pub leaves : left ≡ o.left
