-- The whole job for C gives what the job gives: what C handed in is read, and the answer written out. Assumes nothing.
use Prim.Native.Nat.{ℕ}
use mathlib.Core.Path.{◌≡◌, ap, ◌∙◌, subst}
use mathlib.Core.List.{List}
use lib.Ieee.{Float}
use Rattle.grid.specs.declared.Grid.{Grid}
use Rattle.mesh_topology.specs.declared.Topology.{Topology}
use Rattle.mesh_topology.specs.declared.Indices.{Indices}
use Rattle.terms.specs.declared.Terms.{Terms}
use Rattle.refusals.specs.Numbers.{reply_of}
use Rattle.mesh.specs.Mesh.{mesh_of}
use Rattle.job_checks.specs.Job.{Lent, job_of}
use Rattle.job_outcome.specs.Outcome.{Answer, Outcome, Gives, outcome}
use Rattle.c_job.specs.declared.SdfJobAnswer.{SdfJobAnswer}
use Rattle.c_job.specs.Job.{answer_out, GivesC}

pub gives_c : {g g' : Grid} {t t' : Topology} {i i' : Indices} {s s' : Terms} {a : Answer} {r : SdfJobAnswer} (vs : List Float) (is : List ℕ) (b : Lent) {left : Lent}
    → g ≡ g' → t ≡ t' → i ≡ i' → s ≡ s' → r ≡ answer_out (reply_of a) → Gives (outcome (job_of g (mesh_of vs t i is) s) b) a left → GivesC (outcome (job_of g' (mesh_of vs t' i' is) s') b) r left
gives_c {g} {g'} {t} {t'} {i} {i'} {s} {s'} {a} {r} vs is b {left} eg et ei es er h =
    subst
    (λ (o : Outcome). GivesC o r left)
    (λ k. outcome (job_of (eg k) (mesh_of vs (et k) (ei k) is) (es k)) b)
    (record { answers = er ∙ ap answer_out h.answers; leaves = h.leaves })
