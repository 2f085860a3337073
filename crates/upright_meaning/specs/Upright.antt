-- "Snapping, field and crossings do not depend on it, and that is to be shown once over the three axes" (document 02, §9), of whole jobs; nor do they on the
-- edition of the table, which says what a cell adds to its row (§11). Two jobs that differ in the upright axis and the edition alone and are both accepted
-- answer the same and leave the same in every lent buffer but the rows. What a row is by its own axis and edition, `row_meaning` has. Definitions only;
-- proofs/Theorem.antt shows that they hold.
use Rattle.std.specs.Prelude.{ℕ, ◌≤◌, ◌≡◌, ◌⊎◌, length}
use Rattle.grid.specs.Layers.{layers, stood}
use Rattle.job_checks.specs.Job.{Job, Lent}
use Rattle.job_checks.specs.Refusals.{refusal}
use Rattle.refusals.specs.Numbers.{reply_of}
use Rattle.job_outcome.specs.Outcome.{Answer, Outcome, Gives, outcome}

-- the same job asked for another table: with axis u upright, in edition e
abbrev pub other_table : ℕ → ℕ → Job → Job
other_table u e j = record { grid = stood u j.grid; mesh = j.mesh; sign = j.sign; limit = j.limit; edition = e }

-- the same but for the rows: the answer, which is the number and where the job is done pops, peak and grazed rays, and the other lent buffers
pub record SameButRows (o p : Outcome) : Type 0 where
  pub answer : o.answer ≡ p.answer
  pub field : o.left.field ≡ p.left.field
  pub names : o.left.names ≡ p.left.names
  pub crossings : o.left.crossings ≡ p.left.crossings
  pub distances : o.left.distances ≡ p.left.distances
  pub cells : o.left.cells ≡ p.left.cells
  pub triangles : o.left.triangles ≡ p.left.triangles

-- ---- two jobs that are both accepted

-- no check refuses the job with these buffers; 6 to 8 may still be met in its run
abbrev pub IsAccepted : Job → Lent → Type 0
IsAccepted j b = refusal j b ≡ 0

-- job j with buffers b, and the same job asked for another table, with buffers c, both accepted, with queues of the same room; nothing is said of what the
-- buffers hold
pub record BothAccepted (j : Job) (u e : ℕ) (b c : Lent) : Type 0 where
  pub first : IsAccepted j b
  pub second : IsAccepted (other_table u e j) c
  pub same_room : length b.distances ≡ length c.distances

abbrev pub OnlyRowsDiffer : Job → ℕ → ℕ → Lent → Lent → Type 0
OnlyRowsDiffer j u e b c = BothAccepted j u e b c → SameButRows (outcome j b) (outcome (other_table u e j) c)

-- The same of two calls of the public function, by its contract. What they answer is one answer, a refusal too.
abbrev pub OnlyRowsDifferAfterCalls : Job → ℕ → ℕ → Lent → Lent → Answer → Lent → Answer → Lent → Type 0
OnlyRowsDifferAfterCalls j u e b c answer left answer' left' =
    BothAccepted j u e b c → Gives (outcome j b) answer left → Gives (outcome (other_table u e j) c) answer' left'
    → (answer ≡ answer') × SameButRows (record { answer = reply_of answer; left = left }) (record { answer = reply_of answer'; left = left' })

-- ---- and which jobs are accepted

-- both axes are axes and both editions are editions, the rows are as long as each job's own axis counts, and the other buffers are alike in length
pub record LentAlike (j : Job) (u e : ℕ) (b c : Lent) : Type 0 where
  pub stands : (j.grid.upright ≤ 2) × (u ≤ 2)
  pub editions : ((j.edition ≡ 1) ⊎ (j.edition ≡ 2)) × ((e ≡ 1) ⊎ (e ≡ 2))
  pub rows : (length b.rows ≡ layers j.grid) × (length c.rows ≡ layers (stood u j.grid))
  pub field : length b.field ≡ length c.field
  pub names : length b.names ≡ length c.names
  pub crossings : length b.crossings ≡ length c.crossings
  pub distances : length b.distances ≡ length c.distances
  pub cells : length b.cells ≡ length c.cells
  pub triangles : length b.triangles ≡ length c.triangles

-- then the checks refuse both by the same number, or neither: the axis is a case of 1 and measures the rows for 5, the edition is that of 14, and no other
-- check looks at them
abbrev pub RefusedAlike : Job → ℕ → ℕ → Lent → Lent → Type 0
RefusedAlike j u e b c = LentAlike j u e b c → refusal j b ≡ refusal (other_table u e j) c
