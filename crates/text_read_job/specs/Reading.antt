-- What the reader promises: "A job it can't read, or above these limits, gives `answer=9` alone" (document 01, "One job, one listing").
-- Definitions only.
use Rattle.std.specs.Prelude.{ℕ, ◌*◌, ◌≤◌, ◌≡◌, List, take, Option, Some, None, Result, Ok, Err}
use Rattle.refusals.specs.declared.Refusal.{Refusal}
use Rattle.refusals.specs.declared.Refusal.TheVariants.{Unreadable}
use Rattle.text.specs.Limits.{most_vertices, most_indices}
use Rattle.text.specs.TextJob.{TextJob, Readable, job_text, flat, given_of, index_list}
use Rattle.text_read_job.specs.declared.Asked.{Asked}

-- the record and the lent slices hold the job
pub record HoldsJob (j : TextJob) (a : Asked) (vertices indices : List ℕ) : Type 0 where
  pub head_is : a.head ≡ j.head
  pub vertices_are : take (3 * a.vertices) vertices ≡ flat j.vertices
  pub vertices_few : a.vertices ≤ most_vertices
  pub given_is : a.given ≡ given_of j.indices
  pub indices_are : take a.indices indices ≡ index_list j.indices
  pub indices_few : a.indices ≤ most_indices a.head.topology
  pub tail_is : a.tail ≡ j.tail

-- A text is read as the job within the limits that it is the text of, and where it is the text of no such job, none is read. A text is that of
-- one job at most (`one_job`, crates/text/proofs/Job.antt).
abbrev pub ReadsAs : List ℕ → List ℕ → List ℕ → Option Asked → Type 0
ReadsAs text vertices indices (Some a) = (j : TextJob) × Readable j × (text ≡ job_text j) × HoldsJob j a vertices indices
ReadsAs text vertices indices None = (j : TextJob) → Readable j → text ≡ job_text j → ⊥

-- where none is read, the text is unreadable
abbrev pub Reads : List ℕ → List ℕ → List ℕ → Result Asked Refusal → Type 0
Reads text vertices indices (Ok a) = ReadsAs text vertices indices (Some a)
Reads text vertices indices (Err r) = (r ≡ Unreadable) × ReadsAs text vertices indices None
