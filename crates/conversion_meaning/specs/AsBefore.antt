-- "prove that both name the same triangles in the same order, so that the field is what the strip gave" (document 02, §7). What a job gave
-- while strips were taken, as a definition: the run, the rays and the rows still know strips, and of the checks 13 alone asks for one. Definitions
-- only; proofs/Theorem.antt shows that a conversion is answered so (`as_before`, `printed_as_before`).
use Rattle.std.specs.Prelude.{ℕ, ◌≡◌, cond, List, [], ◌∷◌, eqb}
use Rattle.lists.specs.Checks.{Check, first_that_applies}
use Rattle.job_checks.specs.Job.{Job, Lent}
use Rattle.job_checks.specs.Refusals.{lengths_of, checks}
use Rattle.job_outcome.specs.Outcome.{Outcome, ended, run_of, unless_refused}
use Rattle.text.specs.TextJob.{TextJob, job_text}
use Rattle.listing.specs.Listing.{asked_job, lent_for, listed, Prints}
use Rattle.text_convert.specs.Converted.{OldJob, Converts}

-- the checks but those with a number, in their order
unfoldable pub without : ℕ → List Check → List Check
without n [] = []
without n (c ∷ cs) = cond (eqb c.number n) (without n cs) (c ∷ without n cs)

-- the checks but the one of strips: 1, 14, 2, 3, 4, 10, 5
abbrev pub old_refusal : Job → Lent → ℕ
old_refusal j b = first_that_applies (without 13 (checks j.grid j.edition j.mesh (lengths_of b)))

-- what a job came to, strip or list
unfoldable pub old_outcome : Job → Lent → Outcome
old_outcome j b = unless_refused (old_refusal j b) b (ended j b (run_of j b))

-- what the job program printed
abbrev pub old_listing : TextJob → List ℕ
old_listing j = let o = old_outcome (asked_job j) (lent_for j.head j.tail) in listed o.answer o.left

-- An old job's text was converted, and the job program given what the converter printed: it prints what it printed for the old job.
abbrev pub PrintedAsBefore : List ℕ → List ℕ → List ℕ → Type 0
PrintedAsBefore old conversion output =
    (j : TextJob) → OldJob j → old ≡ job_text j → Converts old conversion → Prints conversion output → output ≡ old_listing j
