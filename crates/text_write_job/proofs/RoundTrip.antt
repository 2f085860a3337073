-- What was written of a job within the limits is read as that job: its text is that of one job only. Assumes nothing.
use Prim.Native.Nat.{ℕ}
use mathlib.Core.Path.{◌≡◌, refl, sym, ◌∙◌, subst}
use mathlib.Core.List.{List}
use lib.ListN.{take}
use Rattle.text.specs.TextJob.{TextJob, Readable, job_text}
use Rattle.text.proofs.Job.{one_job}
use Rattle.text_read_job.specs.declared.Asked.{Asked}
use Rattle.std.specs.Prelude.{Result, Ok, Err}
use Rattle.refusals.specs.declared.Refusal.{Refusal}
use Rattle.text_read_job.specs.Told.{job_in}
use Rattle.text_read_job.specs.Reading.{HoldsJob, Reads}
use Rattle.lists.specs.Put.{Put}

-- `Reads` is what `read_job` promises of a text and of the slices that it filled
text_reads : (text : List ℕ) (j : TextJob) → Readable j → text ≡ job_text j → (vertices indices : List ℕ) (r : Result Asked Refusal) → Reads text vertices indices r
    → (b : Asked) × (r ≡ Ok b) × HoldsJob j b vertices indices
text_reads text j h e vertices indices (Ok b) w =
    (b, refl, subst (λ (k : TextJob). HoldsJob k b vertices indices) (one_job w.0 j w.1 h (sym w.2 ∙ e)) w.3)
text_reads text j h e vertices indices (Err r) w = absurd (w.1 j h e)

-- the first n bytes of `new` are what `write_job` wrote of `a`
pub round_trip : (a : Asked) (vertices indices old new : List ℕ) (n : ℕ) → Readable (job_in a vertices indices)
    → Put old 0 (job_text (job_in a vertices indices)) new n
    → (vertices' indices' : List ℕ) (r : Result Asked Refusal)
    → Reads (take n new) vertices' indices' r
    → (b : Asked) × (r ≡ Ok b) × HoldsJob (job_in a vertices indices) b vertices' indices'
round_trip a vertices indices old new n h p = text_reads (take n new) (job_in a vertices indices) h p.front
