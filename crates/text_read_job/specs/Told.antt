-- The job that a record and the lent slices hold. Definitions only.
use Rattle.std.specs.Prelude.{ℕ, List, take}
use Rattle.text.specs.TextJob.{TextJob}
use Rattle.text.specs.Reader.{assembled}
use Rattle.text_read_parts.specs.Told.{threes_in, listed_as}
use Rattle.text_read_job.specs.declared.Asked.{Asked}

abbrev pub job_in : Asked → List ℕ → List ℕ → TextJob
job_in a vertices indices =
    assembled a.head (threes_in a.vertices vertices) (listed_as a.given (take a.indices indices)) a.tail
