-- The listing of a job that was read, and what the program's buffers hold of it. Definitions only.
use Rattle.std.specs.Prelude.{ℕ, ◌≤◌, List, length, Float}
use Rattle.job_checks.specs.Job.{Job, Lent}
use Rattle.job_outcome.specs.Outcome.{outcome}
use Rattle.text.specs.Limits.{most_cells, most_entries, coordinate_room, listing_room}
use Rattle.text.specs.TextJob.{cells_of}
use Rattle.text_read_job.specs.declared.Asked.{Asked}
use Rattle.listing.specs.Listing.{job_by, listed}

-- what is listed of a job over lent buffers
unfoldable pub listed_of : Job → Lent → List ℕ
listed_of j b = listed (outcome j b).answer (outcome j b).left

-- the job of a record, with the floats of its coordinates and its indices
abbrev pub held_job : Asked → List Float → List ℕ → Job
held_job a vertices indices = job_by a.head vertices a.given indices a.tail

-- the record and the bits of the coordinates are within the limits, and `out` has room for any listing
pub record Small (a : Asked) (bits out : List ℕ) : Type 0 where
  pub cells_few : cells_of a.head.count ≤ most_cells
  pub coordinates_few : length bits ≤ coordinate_room
  pub entries_few : a.tail.room ≤ most_entries
  pub room : listing_room ≤ length out

-- the program's buffers hold so many cells, layers and entries, and `out` has room for any listing
pub record Sizes (cells layers entries : ℕ) (out : List ℕ) : Type 0 where
  pub cells_few : cells ≤ most_cells
  pub layers_few : layers ≤ most_cells
  pub entries_few : entries ≤ most_entries
  pub room : listing_room ≤ length out
