-- What the function that writes a listing promises. Definitions only.
use Rattle.std.specs.Prelude.{ℕ, ◌≤◌, ◌≡◌, List, [], length, Float, Option, None, Some}
use Rattle.refusals.specs.Numbers.{Reply}
use Rattle.job_outcome.specs.declared.Tally.{Tally}
use Rattle.job_checks.specs.Job.{Lent, lent_of}
use Rattle.job_outcome.specs.Outcome.{peak_of}
use Rattle.text.specs.Limits.{most_cells, listing_room}
use Rattle.lists.specs.Put.{Put}
use Rattle.listing.specs.Listing.{listed}

-- the buffers that a listing shows
abbrev pub shown : List Float → List ℕ → List ℕ → Lent
shown field names rows = lent_of field names [] rows [] [] []

-- "512 cells", as many names, and no more layers than that; and bytes that hold any listing of these
pub record RoomToList (field : List Float) (names rows out : List ℕ) : Type 0 where
  pub room : listing_room ≤ length out
  pub cells_few : length field ≤ most_cells
  pub all_named : length names ≡ length field
  pub rows_few : length rows ≤ most_cells

-- what can be written: the numbers of a text are at most 4,294,967,295
pub record Listable (a : Reply Tally) (field : List Float) (names rows out : List ℕ) : Type 0 where
  pub few : RoomToList field names rows out
  pub peak_fits : peak_of a ≤ 4294967295

-- the listing stands at the first bytes of out, and the others are as they were; or it cannot be written, and out is as it was
abbrev pub WritesListing : Reply Tally → List Float → List ℕ → List ℕ → List ℕ → List ℕ → Option ℕ → Type 0
WritesListing a field names rows old new None = (Listable a field names rows old → ⊥) × (new ≡ old)
WritesListing a field names rows old new (Some n) = Listable a field names rows old × Put old 0 (listed a (shown field names rows)) new n
