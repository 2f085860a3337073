-- What is written of an answer, by its two cases. Assumes nothing.
use Prim.Native.Nat.{ℕ, ◌≤◌, ◌<◌}
use native.Mathlib.Omega.{arith}
use mathlib.Core.Path.{◌≡◌, ap}
use mathlib.Core.List.{List, [], ◌∷◌, ◌++◌}
use lib.Ieee.{Float}
use Rattle.refusals.specs.Numbers.{Reply, refused, given}
use Rattle.job_outcome.specs.declared.Tally.{Tally}
use Rattle.job_outcome.specs.Outcome.{peak_of}
use Rattle.text.specs.Words.{bytes, decimal, lf, line}
use Rattle.lists.specs.Put.{Put}
use Rattle.listing.specs.Listing.{listed}
use Rattle.listing.specs.Written.{shown, RoomToList, Listable}

module _ {a : Reply Tally} {field : List Float} {names rows old new : List ℕ} {k : ℕ} where
  pub refused_written : (n : ℕ) → a ≡ refused n → RoomToList field names rows old → Put old 0 (bytes "answer=" ++ decimal n ++ lf ∷ []) new k
      → Listable a field names rows old × Put old 0 (listed a (shown field names rows)) new k
  unfolding listed line
  refused_written n e f p = rw e (record { few = f; peak_fits = omega arith }, p)

  pub done_written : (t : Tally) → a ≡ given t → RoomToList field names rows old → t.peak ≤ 4294967295
      → Put old 0 (listed (given t) (shown field names rows)) new k
      → Listable a field names rows old × Put old 0 (listed a (shown field names rows)) new k
  done_written t e f h p = rw e (record { few = f; peak_fits = h }, p)

pub too_high : {a : Reply Tally} {field : List Float} {names rows old : List ℕ} (t : Tally) → a ≡ given t → 4294967295 < t.peak
    → Listable a field names rows old → ⊥
too_high t e h l = omega (arith, l.peak_fits, ap peak_of e)
