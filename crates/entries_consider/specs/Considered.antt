-- An offer over the field and the names alone, and its verdict. Definitions only.
use Rattle.std.specs.Prelude.{ℕ, ◌≡◌, List, Float, Result, Ok, Err, Option, Some, None}
use Rattle.float_shortcut.specs.Shown.{signed_root}
use Rattle.lists.specs.Turns.{Turn, goes, refuses}
use Rattle.queue.specs.declared.Entry.{Entry}
use Rattle.refusals.specs.declared.Refusal.{Refusal}
use Rattle.refusals.specs.Numbers.{number_of}
use Rattle.run.specs.Run.{State}
use Rattle.run_around.specs.Around.{place_of, offer_place}
use Rattle.entries_batch.specs.Batch.{over}

-- what it comes to, by a verdict, where `entry` is what is queued at a distance
unfoldable pub verdict : Result (Option ℕ) Refusal → (ℕ → Entry) → (Entry → State → Turn State) → State → Turn State
verdict (Err r) entry also s = refuses (number_of r)
verdict (Ok (Some d)) entry also s = also (entry d) s
verdict (Ok None) entry also s = goes s

-- an offer came to a verdict
pub record Considered (k to : ℕ) (q : Float) (field : List Float) (names : List ℕ) (field' : List Float) (names' : List ℕ) (v : Result (Option ℕ) Refusal) : Type 0 where
  pub is : (also : Entry → State → Turn State) (s : State)
      → offer_place also k (place_of to) (signed_root q) (over field names s) ≡ verdict v (λ d. record { distance = d; cell = to; triangle = k }) also (over field' names' s)
