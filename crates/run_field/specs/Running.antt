-- How the steps of a run tell what they did, one after another. Definitions only.
use Rattle.std.specs.Prelude.{ℕ, ◌≡◌, List, replicate, Float}
use Rattle.float.specs.Arith.{f_max}
use Rattle.lists.specs.Turns.{Turn, told}
use Rattle.grid.specs.declared.Grid.{Grid}
use Rattle.grid.specs.Index.{total}
use Rattle.mesh.specs.Mesh.{Mesh}
use Rattle.queue.specs.Keys.{by_keys}
use Rattle.queue.specs.Queue.{Held}
use Rattle.run.specs.Run.{State, none}
use Rattle.run_state.specs.declared.Progress.{Progress}
use Rattle.run_state.specs.Told.{order_in, state_of, Holds}

-- the lent field, names and queue as a run begins: no cell holds a triangle, and no entry waits
pub record Fresh (g : Grid) (field : List Float) (names ds cs ts : List ℕ) : Type 0 where
  pub field_bare : field ≡ replicate (total g) f_max
  pub names_bare : names ≡ replicate (total g) none
  pub empty : Held by_keys ds cs ts 0

-- nothing has waited or been taken
abbrev pub before : Progress
before = record { number = 0; waiting = 0; pops = 0; peak = 0 }

-- the state that a field and names hold before anything is queued
abbrev pub seeded : Mesh → List Float → List ℕ → List ℕ → List ℕ → List ℕ → State
seeded m field names ds cs ts = state_of (order_in m) field names ds cs ts before

-- The slices hold what a part of the run, as it is told of an input with any pop limit, leaves; or it was refused, and then the number
-- alone says what the run came to.
pub record Leaves (g : Grid) (m : Mesh) (part : ℕ → Turn State) (field : List Float) (names ds cs ts : List ℕ) (r : Progress) : Type 0 where
  pub holds : Holds g field names ds cs ts r.waiting
  pub is : (any : ℕ) → part any ≡ told r.number (state_of (order_in m) field names ds cs ts r)
