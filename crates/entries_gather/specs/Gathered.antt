-- The offers of a pop over the field and the names alone. Definitions only.
use Rattle.std.specs.Prelude.{ℕ, ◌<◌, ◌≡◌, List, Float}
use Rattle.terms.specs.declared.SignMethod.{SignMethod}
use Rattle.grid.specs.declared.Grid.{Grid}
use Rattle.mesh.specs.Mesh.{Mesh}
use Rattle.queue.specs.declared.Entry.{Entry}
use Rattle.run.specs.Run.{RunInput, State, queue, spread_around}
use Rattle.run.specs.Input.{run_input}
use Rattle.run.specs.Keys.{keyed}
use Rattle.run_around.specs.Around.{offer_all}
use Rattle.entries_batch.specs.declared.Batch.{Batch}
use Rattle.entries_batch.specs.Batch.{queue_all, over}

-- all offers of a pop: the field and the names are changed, and the batch has what is queued
pub record BatchGathered (k : ℕ) (to : List ℕ) (squares : List Float) (field : List Float) (names : List ℕ) (field' : List Float) (names' : List ℕ) (b : Batch) : Type 0 where
  pub few : b.count < 28
  pub is : (g : RunInput) (s : State) → offer_all (queue g) k to squares (over field names s) ≡ queue_all g b (over field' names' s)

-- the same of the cells around an entry
pub record PopOffered (g : Grid) (m : Mesh) (sign : SignMethod) (e : Entry) (field : List Float) (names : List ℕ) (field' : List Float) (names' : List ℕ) (b : Batch) : Type 0 where
  pub few : b.count < 28
  pub is : (room any : ℕ) (s : State) → let G = keyed (run_input g m sign room any) in spread_around G e (over field names s) ≡ queue_all G b (over field' names' s)
