-- What follows a run leaves of all but the queue (document 01, "The run", 4, and "Reply numbers"). Definitions only.
use Rattle.std.specs.Prelude.{ℕ, ◌*◌, ◌≡◌, List, length, Float, Result, Ok, Err}
use Rattle.terms.specs.declared.SignMethod.{SignMethod}
use Rattle.grid.specs.declared.Grid.{Grid}
use Rattle.grid.specs.Index.{total}
use Rattle.grid.specs.Layers.{layers}
use Rattle.mesh.specs.Mesh.{Mesh}
use Rattle.run.specs.Signs.{rows}
use Rattle.run.specs.Method.{field_by, crossings_by, grazed_by}
use Rattle.run_state.specs.declared.Progress.{Progress}
use Rattle.job_clear.specs.Cleared.{ClearedFields}
use Rattle.job_outcome.specs.declared.Tally.{Tally}

-- the lent crossings and rows are of the right lengths
pub record Long (g : Grid) (crossings rows : List ℕ) : Type 0 where
  pub crossings_long : length crossings ≡ 3 * total g
  pub rows_long : length rows ≡ layers g

-- the counts, the signs and the rows of a field, by the method of the signs and the edition of the table
pub record Finished (g : Grid) (m : Mesh) (sign : SignMethod) (edition : ℕ) (old new : List Float) (counts layers : List ℕ) : Type 0 where
  pub crossings : counts ≡ crossings_by sign g m
  pub field : new ≡ field_by sign g m old
  pub rows : layers ≡ rows edition g (field_by sign g m old)

-- After a run that came to ran: field to layers, the rows, are then field' to layers'. A refusal is answered by its number and clears
-- them; else the answer is what was taken, waited and grazed, and the names stay.
pub record Closed (g : Grid) (m : Mesh) (sign : SignMethod) (edition : ℕ) (ran : Progress) (field : List Float) (names crossings layers : List ℕ) (field' : List Float) (names' crossings' layers' : List ℕ) (answer : Result Tally ℕ) : Type 0 where
  pub refused : (ran.number ≡ 0 → ⊥) → (answer ≡ Err ran.number) × ClearedFields field field' names crossings layers names' crossings' layers'
  pub done : ran.number ≡ 0 → (answer ≡ Ok (record { pops = ran.pops; peak = ran.peak; grazed = grazed_by sign g m })) × (names' ≡ names) × Finished g m sign edition field field' crossings' layers'
