-- What a run over a row of records begins with: the field and the names as seeding leaves them, and a row in which nothing waits.
-- Definitions only.
use Rattle.std.specs.Prelude.{ℕ, ◌≡◌, List, length, replicate, Float}
use Rattle.float.specs.Arith.{f_max}
use Rattle.lists.specs.Turns.{turns, told}
use Rattle.terms.specs.declared.SignMethod.{SignMethod}
use Rattle.grid.specs.declared.Grid.{Grid}
use Rattle.grid.specs.Index.{total}
use Rattle.mesh.specs.Mesh.{Mesh, triangles_in}
use Rattle.queue.specs.declared.Entry.{Entry}
use Rattle.queue.specs.Keys.{by_keys}
use Rattle.run.specs.Run.{none}
use Rattle.run_seed_cells.specs.Parts.{seed_state, over_triangle}
use Rattle.run_state.specs.declared.Progress.{Progress}
use Rattle.entries.specs.Row.{HeldRow}

-- nothing has waited or been taken, and seeding came to a number
abbrev pub begun_by : ℕ → Progress
begun_by number = record { number = number; waiting = 0; pops = 0; peak = 0 }

-- seeding an all-clear field came to a number, and left these
pub record Seeded (g : Grid) (m : Mesh) (sign : SignMethod) (number : ℕ) (field : List Float) (names : List ℕ) (row : List Entry) : Type 0 where
  pub seeds : turns (over_triangle g m sign) (length (triangles_in m)) (seed_state (replicate (total g) f_max) (replicate (total g) none)) ≡ told number (seed_state field names)
  pub field_long : length field ≡ total g
  pub names_long : length names ≡ total g
  pub empty : HeldRow by_keys row 0
