-- How a job begins, before its queue is filled. Definitions only.
use Rattle.std.specs.Prelude.{ℕ, ◌≡◌, List, length, replicate, Float, Result, Ok}
use Rattle.float.specs.Arith.{f_max}
use Rattle.lists.specs.Turns.{turns, told}
use Rattle.terms.specs.declared.SignMethod.{SignMethod}
use Rattle.grid.specs.declared.Grid.{Grid}
use Rattle.grid.specs.Index.{total}
use Rattle.mesh.specs.Mesh.{Mesh, triangles_in}
use Rattle.run.specs.Run.{none}
use Rattle.run_seed_cells.specs.Parts.{seed_state, over_triangle}
use Rattle.job_checks.specs.declared.Lengths.{Lengths}
use Rattle.job_checks.specs.Refusals.{refusal_by}
use Rattle.refusals.specs.declared.Refusal.{Refusal}
use Rattle.refusals.specs.Numbers.{refusal_number}

-- refused before anything was changed, or what seeding told
abbrev pub Begun : Type 0
Begun = Result (Result (Unit {0}) Refusal) Refusal

-- how long the lent buffers are, where those of the queue are all room long
abbrev pub lengths_with : List Float → List ℕ → ℕ → ℕ → ℕ → Lengths
lengths_with field names crossings rows room =
    record {
      field = length field;
      names = length names;
      crossings = crossings;
      rows = rows;
      distances = room;
      cells = room;
      triangles = room;
    }

-- The field and the names become field' and names': as they were where a number of the checks refuses, else seeded from bare ones.
pub record Begins (g : Grid) (m : Mesh) (sign : SignMethod) (edition crossings rows room : ℕ) (field : List Float) (names : List ℕ) (field' : List Float) (names' : List ℕ) (r : Begun) : Type 0 where
  pub refused_is : refusal_number r ≡ refusal_by g edition m (lengths_with field names crossings rows room)
  pub unchanged : (refusal_number r ≡ 0 → ⊥) → (field' ≡ field) × (names' ≡ names)
  pub seeded : (seeding : Result (Unit {0}) Refusal) → r ≡ Ok seeding
      → turns (over_triangle g m sign) (length (triangles_in m)) (seed_state (replicate (total g) f_max) (replicate (total g) none)) ≡ told (refusal_number seeding) (seed_state field' names')
