-- The run over a row of records from its parts: a seeding that was refused, a queueing that was refused, and spreading. Each is the law of crate
-- `run_field` at the row's three projections. Assumes nothing.
use Prim.Native.Nat.{ℕ, ◌≤◌}
use native.Mathlib.Omega.{arith}
use mathlib.Core.Path.{◌≡◌, refl, sym, ◌∙◌, subst}
use mathlib.Core.List.{List}
use lib.ListN.{length, length-replicate, replicate}
use lib.Ieee.{Float}
use Rattle.float.specs.Arith.{f_max}
use Rattle.terms.specs.declared.SignMethod.{SignMethod}
use Rattle.grid.specs.declared.Grid.{Grid}
use Rattle.grid.specs.Index.{total}
use Rattle.grid.proofs.Facts.{bounds_of}
use Rattle.mesh.specs.Mesh.{Mesh}
use Rattle.queue.specs.declared.Entry.{Entry}
use Rattle.run.specs.Run.{State, none, queueing, spreading, run}
use Rattle.run.specs.Input.{run_input}
use Rattle.run_state.specs.declared.Progress.{Progress}
use Rattle.run_state.specs.Told.{Fit}
use Rattle.run_field.specs.Running.{Leaves, Fresh, before, seeded}
use Rattle.run_field.proofs.Runs.{as_left, cells_told, queueing_states, rest_stops, rest_begins, rest_goes_on, seeding_stops, seeding_states, seeding_goes_on}
use Rattle.entries.specs.Row.{row_distances, row_cells, row_triangles}
use Rattle.entries.proofs.Projections.{long_row, same_room}
use Rattle.entries_state.specs.Records.{HoldsRow, GoodRow, ToldRow, QueuedCellsRow}
use Rattle.entries_run.specs.Seeded.{begun_by, Seeded}

-- what is left where the run of a job came to r
abbrev pub LeavesRow : Grid → Mesh → SignMethod → ℕ → ℕ → List Float → List ℕ → List Entry → Progress → Type 0
LeavesRow g m sign room limit field names row r = Leaves g m (λ any. run (run_input g m sign room limit)) field names (row_distances row) (row_cells row) (row_triangles row) r

module _ {g : Grid} {m : Mesh} {sign : SignMethod} {number : ℕ} {field : List Float} {names : List ℕ} {row : List Entry} (fit : Fit g m) (s : Seeded g m sign number field names row) where
  fresh : Fresh g (replicate (total g) f_max) (replicate (total g) none) (row_distances row) (row_cells row) (row_triangles row)
  fresh = record { field_bare = refl; names_bare = refl; empty = s.empty }

  -- what queueing asks of the cells
  pub cells_few : length field ≤ 1048576
  cells_few = omega (arith, s.field_long, (bounds_of g fit.ready.bounded).total_few)

  pub seeding_refused : (limit : ℕ) → (number ≡ 0 → ⊥) → LeavesRow g m sign (length row) limit field names row (begun_by number)
  seeding_refused limit z =
      seeding_stops sign fit fresh field names number s.seeds (length row) limit
      (s.field_long ∙ sym (length-replicate (total g) f_max)) (s.names_long ∙ sym (length-replicate (total g) none)) z

  module _ (z : number ≡ 0) (row₁ : List Entry) {p : Progress} (q : QueuedCellsRow field names row (begun_by number) row₁ p) where
    states : GoodRow g m sign field names row before
    states = seeding_states sign fit fresh field names number s.seeds z

    -- the state before anything is queued
    abbrev begins : State
    begins = seeded m field names (row_distances row) (row_cells row) (row_triangles row)

    from_none : QueuedCellsRow field names row before row₁ p
    from_none = subst (λ (n : ℕ). QueuedCellsRow field names row (begun_by n) row₁ p) z q

    queued : Leaves g m (λ any. queueing (run_input g m sign (length row) any) begins) field names (row_distances row₁) (row_cells row₁) (row_triangles row₁) p
    queued =
        subst (λ (n : ℕ). Leaves g m (λ any. queueing (run_input g m sign n any) begins) field names (row_distances row₁) (row_cells row₁) (row_triangles row₁) p)
        (long_row row) (as_left (cells_told fit states from_none))

    pub queueing_refused : (limit : ℕ) → (p.number ≡ 0 → ⊥) → LeavesRow g m sign (length row) limit field names row₁ p
    queueing_refused limit y = seeding_goes_on sign fit fresh field names number s.seeds z (length row) limit (rest_stops sign begins (length row) limit queued y)

    pub queueing_holds : HoldsRow g field names row₁ p.waiting
    queueing_holds = queued.holds

    module _ (l : length row₁ ≡ length row) (y : p.number ≡ 0) where
      pub queueing_good : GoodRow g m sign field names row₁ p
      queueing_good = queueing_states fit states from_none (same_room row row₁ l) y

      pub none_taken : p.pops ≡ 0
      none_taken = rest_begins sign begins (length row) 0 queued y refl

      pub spreading_ends : (limit : ℕ) (field₂ : List Float) (names₂ : List ℕ) (row₂ : List Entry) (r : Progress) → ToldRow g m sign (λ G. spreading G limit) field names row₁ p field₂ names₂ row₂ r
          → LeavesRow g m sign (length row) limit field₂ names₂ row₂ r
      spreading_ends limit field₂ names₂ row₂ r t =
          seeding_goes_on sign fit fresh field names number s.seeds z (length row) limit (rest_goes_on sign begins (length row) limit queued y (long_row row₁ ∙ l) (as_left t))
