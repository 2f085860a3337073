-- The job over a row of records from its parts, as `job_generate`'s laws have it of the row's three projections: what is refused first, what the run begins
-- with, and what follows it. Assumes nothing.
use Prim.Native.Nat.{ℕ}
use mathlib.Core.Path.{◌≡◌, refl, sym, ap, ◌∙◌}
use mathlib.Core.List.{List, map}
use lib.ListN.{length, length-map}
use lib.Ieee.{Float}
use Rattle.terms.specs.declared.SignMethod.{SignMethod}
use Rattle.grid.specs.declared.Grid.{Grid}
use Rattle.grid.specs.Index.{total}
use Rattle.mesh.specs.Mesh.{Mesh}
use Rattle.queue.specs.declared.Entry.{Entry}
use Rattle.queue.specs.Keys.{by_keys}
use Rattle.queue.proofs.Uses as Queue
use Rattle.std.specs.Prelude.{Result, Ok, Err}
use Rattle.refusals.specs.declared.Refusal.{Refusal}
use Rattle.refusals.specs.Numbers.{number_of, reply_of, refusal_number}
use Rattle.run.specs.Run.{run}
use Rattle.run.specs.Input.{run_input}
use Rattle.lists.specs.Turns.{told}
use Rattle.run_state.specs.declared.Progress.{Progress}
use Rattle.run_state.specs.Told.{order_in, state_of, Fit}
use Rattle.entries.specs.Row.{row_distances, row_cells, row_triangles, ClearedRow}
use Rattle.job_checks.specs.Job.{Job, Lent}
use Rattle.job_checks.specs.Refusals.{refusal, refusal_by, lengths_of}
use Rattle.job_checks.proofs.HandedUp.{not_0}
use Rattle.job_checks.proofs.Accepted.{Accepted, accepted}
use Rattle.job_clear.proofs.Lengths.{lengths_same}
use Rattle.run_field.proofs.Runs.{run_over}
use Rattle.job_begin.specs.Begins.{Begun, lengths_with, Begins}
use Rattle.entries_run.specs.Seeded.{Seeded}
use Rattle.entries_run.proofs.Rows.{LeavesRow}
use Rattle.job_outcome.specs.declared.Tally.{Tally}
use Rattle.job_outcome.specs.Outcome.{Answer, reply_told, Gives, outcome}
use Rattle.job_outcome.specs.Finished.{Long, Closed}
use Rattle.job_outcome.specs.Numbers.{RunEnds}
use Rattle.job_outcome.proofs.Numbers.{run_ends}
use Rattle.job_outcome.proofs.Outcomes.{gives, gives_told, gives_refused, gives_done, gives_run}
use Rattle.job_generate.proofs.Jobs.{gives_unchanged, gives_outcome}
use Rattle.entries_generate.specs.LentRow.{lent_row}

module _ (g : Grid) (m : Mesh) (sign : SignMethod) (limit edition : ℕ) (field : List Float) (names crossings rows : List ℕ) (queue : List Entry) where
  abbrev job : Job
  job = record { grid = g; mesh = m; sign = sign; limit = limit; edition = edition }

  abbrev lent : Lent
  lent = lent_row field names crossings rows queue

  -- a row has one length
  one_length : lengths_of lent ≡ lengths_with field names (length crossings) (length rows) (length queue)
  one_length = λ i. record {
    field = length field;
    names = length names;
    crossings = length crossings;
    rows = length rows;
    distances = length-map queue (λ (e : Entry). e.distance) i;
    cells = length-map queue (λ (e : Entry). e.cell) i;
    triangles = length-map queue (λ (e : Entry). e.triangle) i;
  }

  module _ (field₁ : List Float) (names₁ : List ℕ) (begun : Begun) (s : Begins g m sign edition (length crossings) (length rows) (length queue) field names field₁ names₁ begun) where
    first : refusal_number begun ≡ refusal job lent
    first = s.refused_is ∙ ap (refusal_by g edition m) (sym one_length)

    pub refused_first : (r : Refusal) → number_of r ≡ refusal_number begun → Gives (outcome job lent) (Err r) (lent_row field₁ names₁ crossings rows queue)
    refused_first r e =
        let same = s.unchanged (not_0 r e) in
        let unchanged = gives_unchanged job lent r (e ∙ first) in
        gives unchanged.answers ((λ i. lent_row (same.0 i) (same.1 i) crossings rows queue) ∙ unchanged.leaves)

    module _ (seeded : Result (Unit {0}) Refusal) (z : begun ≡ Ok seeded) where
      none_refused : refusal job lent ≡ 0
      none_refused = sym first ∙ ap refusal_number z

      taken : Accepted g edition m (lengths_of lent)
      taken = accepted g edition m (lengths_of lent) none_refused

      pub fits : Fit g m
      fits = taken.fit

      pub is_long : Long g crossings rows
      is_long = record { crossings_long = taken.long.crossings; rows_long = taken.long.rows }

      module _ (l-field : length field₁ ≡ length field) (l-names : length names₁ ≡ length names) (queue₁ : List Entry) (l-queue : length queue₁ ≡ length queue) (clear : ClearedRow queue queue₁) where
        pub seeds : Seeded g m sign (refusal_number seeded) field₁ names₁ queue₁
        seeds = record {
          seeds = s.seeded seeded z;
          field_long = l-field ∙ taken.long.field;
          names_long = l-names ∙ taken.long.names;
          empty =
              Queue.cleared by_keys (row_distances queue) (row_cells queue) (row_triangles queue) (row_distances queue₁) (row_cells queue₁) (row_triangles queue₁)
              (record { cells = taken.long.cells; triangles = taken.long.triangles }) clear;
        }

        module _ (field₂ : List Float) (names₂ : List ℕ) (queue₂ : List Entry) (ran : Progress) (l-field₂ : length field₂ ≡ length field₁) (l-names₂ : length names₂ ≡ length names₁) (l-queue₂ : length queue₂ ≡ length queue₁)
            (w : LeavesRow g m sign (length queue₁) limit field₂ names₂ queue₂ ran) where
          pub field_long : length field₂ ≡ total g
          field_long = w.holds.field_long

          -- the run of the job, whose room is the row's length
          went : run (run_input g m sign (length (row_distances queue)) limit) ≡ told ran.number (state_of (order_in m) field₂ names₂ (row_distances queue₂) (row_cells queue₂) (row_triangles queue₂) ran)
          went = ap (λ (k : ℕ). run (run_input g m sign k limit)) (length-map queue (λ (e : Entry). e.distance) ∙ sym l-queue) ∙ w.is 0

          pub ends : RunEnds ran.number
          ends = run_ends job lent ran.number _ went

          -- what is lent stays as long as it was
          as_long : (f : Entry → ℕ) → length (map f queue₂) ≡ length (map f queue)
          as_long f = length-map queue₂ f ∙ l-queue₂ ∙ l-queue ∙ sym (length-map queue f)

          long_as : lengths_of (lent_row field₂ names₂ crossings rows queue₂) ≡ lengths_of lent
          long_as =
              lengths_same (lent_row field₂ names₂ crossings rows queue₂) lent (l-field₂ ∙ l-field) (l-names₂ ∙ l-names) refl refl
              (as_long (λ (e : Entry). e.distance)) (as_long (λ (e : Entry). e.cell)) (as_long (λ (e : Entry). e.triangle))

          module _ (field₃ : List Float) (names₃ crossings₃ rows₃ : List ℕ) (r : Result Tally ℕ) (c : Closed g m sign edition ran field₂ names₂ crossings rows field₃ names₃ crossings₃ rows₃ r) (answer : Answer) (same : reply_of answer ≡ reply_told r) where
            -- nothing waits: the row is all zero
            pub done_with : ran.number ≡ 0 → Gives (outcome job lent) answer (lent_row field₃ names₃ crossings₃ rows₃ queue₂)
            done_with y =
                gives_outcome job lent none_refused
                (gives_run job (lent_row field₂ names₂ crossings rows queue₂) lent long_as went
                (gives_told r (gives_done g m sign limit edition field₂ names₂ crossings rows (row_distances queue₂) (row_cells queue₂) (row_triangles queue₂) ran c y (run_over sign (length queue₁) limit w)) same))

            -- or the row is cleared
            pub cleared_after : (ran.number ≡ 0 → ⊥) → (queue₃ : List Entry) → ClearedRow queue₂ queue₃ → Gives (outcome job lent) answer (lent_row field₃ names₃ crossings₃ rows₃ queue₃)
            cleared_after y queue₃ q =
                gives_outcome job lent none_refused
                (gives_run job (lent_row field₂ names₂ crossings rows queue₂) lent long_as went
                (gives_told r (gives_refused g m sign limit edition field₂ names₂ crossings rows (row_distances queue₂) (row_cells queue₂) (row_triangles queue₂) ran c y q) same))
