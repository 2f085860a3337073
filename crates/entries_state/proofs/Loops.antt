-- A loop of turns that are told by keys, over a row: the loop of crate `run_state` at the row's three projections. Assumes nothing.
use Prim.Native.Nat.{ℕ}
use mathlib.Core.List.{List}
use lib.Ieee.{Float}
use Rattle.lists.specs.Turns.{Turn}
use Rattle.queue.specs.declared.Entry.{Entry}
use Rattle.run.specs.Run.{RunInput, State}
use Rattle.run_state.specs.declared.Progress.{Progress}
use Rattle.run_state.proofs.Loops.{After}
use Rattle.entries.specs.Row.{row_distances, row_cells, row_triangles}

-- the row, which held row₀ and r₀, holds what k turns leave, and the field and the names are as they were
abbrev pub AfterRow : (RunInput → ℕ → State → Turn State) → List Float → List ℕ → List Entry → Progress → ℕ → List Entry → Progress → Type 0
AfterRow f field names row₀ r₀ k row r =
    After f field names (row_distances row₀) (row_cells row₀) (row_triangles row₀) r₀ k field names (row_distances row) (row_cells row) (row_triangles row) r
