-- How the run over a row of records tells what it did: as crate `run_state` has it, of the row's three projections. Definitions only.
use Rattle.std.specs.Prelude.{ℕ, ◌+◌, ◌-◌, List, eqb, Float, if◌then◌else◌}
use Rattle.lists.specs.Turns.{Turn}
use Rattle.terms.specs.declared.SignMethod.{SignMethod}
use Rattle.grid.specs.declared.Grid.{Grid}
use Rattle.mesh.specs.Mesh.{Mesh}
use Rattle.queue.specs.declared.Entry.{Entry}
use Rattle.run.specs.Run.{RunInput, State}
use Rattle.run_state.specs.declared.Progress.{Progress}
use Rattle.run_state.specs.Told.{refused_by, Holds, GoodIn, Told, ToldByKeys, QueuedCells}
use Rattle.entries.specs.Row.{row_distances, row_cells, row_triangles}
use Rattle.entries_batch.specs.declared.Batch.{Batch}
use Rattle.entries_batch.specs.Batch.{queue_all}

-- the slices are of the right lengths and the row holds n waiting entries
abbrev pub HoldsRow : Grid → List Float → List ℕ → List Entry → ℕ → Type 0
HoldsRow g field names row n = Holds g field names (row_distances row) (row_cells row) (row_triangles row) n

-- and what they hold is a state of the run
abbrev pub GoodRow : Grid → Mesh → SignMethod → List Float → List ℕ → List Entry → Progress → Type 0
GoodRow g m sign field names row p = GoodIn g m sign field names (row_distances row) (row_cells row) (row_triangles row) p

-- a turn of the run over what is lent
abbrev pub ToldRow : Grid → Mesh → SignMethod → (RunInput → State → Turn State) → List Float → List ℕ → List Entry → Progress → List Float → List ℕ → List Entry → Progress → Type 0
ToldRow g m sign turn field names row at field' names' row' r =
    Told g m sign turn field names (row_distances row) (row_cells row) (row_triangles row) at field' names' (row_distances row') (row_cells row') (row_triangles row') r

-- ---- the counts

-- refused by a number, where nothing was refused before
unfoldable pub stopped_by : ℕ → Progress → Progress
stopped_by number p = if eqb p.number 0 then refused_by number p else p

-- one more is taken, or the pops are spent
unfoldable pub popped_by : ℕ → Progress → Progress
popped_by limit p =
    if eqb p.pops limit
    then refused_by 8 p
    else record { number = 0; waiting = p.waiting - 1; pops = p.pops + 1; peak = p.peak }

-- ---- what is told of the queue alone

-- a turn by keys over what is lent
abbrev pub ToldByKeysRow : (RunInput → State → Turn State) → List Float → List ℕ → List Entry → Progress → List Float → List ℕ → List Entry → Progress → Type 0
ToldByKeysRow turn field names row at field' names' row' r =
    ToldByKeys turn field names (row_distances row) (row_cells row) (row_triangles row) at field' names' (row_distances row') (row_cells row') (row_triangles row') r

-- a batch was queued, whatever the field and the names are
abbrev pub QueuedAll : Batch → List Entry → Progress → List Entry → Progress → Type 0
QueuedAll b row at row' r = (field : List Float) (names : List ℕ) → ToldByKeysRow (λ g. queue_all g b) field names row at field names row' r

-- all cells were queued
abbrev pub QueuedCellsRow : List Float → List ℕ → List Entry → Progress → List Entry → Progress → Type 0
QueuedCellsRow field names row at row' r =
    QueuedCells field names (row_distances row) (row_cells row) (row_triangles row) at (row_distances row') (row_cells row') (row_triangles row') r
