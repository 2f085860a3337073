-- "thin entry points take the queue as a lent row of entry records" (document 01, "Choosing the form by place"): one list of entries
-- holds what waits, instead of three lists of numbers. Its three projections are such lists, and each promise is that of crate `queue`
-- about them. Definitions only.
use Rattle.std.specs.Prelude.{ℕ, Bool, List, map}
use Rattle.queue.specs.declared.Entry.{Entry}
use Rattle.queue.specs.Queue.{waiting, Held, Pushed, Taken, Cleared}

-- the three lists of a row
abbrev pub row_distances : List Entry → List ℕ
row_distances row = map (λ e. e.distance) row

abbrev pub row_cells : List Entry → List ℕ
row_cells row = map (λ e. e.cell) row

abbrev pub row_triangles : List Entry → List ℕ
row_triangles row = map (λ e. e.triangle) row

module _ (le : Entry → Entry → Bool) where
  -- the n waiting entries, in the order in which they are taken
  abbrev pub waiting_in : List Entry → ℕ → List Entry
  waiting_in row n = waiting le (row_distances row) (row_cells row) (row_triangles row) n

  -- the row holds n waiting entries, and zeros in the rest of its room
  abbrev pub HeldRow : List Entry → ℕ → Type 0
  HeldRow row n = Held le (row_distances row) (row_cells row) (row_triangles row) n

  -- what push leaves
  abbrev pub PushedRow : Entry → List Entry → List Entry → ℕ → Type 0
  PushedRow e row row' n = Pushed le e (row_distances row) (row_cells row) (row_triangles row) (row_distances row') (row_cells row') (row_triangles row') n

  -- what take leaves
  abbrev pub TakenRow : Entry → List Entry → List Entry → ℕ → Type 0
  TakenRow r row row' n = Taken le r (row_distances row) (row_cells row) (row_triangles row) (row_distances row') (row_cells row') (row_triangles row') n

-- what clear leaves
abbrev pub ClearedRow : List Entry → List Entry → Type 0
ClearedRow row row' = Cleared (row_distances row) (row_cells row) (row_triangles row) (row_distances row') (row_cells row') (row_triangles row')
