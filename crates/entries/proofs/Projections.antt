-- A row's three projections, put together again, are the row: so what waits in the row is what waits in the three lists. Assumes nothing.
use Prim.Native.Nat.{ℕ, ◌≤◌}
use mathlib.Core.Path.{◌≡◌, refl, sym, ap, ◌∙◌}
use mathlib.Core.Bool.{Bool}
use mathlib.Core.List.{List, [], ◌∷◌, map}
use lib.ListN.{length, replicate, length-map}
use Rattle.lists.proofs.Table.{map_replicate}
use Rattle.queue.specs.declared.Entry.{Entry}
use Rattle.queue.specs.Heap.{Keeps}
use Rattle.queue.specs.Queue.{blank, entries, Even}
use Rattle.entries.specs.Row.{row_distances, row_cells, row_triangles, HeldRow, ClearedRow}

pub row_entries : (row : List Entry) → entries (row_distances row) (row_cells row) (row_triangles row) ≡ row
unfolding entries
row_entries [] = refl
row_entries (e ∷ row) = ap (λ (l : List Entry). e ∷ l) (row_entries row)

pub row_even : (row : List Entry) → Even (row_distances row) (row_cells row) (row_triangles row)
row_even row = record {
  cells = length-map row (λ e. e.cell) ∙ sym (length-map row (λ e. e.distance));
  triangles = length-map row (λ e. e.triangle) ∙ sym (length-map row (λ e. e.distance));
}

-- the room of a row
pub long_row : (row : List Entry) → length (row_distances row) ≡ length row
long_row row = length-map row (λ e. e.distance)

-- is the same in rows of one length
pub same_room : (row row' : List Entry) → length row' ≡ length row → length (row_distances row') ≡ length (row_distances row)
same_room row row' l = long_row row' ∙ l ∙ sym (long_row row)

module _ {le : Entry → Entry → Bool} where
  -- a heap in the row is one in the three lists, and back
  pub held_of : (row : List Entry) (n : ℕ) → Keeps le blank row n → HeldRow le row n
  held_of row n k = record { even = row_even row; keeps = rw (row_entries row) k }

  pub of_held : (row : List Entry) (n : ℕ) → HeldRow le row n → Keeps le blank row n
  of_held row n h = rw (sym (row_entries row)) h.keeps

  -- the waiting entries fit into the row
  pub held_in : (row : List Entry) (n : ℕ) → HeldRow le row n → n ≤ length row
  held_in row n h = (of_held row n h).fit

-- ---- a row that is all blank
pub blank_row : (row row' : List Entry) → row' ≡ replicate (length row) blank → ClearedRow row row'
blank_row row row' e = record {
  distances = ap (map (λ x. x.distance)) e ∙ map_replicate (λ x. x.distance) (length row) blank ∙ ap (λ (n : ℕ). replicate n 0) (sym (length-map row (λ x. x.distance)));
  cells = ap (map (λ x. x.cell)) e ∙ map_replicate (λ x. x.cell) (length row) blank ∙ ap (λ (n : ℕ). replicate n 0) (sym (length-map row (λ x. x.cell)));
  triangles = ap (map (λ x. x.triangle)) e ∙ map_replicate (λ x. x.triangle) (length row) blank ∙ ap (λ (n : ℕ). replicate n 0) (sym (length-map row (λ x. x.triangle)));
}
