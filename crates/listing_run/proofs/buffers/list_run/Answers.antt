-- `listing_run::buffers::list_run` meets its contract, whichever queue is asked for: only the lengths of the buffers count. Assumes nothing.
use Prim.Native.Nat.{ℕ}
use native.Mathlib.Omega.{arith}
use mathlib.Core.Path.{◌≡◌, sym}
use mathlib.Core.List.{List}
use lib.Ieee.{Float}
use lib.ListN.{length, replicate, length-replicate}
use Rattle.text.specs.Limits.{most_cells, most_entries, crossing_room}
use Rattle.listing_run.specs.Parts.{held_job}
use Rattle.listing_run.proofs.Same.{prefix, Whole, few_cut, cut_listed}
use Rattle.listing_run.proofs.buffers.list_run.Goals as goal

-- the buffers as the program makes them
whole : {field : List Float} {names crossings rows : List ℕ} → most_cells ≡ length field → most_cells ≡ length names → crossing_room ≡ length crossings
    → most_cells ≡ length rows → Whole field names crossings rows
whole f n k r = record { field_long = f; names_long = n; crossings_long = k; rows_long = r }

pub slice_bounds-field-end : goal.slice_bounds-field-end
slice_bounds-field-end c = sym (prefix _ _ most_cells c.cell_floats-field_room.ensures c.requires.cells_few)

pub slice_bounds-names-end : goal.slice_bounds-names-end
slice_bounds-names-end c = sym (prefix _ _ most_cells c.cell_words-names_room.ensures c.requires.cells_few)

pub slice_bounds-crossings-end : goal.slice_bounds-crossings-end
slice_bounds-crossings-end c = sym (prefix _ _ crossing_room c.crossing_words-crossings_room.ensures (omega (arith, c.requires.cells_few)))

pub slice_bounds-rows-end : goal.slice_bounds-rows-end
slice_bounds-rows-end c = sym (prefix _ _ most_cells c.cell_words-rows_room.ensures c.requires.layers_few)

-- ---- over a row of records

pub list_records-requires : goal.list_records-requires
list_records-requires c =
    let w = whole c.cell_floats-field_room.ensures c.cell_words-names_room.ensures c.crossing_words-crossings_room.ensures c.cell_words-rows_room.ensures in
    record { room_to_list = few_cut w c.requires; room_le_most_entries = c.requires.entries_few }

pub returns-then-records : goal.returns-then-records
returns-then-records c =
    let w = whole c.cell_floats-field_room.ensures c.cell_words-names_room.ensures c.crossing_words-crossings_room.ensures c.cell_words-rows_room.ensures in
    let a = c.args in
    let zeros : length {A = ℕ} (replicate a.room 0) ≡ a.room = length-replicate a.room 0 in
    cut_listed w c.requires (held_job a.asked a.vertices.now a.indices.now) _ _ _ zeros zeros zeros c.list_records.ensures

-- ---- over three buffers

pub slice_bounds-list_outcome-end : goal.slice_bounds-list_outcome-end
slice_bounds-list_outcome-end c = sym (prefix _ _ most_entries c.entry_words-distances.ensures c.requires.entries_few)

pub slice_bounds-list_outcome-end-2 : goal.slice_bounds-list_outcome-end-2
slice_bounds-list_outcome-end-2 c = sym (prefix _ _ most_entries c.entry_words-cells.ensures c.requires.entries_few)

pub slice_bounds-list_outcome-end-3 : goal.slice_bounds-list_outcome-end-3
slice_bounds-list_outcome-end-3 c = sym (prefix _ _ most_entries c.entry_words-triangles.ensures c.requires.entries_few)

pub list_outcome-requires : goal.list_outcome-requires
list_outcome-requires c =
    let w = whole c.cell_floats-field_room.ensures c.cell_words-names_room.ensures c.crossing_words-crossings_room.ensures c.cell_words-rows_room.ensures in
    record {
      room_to_list = few_cut w c.requires;
      distances_len_bound = omega (arith, prefix _ _ most_entries c.entry_words-distances.ensures c.requires.entries_few, c.requires.entries_few);
    }

pub returns : goal.returns
returns c =
    let w = whole c.cell_floats-field_room.ensures c.cell_words-names_room.ensures c.crossing_words-crossings_room.ensures c.cell_words-rows_room.ensures in
    let a = c.args in
    let few = c.requires.entries_few in
    cut_listed w c.requires (held_job a.asked a.vertices.now a.indices.now) _ _ _
    (prefix _ _ most_entries c.entry_words-distances.ensures few)
    (prefix _ _ most_entries c.entry_words-cells.ensures few)
    (prefix _ _ most_entries c.entry_words-triangles.ensures few)
    c.list_outcome.ensures
