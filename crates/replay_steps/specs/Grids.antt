-- Steps 8 to 18, the grid's questions: when the answer that a case stores is that of the definitions which the asked function's own contract names. A
-- case has what goes in from word 1 on, and then what comes out. Definitions only.
use Rattle.std.specs.Prelude.{Bool, ◌&&◌, List, ℕ, ◌+◌}
use Rattle.grid.specs.declared.Grid.{Grid}
use Rattle.grid.specs.Axes.{counts_of}
use Rattle.grid.specs.Index as Index
use Rattle.grid.specs.Place as Place
use Rattle.grid.specs.Reply.{of_grid, of_cell, of_index, made}
use Rattle.c_records.specs.C as C
use Rattle.c_records.specs.C.{grid_in, cell_in, counts_in, point_in}
use Rattle.c_records.specs.declared.SdfGrid.{SdfGrid}
use Rattle.c_records.specs.declared.SdfNumberAnswer.{SdfNumberAnswer}
use Rattle.c_records.specs.declared.SdfCellAnswer.{SdfCellAnswer}
use Rattle.c_records.specs.declared.SdfSnapAnswer.{SdfSnapAnswer}
use Rattle.c_records.specs.declared.SdfGridAnswer.{SdfGridAnswer}
use Rattle.replay_steps.specs.Words.{sample_word, sample_point, sample_cell, sample_grid, is_sample_word, is_sample_point, is_sample_cell}
use Rattle.replay_steps.specs.Geometry.{is_point_answer, is_box_answer}

-- ---- an answer that is stored from word k on

abbrev pub is_number_answer : List ℕ → ℕ → ℕ → SdfNumberAnswer → Bool
is_number_answer text base k r = is_sample_word text base k r.number && is_sample_word text base (k + 1) r.value

abbrev pub is_cell_answer : List ℕ → ℕ → ℕ → SdfCellAnswer → Bool
is_cell_answer text base k r = is_sample_word text base k r.number && is_sample_cell text base (k + 1) r.cell

abbrev pub is_snap_answer : List ℕ → ℕ → ℕ → SdfSnapAnswer → Bool
is_snap_answer text base k r = is_sample_word text base k r.number && is_sample_word text base (k + 1) r.inside && is_sample_cell text base (k + 2) r.cell

abbrev pub is_grid_answer : List ℕ → ℕ → ℕ → SdfGridAnswer → Bool
is_grid_answer text base k r =
    is_sample_word text base k r.number
    && is_sample_point text base (k + 1) r.grid.first
    && is_sample_point text base (k + 4) r.grid.size
    && is_sample_cell text base (k + 7) r.grid.count
    && is_sample_word text base (k + 10) r.grid.upright

-- ---- the steps

-- the grid that a case asks about
abbrev pub sample_asked : List ℕ → ℕ → Grid
sample_asked text base = grid_in (sample_grid text base)

abbrev pub stored_first : List ℕ → ℕ → Bool
stored_first text base = let g = sample_asked text base in is_point_answer text base 11 (C.point_for_c (of_grid g g.first_cell))

abbrev pub stored_last : List ℕ → ℕ → Bool
stored_last text base = let g = sample_asked text base in is_point_answer text base 11 (C.point_for_c (of_grid g (Place.last_cell g)))

abbrev pub stored_size : List ℕ → ℕ → Bool
stored_size text base = let g = sample_asked text base in is_point_answer text base 11 (C.point_for_c (of_grid g g.cell_size))

abbrev pub stored_counts : List ℕ → ℕ → Bool
stored_counts text base = let g = sample_asked text base in is_cell_answer text base 11 (C.counts_for_c (of_grid g (counts_of g)))

abbrev pub stored_total : List ℕ → ℕ → Bool
stored_total text base = let g = sample_asked text base in is_number_answer text base 11 (C.number_for_c (of_grid g (Index.total g)))

abbrev pub stored_box : List ℕ → ℕ → Bool
stored_box text base = let g = sample_asked text base in is_box_answer text base 11 (C.box_for_c (of_grid g (Place.grid_box g)))

abbrev pub stored_index : List ℕ → ℕ → Bool
stored_index text base =
    let g = sample_asked text base in
    let c = cell_in (sample_cell text base 11) in
    is_number_answer text base 14 (C.number_for_c (of_cell g c (Index.index_of g c)))

abbrev pub stored_coordinates : List ℕ → ℕ → Bool
stored_coordinates text base =
    let g = sample_asked text base in
    let i = sample_word text base 11 in
    is_cell_answer text base 12 (C.cell_for_c (of_index g i (Index.cell_at g i)))

abbrev pub stored_centre : List ℕ → ℕ → Bool
stored_centre text base =
    let g = sample_asked text base in
    let c = cell_in (sample_cell text base 11) in
    is_point_answer text base 14 (C.point_for_c (of_cell g c (Place.centre_of g c)))

abbrev pub stored_snap : List ℕ → ℕ → Bool
stored_snap text base =
    let g = sample_asked text base in
    is_snap_answer text base 14 (C.snap_for_c (of_grid g (Place.snap g (point_in (sample_point text base 11)))))

abbrev pub stored_from_box : List ℕ → ℕ → Bool
stored_from_box text base =
    is_grid_answer text base 10
    (C.grid_for_c (made (Place.from_box (point_in (sample_point text base 1)) (point_in (sample_point text base 4)) (counts_in (sample_cell text base 7)))))
