-- "Asked by itself, a grid question answers 1 for a grid out of bounds and 4 for a cell or index outside the counts." (document 01,
-- "Reply numbers"). Definitions only.
use Rattle.std.specs.Prelude.{Bool, List, [], ◌∷◌, ℕ, if◌then◌else◌}
use Rattle.refusals.specs.Numbers.{Reply, refused, given}
use Rattle.grid.specs.declared.Grid.{Grid}
use Rattle.grid.specs.declared.Cell.{Cell}
use Rattle.grid.specs.Index.{is_cell, is_index}
use Rattle.grid.specs.Bounds.{in_bounds}

-- "Checked in this order; the first that applies is given": the tests that must pass, each with its number, read from the top
abbrev pub unless : {A : Type 0} → List (ℕ × Bool) → A → Reply A
unless [] v = given v
unless ((n, passed) ∷ tests) v = if passed then unless tests v else refused n

abbrev pub of_grid : {A : Type 0} → Grid → A → Reply A
of_grid g v = unless ((1, in_bounds g) ∷ []) v

abbrev pub of_cell : {A : Type 0} → Grid → Cell → A → Reply A
of_cell g c v = unless ((1, in_bounds g) ∷ (4, is_cell g c) ∷ []) v

abbrev pub of_index : {A : Type 0} → Grid → ℕ → A → Reply A
of_index g i v = unless ((1, in_bounds g) ∷ (4, is_index g i) ∷ []) v

-- "answers 1 if a count or what it makes is out of bounds": the counts are a part of what it makes
abbrev pub made : Grid → Reply Grid
made g = of_grid g g
