-- "offered to the cells around, itself included, by a fixed table of 27 steps" (document 01, "The run", 3): the table in numbers, where
-- its steps lead, and the signed squares there. Definitions only.
use Rattle.std.specs.Prelude.{ℕ, zero, suc, ◌+◌, ◌*◌, ◌/◌, ◌%◌, ◌<◌, ◌≡◌, List, map, eqb, length, get_or, Float, if◌then◌else◌}
use Rattle.std.specs.Float.{nan}
use Rattle.float_shortcut.specs.Shown.{signed_root}
use Rattle.lists.specs.Table.{table}
use Rattle.lists.specs.Turns.{Turn, goes, turns}
use Rattle.terms.specs.declared.SignMethod.{SignMethod}
use Rattle.grid.specs.declared.Grid.{Grid}
use Rattle.grid.specs.declared.Cell.{Cell}
use Rattle.grid.specs.Axes.{count_on, cell_on, cell_by, on_every}
use Rattle.grid.specs.Index.{index_of, cell_at, total}
use Rattle.grid.specs.Place.{centre_of}
use Rattle.mesh.specs.Mesh.{Mesh, corners_at}
use Rattle.queue.specs.declared.Entry.{Entry}
use Rattle.run.specs.Run.{State, Place, off, at, none, offer_at}
use Rattle.run.specs.Input.{distance_from}
use Rattle.run.specs.Steps.{Shift, back, stay, ahead, Step, shift_on, step_at, shifted, stays_on, around_cell}
use Rattle.run_around.specs.declared.Spot.{Spot}

-- ---- the table in numbers: a hexadecimal digit for each of x, y and z, with 0, 1 and 2 for −1, 0 and 1

abbrev pub shift_digit : Shift → ℕ
shift_digit back = 0
shift_digit stay = 1
shift_digit ahead = 2

abbrev pub code_of : Step → ℕ
code_of s = shift_digit s.x * 256 + shift_digit s.y * 16 + shift_digit s.z

-- the steps in numbers
abbrev pub codes : List Step → List ℕ
codes l = map code_of l

-- and back
abbrev pub shift_of : ℕ → Shift
shift_of zero = back
shift_of (suc zero) = stay
shift_of (suc (suc n)) = ahead

abbrev pub step_of : ℕ → Step
step_of n = record { x = shift_of (n / 256); y = shift_of (n / 16 % 16); z = shift_of (n % 16) }

-- ---- where the steps lead

-- an index, or `none` for a place off the grid
abbrev pub place_of : ℕ → Place
place_of n = if eqb n none then off else at n

-- the cell that a step leads to, and its index; off the grid the cell itself, and `none`
unfoldable pub spot_of : Grid → Cell → Step → Spot
spot_of g c s =
    if on_every (λ a. stays_on (count_on a g) (shift_on a s) (cell_on a c))
    then record { index = index_of g (cell_by (λ a. shifted (shift_on a s) (cell_on a c))); cell = cell_by (λ a. shifted (shift_on a s) (cell_on a c)) }
    else record { index = none; cell = c }

-- for each step of the table the index, and the centre of the cell
pub record Gathered (g : Grid) (c : Cell) (to : List ℕ) (xs ys zs : List Float) : Type 0 where
  pub leads : to ≡ table (λ j. (spot_of g c (step_at j)).index) 27
  pub on_x : xs ≡ table (λ j. (centre_of g (spot_of g c (step_at j)).cell).x) 27
  pub on_y : ys ≡ table (λ j. (centre_of g (spot_of g c (step_at j)).cell).y) 27
  pub on_z : zs ≡ table (λ j. (centre_of g (spot_of g c (step_at j)).cell).z) 27

-- ---- the signed squares there

-- a step leads nowhere, or to a cell from which triangle k is as far as the signed root of q
pub record StepNear (g : Grid) (m : Mesh) (sign : SignMethod) (k to : ℕ) (q : Float) : Type 0 where
  pub below : (c : ℕ) → place_of to ≡ at c → c < total g
  pub root : (c : ℕ) → place_of to ≡ at c → signed_root q ≡ distance_from sign g (corners_at m k) (cell_at g c)

-- the same of all steps from the cell of an entry, for its triangle
pub record Around (g : Grid) (m : Mesh) (sign : SignMethod) (e : Entry) (to : List ℕ) (squares : List Float) : Type 0 where
  pub to_long : length to ≡ 27
  pub squares_long : length squares ≡ 27
  pub leads : (j : ℕ) → j < 27 → place_of (get_or to j 0) ≡ around_cell g e.cell j
  pub near : (j : ℕ) → j < 27 → StepNear g m sign e.triangle (get_or to j 0) (get_or squares j nan)

-- ---- the offers there

-- triangle k, d away, is offered to a place
unfoldable pub offer_place : (Entry → State → Turn State) → ℕ → Place → Float → State → Turn State
offer_place also k off d s = goes s
offer_place also k (at c) d s = offer_at also k c d s

-- triangle k is offered to where each step leads, one after another
abbrev pub offer_all : (Entry → State → Turn State) → ℕ → List ℕ → List Float → State → Turn State
offer_all also k to squares s = turns (λ j. offer_place also k (place_of (get_or to j 0)) (signed_root (get_or squares j nan))) 27 s

-- where the index is one of a cell, it is below the lengths
pub record Passable (to : ℕ) (field : List Float) (names : List ℕ) : Type 0 where
  pub below : (to ≡ none → ⊥) → to < length field
  pub even : length names ≡ length field

-- so it is of each of the 27 places
pub record PlacesFit (to : List ℕ) (squares : List Float) (field : List Float) (names : List ℕ) : Type 0 where
  pub to_long : length to ≡ 27
  pub squares_long : length squares ≡ 27
  pub each : (j : ℕ) → j < 27 → Passable (get_or to j 0) field names
