-- "offered to the cells around, itself included, by a fixed table of 27 steps from (−1,−1,−1) to (1,1,1), z fastest" (document 01,
-- "The run", 3). Definitions only.
use Rattle.std.specs.Prelude.{ℕ, ◌+◌, ◌-◌, Bool, true, ◌&&◌, List, [], ◌∷◌, ◌++◌, ltb, get_or, if◌then◌else◌}
use Rattle.point.specs.declared.Axis.{Axis}
use Rattle.point.specs.declared.Axis.TheVariants.{X, Y, Z}
use Rattle.grid.specs.declared.Grid.{Grid}
use Rattle.grid.specs.declared.Cell.{Cell}
use Rattle.grid.specs.Axes.{count_on, cell_on, cell_by, on_every}
use Rattle.grid.specs.Index.{index_of, cell_at}
use Rattle.run.specs.Run.{Place, off, at}

-- −1, 0 or 1 on an axis
pub data Shift : Type 0 where
  back : Shift
  stay : Shift
  ahead : Shift

pub record Step : Type 0 where
  pub x : Shift
  pub y : Shift
  pub z : Shift

abbrev pub shift_on : Axis → Step → Shift
shift_on X s = s.x
shift_on Y s = s.y
shift_on Z s = s.z

-- the table: x slowest, z fastest, each from −1 to 1
abbrev pub along_z : Shift → Shift → List Step
along_z x y = record { x = x; y = y; z = back } ∷ record { x = x; y = y; z = stay } ∷ record { x = x; y = y; z = ahead } ∷ []

abbrev pub along_yz : Shift → List Step
along_yz x = along_z x back ++ along_z x stay ++ along_z x ahead

abbrev pub steps : List Step
steps = along_yz back ++ along_yz stay ++ along_yz ahead

abbrev pub step_at : ℕ → Step
step_at j = get_or steps j (record { x = stay; y = stay; z = stay })

-- the number that a shift leads to on an axis, and whether that is on the grid, of `count` cells there
abbrev pub shifted : Shift → ℕ → ℕ
shifted back i = i - 1
shifted stay i = i
shifted ahead i = i + 1

abbrev pub stays_on : ℕ → Shift → ℕ → Bool
stays_on count back i = ltb 0 i
stays_on count stay i = true
stays_on count ahead i = ltb (i + 1) count

-- where step s leads from cell c
unfoldable pub step_from : Grid → Cell → Step → Place
step_from g c s =
    if on_every (λ a. stays_on (count_on a g) (shift_on a s) (cell_on a c)) then at (index_of g (cell_by (λ a. shifted (shift_on a s) (cell_on a c)))) else off

unfoldable pub around_cell : Grid → ℕ → ℕ → Place
around_cell g c j = step_from g (cell_at g c) (step_at j)
