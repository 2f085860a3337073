-- Each neighbour on the grid is reached by one of the 27 steps: on each axis two numbers that differ by at most one are one shift
-- apart. Assumes nothing.
use Prim.Native.Nat.{ℕ, ◌+◌, ◌≤◌, ◌<◌}
use native.Mathlib.Decide.{dec_lt}
use native.Mathlib.Omega.{arith}
use mathlib.Core.Path.{◌≡◌, refl}
use mathlib.Core.Bool.{true}
use borrow.Author.Tests.{lt-ltb}
use Rattle.point.specs.declared.Axis.TheVariants.{X, Y, Z}
use Rattle.grid.specs.declared.Grid.{Grid}
use Rattle.grid.specs.declared.Cell.{Cell}
use Rattle.grid.specs.Axes.{count_on}
use Rattle.grid.specs.Index.{index_of, cell_at, Inside}
use Rattle.grid.proofs.Laws.{cell_of_index}
use Rattle.run.specs.Run.{at}
use Rattle.run.specs.Steps.{Shift, back, stay, ahead, step_at, shifted, stays_on, step_from, around_cell}
use Rattle.run.proofs.Steps.{Found, in_table}
use Rattle.demand_3.specs.Offered.{Near}

-- ---- on one axis

-- i and the shift that leads from it to k
pub record Shifts (count i k : ℕ) : Type 0 where
  pub shift : Shift
  pub leads : shifted shift i ≡ k
  pub on_grid : stays_on count shift i ≡ true

shift_to : (count i k : ℕ) → k < count → k ≤ i + 1 → i ≤ k + 1 → Shifts count i k
shift_to count i k l a b = go (dec_lt k i) (dec_lt i k)
  where
    go : Dec (k < i) → Dec (i < k) → Shifts count i k
    go (yes p) q = record { shift = back; leads = omega arith; on_grid = lt-ltb 0 i (omega arith) }
    go (no p) (yes q) = record { shift = ahead; leads = omega arith; on_grid = lt-ltb (i + 1) count (omega arith) }
    go (no p) (no q) = record { shift = stay; leads = omega arith; on_grid = refl }

-- ---- on the grid

module _ (g : Grid) where
  -- a neighbour is reached by a step
  pub record Reached (c d : Cell) : Type 0 where
    pub number : ℕ
    pub small : number < 27
    pub leads : around_cell g (index_of g d) number ≡ at (index_of g c)

  pub near_reached : (c d : Cell) → Inside g c → Inside g d → Near c d → Reached c d
  unfolding around_cell step_from
  near_reached c d v w n = record { number = t.number; small = t.small; leads = leads }
    where
      sx : Shifts (count_on X g) d.x c.x
      sx = shift_to (count_on X g) d.x c.x v.x_below (omega (arith, (n X).0)) (omega (arith, (n X).1))

      sy : Shifts (count_on Y g) d.y c.y
      sy = shift_to (count_on Y g) d.y c.y v.y_below (omega (arith, (n Y).0)) (omega (arith, (n Y).1))

      sz : Shifts (count_on Z g) d.z c.z
      sz = shift_to (count_on Z g) d.z c.z v.z_below (omega (arith, (n Z).0)) (omega (arith, (n Z).1))

      t : Found (record { x = sx.shift; y = sy.shift; z = sz.shift })
      t = in_table sx.shift sy.shift sz.shift

      leads : step_from g (cell_at g (index_of g d)) (step_at t.number) ≡ at (index_of g c)
      leads = rw (cell_of_index w, t.is, sx.on_grid, sy.on_grid, sz.on_grid, sx.leads, sy.leads, sz.leads)
