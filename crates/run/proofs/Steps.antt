-- The table of 27 steps. A step from a cell leads to a cell on the grid, by at most one on each axis, and each step of −1, 0 and 1 on
-- the axes stands in the table. Assumes nothing.
use Prim.Native.Nat.{ℕ, ◌+◌, ◌≤◌, ◌<◌}
use native.Mathlib.Omega.{arith}
use mathlib.Core.Path.{◌≡◌, refl}
use mathlib.Core.Bool.{Bool, true, false, cond}
use lib.Dec.{lit<}
use borrow.Author.Tests.{ltb-true}
use Rattle.point.specs.declared.Axis.TheVariants.{X, Y, Z}
use Rattle.grid.specs.declared.Grid.{Grid}
use Rattle.grid.specs.declared.Cell.{Cell}
use Rattle.grid.specs.Axes.{count_on, cell_on, cell_by, on_every}
use Rattle.grid.specs.Index.{index_of, cell_at, total, Inside}
use Rattle.grid.proofs.Laws.{index_below, cell_within}
use Rattle.grid.proofs.Facts.{each}
use Rattle.run.specs.Run.{off, at}
use Rattle.run.specs.Steps.{Shift, back, stay, ahead, Step, shift_on, step_at, shifted, stays_on, step_from, around_cell}

-- ---- a step leads to a cell of the grid

-- a shift that stays on the grid leads to a number on it
shifted_on : (count : ℕ) (s : Shift) (i : ℕ) → i < count → stays_on count s i ≡ true → shifted s i < count
shifted_on count back i l h = omega arith
shifted_on count stay i l h = l
shifted_on count ahead i l h = omega (arith, ltb-true)

-- the cell that a step leads to
abbrev pub Moved : Cell → Step → Cell
Moved c s = cell_by (λ a. shifted (shift_on a s) (cell_on a c))

module _ (g : Grid) where
  -- whether a step stays on the grid
  abbrev Stays : Cell → Step → Bool
  Stays c s = on_every (λ a. stays_on (count_on a g) (shift_on a s) (cell_on a c))

  moved_inside : (c : Cell) (s : Step) → Inside g c → Stays c s ≡ true → Inside g (Moved c s)
  moved_inside c s w h =
      let on = each (λ a. stays_on (count_on a g) (shift_on a s) (cell_on a c)) h in
      record {
        x_below = shifted_on (count_on X g) s.x c.x w.x_below (on X);
        y_below = shifted_on (count_on Y g) s.y c.y w.y_below (on Y);
        z_below = shifted_on (count_on Z g) s.z c.z w.z_below (on Z);
      }

  -- a step that leads to the cell of index d
  pub record Lands (c : Cell) (s : Step) (d : ℕ) : Type 0 where
    pub inside : Inside g (Moved c s)
    pub is : d ≡ index_of g (Moved c s)

  step_lands : (c : Cell) (s : Step) (d : ℕ) → Inside g c → step_from g c s ≡ at d → Lands c s d
  unfolding step_from
  step_lands c s d w h = go (Stays c s) refl h
    where
      go : (b : Bool) → Stays c s ≡ b → cond b (at (index_of g (Moved c s))) off ≡ at d → Lands c s d
      go true e q = record { inside = moved_inside c s w e; is = cc }
      go false e q = absurd (let z : ◌≡◌ {A = ℕ} 0 1 = cc in omega arith)

  pub around_lands : (i j d : ℕ) → i < total g → around_cell g i j ≡ at d → Lands (cell_at g i) (step_at j) d
  unfolding around_cell
  around_lands i j d l h = step_lands (cell_at g i) (step_at j) d (cell_within l) h

  pub around_on : (i j d : ℕ) → i < total g → around_cell g i j ≡ at d → d < total g
  around_on i j d l h = let p = around_lands i j d l h in rw p.is (index_below p.inside)

-- ---- each step stands in the table

pub record Found (s : Step) : Type 0 where
  pub number : ℕ
  pub small : number < 27
  pub is : step_at number ≡ s

pub in_table : (x y z : Shift) → Found (record { x = x; y = y; z = z })
in_table back back back = record { number = 0; small = lit< tt; is = refl }
in_table back back stay = record { number = 1; small = lit< tt; is = refl }
in_table back back ahead = record { number = 2; small = lit< tt; is = refl }
in_table back stay back = record { number = 3; small = lit< tt; is = refl }
in_table back stay stay = record { number = 4; small = lit< tt; is = refl }
in_table back stay ahead = record { number = 5; small = lit< tt; is = refl }
in_table back ahead back = record { number = 6; small = lit< tt; is = refl }
in_table back ahead stay = record { number = 7; small = lit< tt; is = refl }
in_table back ahead ahead = record { number = 8; small = lit< tt; is = refl }
in_table stay back back = record { number = 9; small = lit< tt; is = refl }
in_table stay back stay = record { number = 10; small = lit< tt; is = refl }
in_table stay back ahead = record { number = 11; small = lit< tt; is = refl }
in_table stay stay back = record { number = 12; small = lit< tt; is = refl }
in_table stay stay stay = record { number = 13; small = lit< tt; is = refl }
in_table stay stay ahead = record { number = 14; small = lit< tt; is = refl }
in_table stay ahead back = record { number = 15; small = lit< tt; is = refl }
in_table stay ahead stay = record { number = 16; small = lit< tt; is = refl }
in_table stay ahead ahead = record { number = 17; small = lit< tt; is = refl }
in_table ahead back back = record { number = 18; small = lit< tt; is = refl }
in_table ahead back stay = record { number = 19; small = lit< tt; is = refl }
in_table ahead back ahead = record { number = 20; small = lit< tt; is = refl }
in_table ahead stay back = record { number = 21; small = lit< tt; is = refl }
in_table ahead stay stay = record { number = 22; small = lit< tt; is = refl }
in_table ahead stay ahead = record { number = 23; small = lit< tt; is = refl }
in_table ahead ahead back = record { number = 24; small = lit< tt; is = refl }
in_table ahead ahead stay = record { number = 25; small = lit< tt; is = refl }
in_table ahead ahead ahead = record { number = 26; small = lit< tt; is = refl }

-- ---- a step changes each number by at most one

pub record Close (i k : ℕ) : Type 0 where
  pub above : k ≤ i + 1
  pub below : i ≤ k + 1

pub shifted_close : (s : Shift) (i : ℕ) → Close i (shifted s i)
shifted_close back i = record { above = omega arith; below = omega arith }
shifted_close stay i = record { above = omega arith; below = omega arith }
shifted_close ahead i = record { above = omega arith; below = omega arith }
