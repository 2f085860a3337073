-- Every cell is one number of one line along each axis, and every entry is that of one cell and one axis. So an entry is found by
-- its axis, its line and its number on the line, and only so. Once over the three axes. Assumes nothing.
use Rattle.std.specs.Prelude.{if◌then◌else◌}
use Prim.Native.Nat.{ℕ, zero, suc, ◌+◌, ◌*◌, ◌/◌, ◌%◌, ◌<◌}
use native.Mathlib.Nat.{mod-lt}
use native.Mathlib.Omega.{arith}
use mathlib.Core.Path.{◌≡◌, refl}
use lib.Dec.{eqb, lit<}
use Rattle.point.specs.declared.Axis.{Axis}
use Rattle.point.specs.declared.Axis.TheVariants.{X, Y, Z}
use Rattle.grid.specs.declared.Grid.{Grid}
use Rattle.grid.specs.declared.Cell.{Cell}
use Rattle.grid.specs.Axes.{count_on, cell_on, cell_numbered, next, cell_from}
use Rattle.grid.specs.Index.{Inside, index_of, cell_at, total, stride_on}
use Rattle.grid.proofs.Laws.{index_below, index_of_cell, index_injective, index_along, cell_within}
use Rattle.run.specs.Signs.{axis_at}
use Rattle.run_cross_lines.specs.Lines.{u_of, v_of, axis_number, entry_of}

-- ---- a cell and its line

-- a cell is the one with its number on its line
pub on_its_line : (axis : Axis) (c : Cell) → cell_from axis (cell_on axis c) (u_of axis c) (v_of axis c) ≡ c
on_its_line X c = refl
on_its_line Y c = refl
on_its_line Z c = refl

pub line_number : (axis : Axis) (n u v : ℕ) → cell_on axis (cell_from axis n u v) ≡ n
line_number X n u v = refl
line_number Y n u v = refl
line_number Z n u v = refl

pub line_u : (axis : Axis) (n u v : ℕ) → u_of axis (cell_from axis n u v) ≡ u
line_u X n u v = refl
line_u Y n u v = refl
line_u Z n u v = refl

pub line_v : (axis : Axis) (n u v : ℕ) → v_of axis (cell_from axis n u v) ≡ v
line_v X n u v = refl
line_v Y n u v = refl
line_v Z n u v = refl

-- the numbers below the counts make a cell of the grid, and a cell of the grid has such
pub inside_line : (g : Grid) (axis : Axis) (n u v : ℕ) → n < count_on axis g → u < count_on (next axis) g → v < count_on (next (next axis)) g
    → Inside g (cell_from axis n u v)
inside_line g X n u v hn hu hv = record { x_below = hn; y_below = hu; z_below = hv }
inside_line g Y n u v hn hu hv = record { x_below = hv; y_below = hn; z_below = hu }
inside_line g Z n u v hn hu hv = record { x_below = hu; y_below = hv; z_below = hn }

-- ---- a cell and its entries

pub place_below : (a : Axis) → axis_number a < 3
place_below X = lit< tt
place_below Y = lit< tt
place_below Z = lit< tt

pub same_place : (a b : Axis) → axis_number a ≡ axis_number b → a ≡ b
same_place X X e = refl
same_place X Y e = absurd (omega arith)
same_place X Z e = absurd (omega arith)
same_place Y X e = absurd (omega arith)
same_place Y Y e = refl
same_place Y Z e = absurd (omega arith)
same_place Z X e = absurd (omega arith)
same_place Z Y e = absurd (omega arith)
same_place Z Z e = refl

pub entry_below : (g : Grid) (a : Axis) (c : Cell) → Inside g c → entry_of g a c < 3 * total g
unfolding entry_of
entry_below g a c w = omega (arith, index_below w, place_below a)

-- two entries that are the same are of one axis and one cell
pub one_axis : (g : Grid) (a b : Axis) (c d : Cell) → entry_of g a c ≡ entry_of g b d → a ≡ b
unfolding entry_of
one_axis g a b c d e = same_place a b (omega (arith, place_below a, place_below b))

pub one_cell : (g : Grid) (a b : Axis) (c d : Cell) → Inside g c → Inside g d → entry_of g a c ≡ entry_of g b d → c ≡ d
unfolding entry_of
one_cell g a b c d v w e = index_injective v w (omega (arith, place_below a, place_below b))

-- along a line the entries lie a step apart
index_on_line : (g : Grid) (axis : Axis) (n u v : ℕ) → index_of g (cell_from axis n u v) ≡ index_of g (cell_from axis 0 u v) + n * stride_on g axis
index_on_line g X n u v = index_along X (count_on Y g) (count_on Z g) n (cell_numbered 0 u v)
index_on_line g Y n u v = index_along Y (count_on Y g) (count_on Z g) n (cell_numbered v 0 u)
index_on_line g Z n u v = index_along Z (count_on Y g) (count_on Z g) n (cell_numbered u v 0)

pub entry_along : (g : Grid) (axis : Axis) (first j u v : ℕ)
    → entry_of g axis (cell_from axis (first + j) u v) ≡ entry_of g axis (cell_from axis first u v) + j * (3 * stride_on g axis)
unfolding entry_of
entry_along g axis first j u v = omega (arith, index_on_line g axis (first + j) u v, index_on_line g axis first u v)

-- ---- the entry of a number

axis_place : (i : ℕ) → axis_number (axis_at i) ≡ i % 3
axis_place i = go (i % 3) (mod-lt i (lit< tt))
  where
    go : (r : ℕ) → r < 3 → axis_number (if eqb r 0 then X else (if eqb r 1 then Y else Z)) ≡ r
    go zero h = refl
    go (suc zero) h = refl
    go (suc (suc zero)) h = refl
    go (suc (suc (suc r))) h = absurd (omega arith)

pub inside_at_lem : (g : Grid) (i : ℕ) → i < 3 * total g → Inside g (cell_at g (i / 3))
inside_at_lem g i h = cell_within (omega arith)

pub entry_at : (g : Grid) (i : ℕ) → entry_of g (axis_at i) (cell_at g (i / 3)) ≡ i
unfolding entry_of
entry_at g i = omega (arith, axis_place i, index_of_cell (count_on Y g) (count_on Z g) (i / 3))
