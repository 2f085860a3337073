-- The cells by falling index, and their entries by falling number. Assumes nothing.
use Prim.Native.Nat.{ℕ, ◌+◌, ◌*◌, ◌≤◌}
use native.Mathlib.Nat.{add-mul}
use native.Mathlib.Omega.{arith}
use mathlib.Core.Path.{◌≡◌, ap}
use Rattle.point.specs.declared.Axis.TheVariants.{X, Y, Z}
use Rattle.grid.specs.declared.Grid.{Grid}
use Rattle.grid.specs.declared.Cell.{Cell}
use Rattle.grid.specs.Index.{index_of}
use Rattle.run_cross_lines.specs.Lines.{entry_of}

-- ---- how many cells lie before a row, and before a layer across x

-- before row y of z cells, one row less and its cells
pub row_less : (y k nz r : ℕ) → y ≡ k + 1 → y * nz + r ≡ nz + k * nz + r
row_less y k nz r e = rw e (omega (arith, add-mul k 1 nz))

-- before layer x, one layer less and its rows
pub layer_less : (x k ny nz : ℕ) → x ≡ k + 1 → x * ny * nz ≡ ny * nz + k * ny * nz
layer_less x k ny nz e = rw e (omega (arith, ap (λ n. n * nz) (add-mul k 1 ny), add-mul (k * ny) (1 * ny) nz))

-- none before the first
pub none : (n k : ℕ) → n ≤ 0 → n * k ≡ 0
none n k h = let e : n ≡ 0 = omega arith in rw e (omega arith)

-- ---- the three entries of the cell of index k
pub entry_x : (g : Grid) (c : Cell) (k : ℕ) → index_of g c ≡ k → 3 * k ≡ entry_of g X c
unfolding entry_of
entry_x g c k e = omega (arith, e)

pub entry_y : (g : Grid) (c : Cell) (k : ℕ) → index_of g c ≡ k → 3 * k + 1 ≡ entry_of g Y c
unfolding entry_of
entry_y g c k e = omega (arith, e)

pub entry_z : (g : Grid) (c : Cell) (k : ℕ) → index_of g c ≡ k → 3 * k + 2 ≡ entry_of g Z c
unfolding entry_of
entry_z g c k e = omega (arith, e)
