-- A snapped cell is on the grid, so its numbers are small; and the last cell of a box is on the grid too. Assumes nothing.
use Rattle.std.specs.Prelude.{if◌then◌else◌}
use mathlib.Core.Path.{◌≡◌}
use mathlib.Core.Bool.{true, ◌&&◌}
use Prim.Native.Nat.{ℕ, ◌+◌, ◌-◌, ◌^◌, ◌≤◌, ◌<◌}
use lib.Dec.{ltb}
use native.Mathlib.Omega.{arith}
use Rattle.float.specs.Arith.{◌≺◌}
use Rattle.point.specs.declared.Point.{Point}
use Rattle.point.specs.declared.Axis.TheVariants.{X, Y, Z}
use Rattle.grid.specs.declared.Grid.{Grid}
use Rattle.grid.specs.declared.Cell.{Cell}
use Rattle.grid.specs.Index.{Inside}
use Rattle.grid.specs.Bounds.{in_bounds}
use Rattle.grid.specs.Axes.{count_on, cell_numbered}
use Rattle.grid.specs.Place.{centre_of, snap_cell}
use Rattle.grid.proofs.Facts.{bounds_of}
use Rattle.grid.proofs.Snaps.{snap_within}
use Rattle.run.specs.Input.{seed_first, seed_last}

abbrev pub Small : Cell → Type 0
Small c = (c.x < 2 ^ 16) × (c.y < 2 ^ 16) × (c.z < 2 ^ 16)

pub small : (g : Grid) (c : Cell) → in_bounds g ≡ true → Inside g c → Small c
small g c h w =
    let b = bounds_of g h in
    (omega (arith, b.on_x.few, w.x_below), omega (arith, b.on_y.few, w.y_below), omega (arith, b.on_z.few, w.z_below))

pub snap_small : (g : Grid) (p : Point) → in_bounds g ≡ true → Small (snap_cell g p)
snap_small g p h = small g (snap_cell g p) h (snap_within g p h)

-- ---- the first and the last cell, from the snapped cell c and its centre m, axis by axis

pub first_is : (g : Grid) (low : Point) (c : Cell) (m : Point) (x y z : ℕ) → c ≡ snap_cell g low → m ≡ centre_of g c
    → x ≡ (if ltb 0 c.x && (low.x ≺ m.x) then c.x - 1 else c.x)
    → y ≡ (if ltb 0 c.y && (low.y ≺ m.y) then c.y - 1 else c.y)
    → z ≡ (if ltb 0 c.z && (low.z ≺ m.z) then c.z - 1 else c.z)
    → cell_numbered x y z ≡ seed_first g low
unfolding seed_first centre_of
first_is g low c m x y z hc hm hx hy hz = rw (hx, hy, hz, hm, hc)

pub last_is : (g : Grid) (high : Point) (c : Cell) (m : Point) (x y z : ℕ) → c ≡ snap_cell g high → m ≡ centre_of g c
    → x ≡ (if ltb c.x (count_on X g - 1) && (m.x ≺ high.x) then c.x + 1 else c.x)
    → y ≡ (if ltb c.y (count_on Y g - 1) && (m.y ≺ high.y) then c.y + 1 else c.y)
    → z ≡ (if ltb c.z (count_on Z g - 1) && (m.z ≺ high.z) then c.z + 1 else c.z)
    → cell_numbered x y z ≡ seed_last g high
unfolding seed_last centre_of
last_is g high c m x y z hc hm hx hy hz = rw (hx, hy, hz, hm, hc)
