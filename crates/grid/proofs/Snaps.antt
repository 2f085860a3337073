-- A snapped cell is within the counts, and a snap is Inside exactly when no axis was clamped: when on each axis the cell is the
-- floor itself. Assumes nothing.
use mathlib.Core.Path.{◌≡◌, refl, ap}
use mathlib.Core.Bool.{Bool, true, false, cond, ◌||◌, true≢false}
use Prim.Native.Nat.{ℕ, ◌-◌, ◌<◌, min}
use native.Mathlib.Omega.{arith}
use lib.IntN.{ℤ, pos, negsuc}
use borrow.Author.Tests.{leb-false, lt-leb}
use Rattle.float_floor.specs.Cell.{cell_of, outside}
use Rattle.float_floor.proofs.Floors.{cell_lt}
use Rattle.point.specs.declared.Point.{Point}
use Rattle.point.specs.declared.Axis.{Axis}
use Rattle.point.specs.declared.Axis.TheVariants.{X, Y, Z}
use Rattle.grid.specs.declared.Grid.{Grid}
use Rattle.grid.specs.declared.SnapResult.TheVariants.{Inside as In, Outside as Out}
use Rattle.grid.specs.Axes.{count_on, cell_on, on_some}
use Rattle.grid.specs.Index.{Inside}
use Rattle.grid.specs.Place.{floor_on, snap_cell, clamped, snap}
use Rattle.grid.specs.Bounds.{in_bounds}
use Rattle.grid.proofs.Facts.{bounds_of, on_axis}

-- ---- the cell
pub snap_within : (g : Grid) (p : Point) → in_bounds g ≡ true → Inside g (snap_cell g p)
unfolding snap_cell
snap_within g p h = record { x_below = below X; y_below = below Y; z_below = below Z }
  where
    below : (a : Axis) → cell_of (count_on a g) (floor_on a g p) < count_on a g
    below a = cell_lt (count_on a g) (floor_on a g p) (on_axis (bounds_of g h) a).some

pub snap_cell_lem : (g : Grid) (p : Point) → (snap g p).cell ≡ snap_cell g p
unfolding snap
snap_cell_lem g p = refl

-- ---- clamped or not
neither : (a b : Bool) → (a || b) ≡ false → (a ≡ false) × (b ≡ false)
neither true b h = absurd (true≢false h)
neither false b h = (refl, h)

-- on an axis: not clamped is to be the floor itself
pub kept : (count : ℕ) (z : ℤ) → outside count z ≡ false → pos (cell_of count z) ≡ z
unfolding outside cell_of
kept count (pos k) h = ap pos (omega (arith, leb-false count k h))
kept count (negsuc k) h = absurd (true≢false h)

pub kept_back : (count : ℕ) (z : ℤ) → 0 < count → pos (cell_of count z) ≡ z → outside count z ≡ false
unfolding outside cell_of
kept_back count (pos k) n e = let m : min k (count - 1) ≡ k = cc in lt-leb count k (omega arith)
kept_back count (negsuc k) n e = let z : ◌≡◌ {A = ℕ} 0 1 = cc in absurd (omega arith)

none : (t : Axis → Bool) → on_some t ≡ false → (a : Axis) → t a ≡ false
none t h X = (neither (t X) (t Y) (neither (t X || t Y) (t Z) h).0).0
none t h Y = (neither (t X) (t Y) (neither (t X || t Y) (t Z) h).0).1
none t h Z = (neither (t X || t Y) (t Z) h).1

-- Inside, then on each axis the cell is the floor itself
pub inside_kept : (g : Grid) (p : Point) → (snap g p).result ≡ In → (a : Axis) → pos (cell_on a (snap_cell g p)) ≡ floor_on a g p
unfolding snap clamped snap_cell
inside_kept g p h a = on a (kept (count_on a g) (floor_on a g p) (none (λ a. outside (count_on a g) (floor_on a g p)) (unclamped (clamped g p) h) a))
  where
    unclamped : (b : Bool) → cond b Out In ≡ In → b ≡ false
    unclamped true h = let z : ◌≡◌ {A = ℕ} 0 1 = cc in absurd (omega arith)
    unclamped false h = refl

    on : (a : Axis) → pos (cell_of (count_on a g) (floor_on a g p)) ≡ floor_on a g p → pos (cell_on a (snap_cell g p)) ≡ floor_on a g p
    on X e = e
    on Y e = e
    on Z e = e

-- and the other way
pub kept_inside : (g : Grid) (p : Point) → in_bounds g ≡ true → ((a : Axis) → pos (cell_on a (snap_cell g p)) ≡ floor_on a g p) → (snap g p).result ≡ In
unfolding snap clamped snap_cell
kept_inside g p h k = rw (out X (k X), out Y (k Y), out Z (k Z))
  where
    out : (a : Axis) → pos (cell_of (count_on a g) (floor_on a g p)) ≡ floor_on a g p → outside (count_on a g) (floor_on a g p) ≡ false
    out a e = kept_back (count_on a g) (floor_on a g p) (on_axis (bounds_of g h) a).some e
