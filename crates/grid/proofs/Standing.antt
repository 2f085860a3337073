-- What of a grid does not depend on its upright axis: everything but its layers and its bounds. Each law is by computation, once over the axes, for
-- any number in the record; the run's are in crate `run` (proofs/Standing.antt). Assumes nothing.
use Prim.Native.Nat.{ℕ}
use mathlib.Core.Path.{◌≡◌, refl}
use Rattle.point.specs.declared.Point.{Point}
use Rattle.grid.specs.declared.Grid.{Grid}
use Rattle.grid.specs.declared.Cell.{Cell}
use Rattle.grid.specs.Layers.{stood}
use Rattle.grid.specs.Place.{centre_of, grid_box, box_min, box_max, snap, snap_cell, clamped, last_cell}

module _ (u : ℕ) (g : Grid) where
  -- snapping: the cell, and whether it is inside
  pub snap_stood : (p : Point) → snap (stood u g) p ≡ snap g p
  unfolding snap snap_cell clamped
  snap_stood p = refl

  pub snap_cell_stood : (p : Point) → snap_cell (stood u g) p ≡ snap_cell g p
  unfolding snap_cell
  snap_cell_stood p = refl

  -- centres and boxes
  pub centre_stood : (c : Cell) → centre_of (stood u g) c ≡ centre_of g c
  unfolding centre_of
  centre_stood c = refl

  pub box_stood : grid_box (stood u g) ≡ grid_box g
  unfolding box_min box_max
  box_stood = refl

  pub last_stood : last_cell (stood u g) ≡ last_cell g
  unfolding last_cell
  last_stood = refl
