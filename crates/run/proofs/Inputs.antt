-- What a run is told of a job's grid and mesh is fair: snapped boxes and steps stay on the grid, and distances are values of binary32. With
-- Raycast a distance that is no NaN has no sign bit, since it is the root of the dot of a vector with itself. Assumes nothing.
use Prim.Native.Nat.{ℕ, ◌+◌, ◌-◌, ◌≤◌, ◌<◌}
use native.Mathlib.Omega.{arith}
use mathlib.Core.Path.{◌≡◌, refl}
use mathlib.Core.Bool.{Bool, true, false, not, cond, ◌&&◌, true≢false}
use lib.Dec.{T, ltb}
use lib.ListN.{length}
use lib.Ieee.{Float, nan, inf, fin, is_nan}
use borrow.Author.Tests.{ltb-true}
use Rattle.float.specs.Distance.{Distance}
use Rattle.float.specs.RootOf.{root_of}
use Rattle.float_floor.proofs.Floors.{cell_lt}
use Rattle.float.proofs.Roots.{root_distance}
use Rattle.terms.specs.declared.SignMethod.{SignMethod}
use Rattle.terms.specs.declared.SignMethod.TheVariants.{Raycast}
use Rattle.point.specs.declared.Point.{Point}
use Rattle.point.specs.declared.Axis.{Axis}
use Rattle.point.specs.declared.Axis.TheVariants.{X, Y, Z}
use Rattle.point.proofs.Squares.{dot_self}
use Rattle.grid.specs.declared.Grid.{Grid}
use Rattle.grid.specs.declared.Cell.{Cell}
use Rattle.grid.specs.Axes.{count_on, cell_on, cell_numbered}
use Rattle.grid.specs.Index.{index_of, cell_at, total, Inside}
use Rattle.grid.specs.Place.{centre_of, snap_cell, floor_on}
use Rattle.grid.proofs.Laws.{index_below}
use Rattle.geo_closest.specs.Closest.{facet_of}
use Rattle.geo_distance.specs.Distance.{squared_on}
use Rattle.geo_measure.proofs.Laws.{measured_fits}
use Rattle.mesh.specs.declared.Corners.{Corners}
use Rattle.mesh.specs.Mesh.{Mesh, triangles_in, corners_at}
use Rattle.run.specs.Run.{none}
use Rattle.run.specs.Input.{raised, seed_last, snapped_box, distance_from, run_input}
use Rattle.run.proofs.Values.{Fair}
use Rattle.run.proofs.Steps.{around_on}

-- ---- a snapped box lies on the grid

-- a number that is raised only where the next is below n
raised_below : (b t : Bool) (i n : ℕ) → (b ≡ true → i + 1 < n) → i < n → cond (b && t) (i + 1) i < n
raised_below true true i n h l = h refl
raised_below true false i n h l = l
raised_below false t i n h l = l

module _ (g : Grid) (some : (a : Axis) → 0 < count_on a g) where
  raised_on : (a : Axis) (high : Point) (i : ℕ) → i < count_on a g → raised a g high i < count_on a g
  raised_on a high i l = raised_below (ltb i (count_on a g - 1)) _ i (count_on a g) (λ e. omega (arith, ltb-true)) l

  snap_on : (a : Axis) (p : Point) → cell_on a (snap_cell g p) < count_on a g
  unfolding snap_cell
  snap_on X p = cell_lt (count_on X g) (floor_on X g p) (some X)
  snap_on Y p = cell_lt (count_on Y g) (floor_on Y g p) (some Y)
  snap_on Z p = cell_lt (count_on Z g) (floor_on Z g p) (some Z)

  pub last_inside : (high : Point) → Inside g (seed_last g high)
  unfolding seed_last
  last_inside high =
      record {
        x_below = raised_on X high (cell_on X (snap_cell g high)) (snap_on X high);
        y_below = raised_on Y high (cell_on Y (snap_cell g high)) (snap_on Y high);
        z_below = raised_on Z high (cell_on Z (snap_cell g high)) (snap_on Z high);
      }

  pub box_inside : (t : Corners) → Inside g (snapped_box g t).high
  unfolding snapped_box
  box_inside t = last_inside _

-- ---- a distance has no sign bit

root_number : (x : Float) → is_nan (root_of x) ≡ false → T (not (is_nan x))
unfolding root_of is_nan
root_number nan h = absurd (true≢false h)
root_number (inf s) h = tt
root_number (fin s m e) h = tt

pub distance_unsigned : (g : Grid) (t : Corners) (c : Cell) → is_nan (distance_from Raycast g t c) ≡ false → Distance (distance_from Raycast g t c)
unfolding distance_from squared_on
distance_unsigned g t c h = root_distance _ (dot_self _ (root_number _ h))

-- ---- so a job's input is fair

pub fair_input : (g : Grid) (m : Mesh) (sign : SignMethod) (room limit : ℕ) → ((a : Axis) → 0 < count_on a g) → length (triangles_in m) ≤ none → Fair (run_input g m sign room limit)
unfolding run_input distance_from
fair_input g m sign room limit some few =
    record {
      few = few;
      distances = λ k c. measured_fits sign (let t = corners_at m k in facet_of t.a t.b t.c) (centre_of g (cell_at g c));
      steps_on = around_on g;
      boxes_on = boxes_on;
    }
  where
    boxes_on : (k x y z : ℕ) → k < length (triangles_in m) → x ≤ (snapped_box g (corners_at m k)).high.x → y ≤ (snapped_box g (corners_at m k)).high.y → z ≤ (snapped_box g (corners_at m k)).high.z
        → index_of g (cell_numbered x y z) < total g
    boxes_on k x y z l a b c =
        let w = box_inside g some (corners_at m k) in
        index_below (record { x_below = omega (arith, w.x_below); y_below = omega (arith, w.y_below); z_below = omega (arith, w.z_below) })
