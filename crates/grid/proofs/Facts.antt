-- What the tests of a grid and of a cell say of their numbers. Assumes nothing.
use mathlib.Core.Path.{◌≡◌, refl, sym, ap}
use mathlib.Core.Bool.{Bool, true, false, ◌&&◌, true≢false}
use Prim.Native.Nat.{ℕ, ◌*◌, ◌/◌, ◌%◌, ◌^◌, ◌≤◌, ◌<◌}
use native.Mathlib.Nat.{div-one, mod-eq_of_lt, mul-pos, le_trans, lt_of_lt_of_le}
use lib.Dec.{leb, ltb, lit≤, lit<}
use lib.Ieee.{Float}
use borrow.Author.Tests.{leb-true, ltb-true, lt-ltb}
use Rattle.point.specs.declared.Axis.{Axis}
use Rattle.point.specs.declared.Axis.TheVariants.{X, Y, Z}
use Rattle.grid.specs.declared.Grid.{Grid}
use Rattle.grid.specs.declared.Cell.{Cell}
use Rattle.grid.specs.Axes.{count_on, first_on, size_on, cell_on, put, on_every}
use Rattle.grid.specs.Index.{Inside, index, coordinates, cell_at, stride_on, total, is_cell}
use Rattle.grid_axis.specs.AxisBounds.{is_count, is_coordinate, is_size, axis_in_bounds}
use Rattle.grid_index.specs.ByCounts.{is_total}
use Rattle.grid_index.proofs.Fits.{counts_fit}
use Rattle.grid.specs.Bounds.{is_axis, is_upright, in_bounds}
use Rattle.grid.proofs.Laws.{index_below, cell_within, put_within}

pub both : (a b : Bool) → (a && b) ≡ true → (a ≡ true) × (b ≡ true)
both true b h = (refl, h)
both false b h = absurd (true≢false (sym h))

-- a test that holds on every axis holds on each
pub each : (t : Axis → Bool) → on_every t ≡ true → (a : Axis) → t a ≡ true
each t h X = (both (t X) (t Y) (both (t X && t Y) (t Z) h).0).0
each t h Y = (both (t X) (t Y) (both (t X && t Y) (t Z) h).0).1
each t h Z = (both (t X && t Y) (t Z) h).1

-- ---- a grid within the bounds
pub record Axis-bounds (count : ℕ) (first size : Float) : Type 0 where
  pub some : 1 ≤ count
  pub few : count ≤ 1024
  pub near : is_coordinate first ≡ true
  pub sized : is_size size ≡ true

pub axis_bounds : (count : ℕ) (first size : Float) → axis_in_bounds count first size ≡ true → Axis-bounds count first size
axis_bounds count first size h =
    let cf-s = both (is_count count && is_coordinate first) (is_size size) h in
    let c-f = both (is_count count) (is_coordinate first) cf-s.0 in
    let n = both (leb 1 count) (leb count 1024) c-f.0 in
    record {
      some = leb-true 1 count n.0;
      few = leb-true count 1024 n.1;
      near = c-f.1;
      sized = cf-s.1;
    }

pub record Bounds (g : Grid) : Type 0 where
  pub on_x : Axis-bounds (count_on X g) (first_on X g) (size_on X g)
  pub on_y : Axis-bounds (count_on Y g) (first_on Y g) (size_on Y g)
  pub on_z : Axis-bounds (count_on Z g) (first_on Z g) (size_on Z g)
  pub stands : g.upright ≤ 2
  pub total_few : total g ≤ 1048576

pub on_axis : {g : Grid} → Bounds g → (a : Axis) → Axis-bounds (count_on a g) (first_on a g) (size_on a g)
on_axis b X = b.on_x
on_axis b Y = b.on_y
on_axis b Z = b.on_z

pub axes_of : (g : Grid) → on_every (is_axis g) ≡ true → (a : Axis) → Axis-bounds (count_on a g) (first_on a g) (size_on a g)
axes_of g h a = axis_bounds (count_on a g) (first_on a g) (size_on a g) (each (is_axis g) h a)

pub bounds_of : (g : Grid) → in_bounds g ≡ true → Bounds g
unfolding in_bounds
bounds_of g h =
    let tests = both (on_every (is_axis g)) (is_upright g.upright && (is_total (total g) && true)) h in
    let others = both (is_upright g.upright) (is_total (total g) && true) tests.1 in
    record {
      on_x = axes_of g tests.0 X;
      on_y = axes_of g tests.0 Y;
      on_z = axes_of g tests.0 Z;
      stands = leb-true g.upright 2 others.0;
      total_few = leb-true (total g) 1048576 (both (leb 1 (total g)) (leb (total g) 1048576) (both (is_total (total g)) true others.1).0).1;
    }

-- ---- a cell within the counts
pub inside_of : (g : Grid) (c : Cell) → is_cell g c ≡ true → Inside g c
inside_of g c h = record { x_below = below X; y_below = below Y; z_below = below Z }
  where
    below : (a : Axis) → cell_on a c < count_on a g
    below a = ltb-true (cell_on a c) (count_on a g) (each (λ a. ltb (cell_on a c) (count_on a g)) h a)

pub inside_test : (g : Grid) (c : Cell) → Inside g c → is_cell g c ≡ true
inside_test g c w = rw (lt-ltb c.x (count_on X g) w.x_below, lt-ltb c.y (count_on Y g) w.y_below, lt-ltb c.z (count_on Z g) w.z_below)

pub inside_on : (g : Grid) {c : Cell} → Inside g c → (a : Axis) → cell_on a c < count_on a g
inside_on g w X = w.x_below
inside_on g w Y = w.y_below
inside_on g w Z = w.z_below

pub inside_put : (g : Grid) (a : Axis) {k : ℕ} {c : Cell} → Inside g c → k < count_on a g → Inside g (put a k c)
inside_put g X w h = put_within X w h
inside_put g Y w h = put_within Y w h
inside_put g Z w h = put_within Z w h

-- ---- the number of a cell along an axis, off its index
pub number_on : (g : Grid) (a : Axis) {i : ℕ} → i < total g → cell_on a (cell_at g i) ≡ i / stride_on g a % count_on a g
unfolding coordinates
number_on g X h = sym (mod-eq_of_lt (cell_within h).x_below)
number_on g Y h = refl
number_on g Z {i} h = ap (λ (n : ℕ). n % count_on Z g) (sym (div-one i))

pub stride_pos : (g : Grid) → in_bounds g ≡ true → (axis : Axis) → 0 < stride_on g axis
stride_pos g h X = let b = bounds_of g h in mul-pos b.on_y.some b.on_z.some
stride_pos g h Y = (bounds_of g h).on_z.some
stride_pos g h Z = lit< tt

-- ---- what `grid_index` asks for
-- the counts are few
pub counts_few : (g : Grid) → in_bounds g ≡ true → (count_on X g ≤ 1024) × (count_on Y g ≤ 1024) × (count_on Z g ≤ 1024)
counts_few g h = let b = bounds_of g h in (b.on_x.few, b.on_y.few, b.on_z.few)

-- the index fits, and there are cells along z
pub index_fits : (g : Grid) (c : Cell) → in_bounds g ≡ true → Inside g c → (index (count_on Y g) (count_on Z g) c < 2 ^ 32) × (0 < count_on Z g)
index_fits g c h w = let b = bounds_of g h in (lt_of_lt_of_le (index_below w) (le_trans b.total_few (lit≤ tt)), b.on_z.some)

-- the cells of a layer across x are counted below 2 ^ 32, and there are some
pub across_fits : (g : Grid) → in_bounds g ≡ true → (count_on Y g * count_on Z g < 2 ^ 32) × (0 < count_on Y g * count_on Z g)
across_fits g h =
    let b = bounds_of g h in
    ((counts_fit _ _ _ b.on_y.few b.on_z.few b.on_x.few).0, mul-pos b.on_y.some b.on_z.some)
