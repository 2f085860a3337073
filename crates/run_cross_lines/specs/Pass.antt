-- What the parts of the crossing pass, plain or quick, leave behind: each entry as it was, or one more. Definitions only.
use Rattle.std.specs.Prelude.{ℕ, ◌+◌, ◌*◌, ◌<◌, ◌≡◌, Bool, true, false, cond, not, ◌&&◌, List, leb, eqb, length, get_or, Float}
use Rattle.std.specs.Float.{nan}
use Rattle.float.specs.Arith.{◌⊖◌, ◌≺◌, f0}
use Rattle.lists.specs.Range.{count_below}
use Rattle.point.specs.declared.Axis.{Axis}
use Rattle.point.specs.declared.Axis.TheVariants.{X, Y, Z}
use Rattle.grid.specs.declared.Grid.{Grid}
use Rattle.grid.specs.declared.Cell.{Cell}
use Rattle.grid.specs.Axes.{count_on, size_on, cell_on, next, cell_from}
use Rattle.grid.specs.Index.{Inside, total}
use Rattle.grid.specs.Place.{centre_of}
use Rattle.geo_ray.specs.declared.Three.{Three}
use Rattle.geo_ray.specs.declared.Cast.{Cast}
use Rattle.geo_ray.specs.declared.RayHit.{RayHit}
use Rattle.geo_ray.specs.declared.RayHit.TheVariants.{Miss, Grazed, Hit}
use Rattle.geo_ray.specs.Ray.{on_both_sides, across_z, across_y, along_x, ray_of, ray_aligned}
use Rattle.terms.specs.declared.Pass.{Pass}
use Rattle.terms.specs.declared.Pass.TheVariants.{Plain, Quick}
use Rattle.mesh.specs.declared.Corners.{Corners}
use Rattle.mesh.specs.Mesh.{Mesh}
use Rattle.run.specs.Signs.{reaches, ray_from}
use Rattle.run.specs.Ends.{ends_at}
use Rattle.run.specs.Grazed.{grazed_on}
use Rattle.run_cross_lines.specs.Lines.{u_of, v_of, centre_along, axis_number, entry_of}

-- ---- entries that grow by one

-- of every cell and axis: the entry is one more where the test holds, else as it was
pub record Grown (g : Grid) (test : Axis → Cell → Bool) (old new : List ℕ) : Type 0 where
  pub long : length new ≡ length old
  pub each : (a : Axis) (c : Cell) → Inside g c → get_or new (entry_of g a c) 0 ≡ get_or old (entry_of g a c) 0 + cond (test a c) 1 0

abbrev pub same : Axis → Axis → Bool
same a b = eqb (axis_number a) (axis_number b)

-- the cells of line (u, v) from number `first` to number `last`
abbrev pub on_line : Axis → ℕ → ℕ → ℕ → ℕ → Axis → Cell → Bool
on_line axis u v first last a c = (same a axis && eqb (u_of axis c) u) && (eqb (v_of axis c) v && (leb first (cell_on axis c) && leb (cell_on axis c) last))

-- whether the pass adds one at cell number i of a line, for what its ray is answered: at each cell that is reached, or at the last of them
abbrev pub adds_at : Pass → Float → ℕ → ℕ → RayHit → Bool
adds_at Plain size count i hit = reaches size i hit
adds_at Quick size count i hit = ends_at size count i hit

-- the same of a cell and the line along the axis that it is on
abbrev pub adds_on : Pass → Grid → Axis → Cell → RayHit → Bool
adds_on pass g axis c hit = adds_at pass (size_on axis g) (count_on axis g) (cell_on axis c) hit

-- the first cell of the line that it adds one at, where `last` is the last
abbrev pub first_added : Pass → ℕ → ℕ
first_added Plain last = 0
first_added Quick last = last

-- the cells of line (u, v) where the ray's answer adds one
abbrev pub line_crossed : Pass → Grid → Axis → ℕ → ℕ → RayHit → Axis → Cell → Bool
line_crossed pass g axis u v hit a c = (same a axis && eqb (u_of axis c) u) && (eqb (v_of axis c) v && adds_on pass g axis c hit)

-- those of the lines with u, where `hit v` is the answer on line (u, v)
abbrev pub row_crossed : Pass → Grid → Axis → ℕ → (ℕ → RayHit) → Axis → Cell → Bool
row_crossed pass g axis u hit a c = (same a axis && eqb (u_of axis c) u) && adds_on pass g axis c (hit (v_of axis c))

-- those of all lines along the axis
abbrev pub axis_crossed : Pass → Grid → Axis → (ℕ → ℕ → RayHit) → Axis → Cell → Bool
axis_crossed pass g axis hit a c = same a axis && adds_on pass g axis c (hit (u_of axis c) (v_of axis c))

-- the ray from the first cell of line (u, v) against a triangle
unfoldable pub hit_on : Grid → Corners → Axis → ℕ → ℕ → RayHit
hit_on g t axis u v = ray_aligned (centre_of g (cell_from axis 0 u v)) t.a t.b t.c axis

-- the cells where a triangle adds one, along the axis
unfoldable pub crossed_by : Pass → Grid → Corners → Axis → Cell → Bool
crossed_by pass g t axis c = adds_on pass g axis c (hit_on g t axis (u_of axis c) (v_of axis c))

-- whether triangle k adds one at cell c, along the axis
abbrev pub adds_for : Pass → Grid → Mesh → Axis → Cell → ℕ → Bool
adds_for pass g m axis c k = adds_on pass g axis c (ray_from g m axis c k)

-- after k triangles each entry is the number of those that add one there
pub record Counted (pass : Pass) (g : Grid) (m : Mesh) (k : ℕ) (l : List ℕ) : Type 0 where
  pub long : length l ≡ 3 * total g
  pub each : (a : Axis) (c : Cell) → Inside g c → get_or l (entry_of g a c) 0 ≡ count_below (adds_for pass g m a c) k

-- ---- the rays that graze

-- how many rays of the three axes graze a triangle
unfoldable pub grazed_by : Grid → Corners → ℕ
grazed_by g t = grazed_on g X (hit_on g t X) + grazed_on g Y (hit_on g t Y) + grazed_on g Z (hit_on g t Z)

-- ---- the ray test in a row of lines

-- the parts of the weights of line v
abbrev pub parts_at : List Float → List Float → List Float → ℕ → Three
parts_at z0 z1 z2 v = record { v0 = get_or z0 v nan; v1 = get_or z1 v nan; v2 = get_or z2 v nan }

-- no weight is above 0 with another below 0. Else the ray misses: it neither hits nor grazes.
unfoldable pub may_meet : Three → Three → Bool
may_meet zs ys = not (on_both_sides (zs.v0 ⊖ ys.v0) (zs.v1 ⊖ ys.v1) (zs.v2 ⊖ ys.v2))

-- a hit lies ahead of the ray's origin
abbrev pub ahead : RayHit → Bool
ahead Miss = true
ahead Grazed = true
ahead (Hit t) = f0 ≺ t

-- the parts of the weights on the lines of a row, worked out once for a triangle
pub record Across (g : Grid) (axis : Axis) (f : Cast) (count : ℕ) (z0 z1 z2 : List Float) : Type 0 where
  pub each : (v : ℕ) → v < count → parts_at z0 z1 z2 v ≡ across_z f (centre_along g axis v)

-- the lines of a row that a hit or a graze may be on are marked
pub record Marked (z0 z1 z2 : List Float) (ys : Three) (count : ℕ) (flags : List Bool) : Type 0 where
  pub each : (v : ℕ) → v < count → get_or flags v false ≡ may_meet (parts_at z0 z1 z2 v) ys

-- the answers on the lines of a row
abbrev pub row_hit : List Float → List Float → List Float → Three → Three → ℕ → RayHit
row_hit z0 z1 z2 ys xs v = ray_of (parts_at z0 z1 z2 v) ys xs

-- the answers on all lines along the axis, from the triangle made ready and those parts
abbrev pub cast_hit : Grid → Axis → Cast → List Float → List Float → List Float → ℕ → ℕ → RayHit
cast_hit g axis f z0 z1 z2 u v =
    row_hit z0 z1 z2 (across_y f (centre_along g (next axis) u)) (along_x f (centre_along g axis 0)) v
