-- How a question reaches C and its answer comes back: as records with C's layout. An answer has document 01's number, 0 where
-- a value is given, and the value, all zero where it is refused. Definitions only.
use Rattle.std.specs.Prelude.{◌||◌, ℕ, eqb, ℤ, pos, negsuc, Float, Result, Ok, Err, if◌then◌else◌}
use Rattle.std.specs.declared.cmp.Ordering.{Ordering}
use Rattle.std.specs.declared.cmp.Ordering.TheVariants.{Less, Equal, Greater}
use Rattle.std.specs.Float.Ieee.{is_nan}
use Rattle.refusals.specs.Numbers.{number_of, Reply, refused, given}
use Rattle.refusals.specs.declared.Refusal.{Refusal}
use Rattle.refusals.specs.declared.Refusal.TheVariants.{NotANumber}
use Rattle.float.specs.Arith.{f0}
use Rattle.point.specs.declared.Point.{Point}
use Rattle.point.specs.Point.{vec}
use Rattle.float_order.specs.Compare.{order}
use Rattle.grid.specs.declared.Grid.{Grid}
use Rattle.grid.specs.declared.Cell.{Cell}
use Rattle.grid.specs.declared.Counts.{Counts}
use Rattle.grid.specs.declared.BoundingBox.{BoundingBox}
use Rattle.grid.specs.declared.Snap.{Snap}
use Rattle.grid.specs.declared.SnapResult.{SnapResult}
use Rattle.grid.specs.declared.SnapResult.TheVariants.{Inside, Outside}
use Rattle.terms.specs.declared.Pass.{Pass}
use Rattle.terms.specs.declared.Pass.TheVariants.{Plain, Quick}
use Rattle.terms.specs.declared.SignMethod.{SignMethod}
use Rattle.terms.specs.declared.SignMethod.TheVariants.{Raycast, Normal}
use Rattle.terms.specs.declared.Terms.{Terms}
use Rattle.geo_box.specs.declared.TriangleBox.{TriangleBox}
use Rattle.geo_ray.specs.declared.RayHit.{RayHit}
use Rattle.geo_ray.specs.declared.RayHit.TheVariants.{Miss, Grazed, Hit}
use Rattle.c_records.specs.declared.SdfPoint.{SdfPoint}
use Rattle.c_records.specs.declared.SdfCell.{SdfCell}
use Rattle.c_records.specs.declared.SdfGrid.{SdfGrid}
use Rattle.c_records.specs.declared.SdfTerms.{SdfTerms}
use Rattle.c_records.specs.declared.SdfNumberAnswer.{SdfNumberAnswer}
use Rattle.c_records.specs.declared.SdfCellAnswer.{SdfCellAnswer}
use Rattle.c_records.specs.declared.SdfPointAnswer.{SdfPointAnswer}
use Rattle.c_records.specs.declared.SdfBoxAnswer.{SdfBoxAnswer}
use Rattle.c_records.specs.declared.SdfSnapAnswer.{SdfSnapAnswer}
use Rattle.c_records.specs.declared.SdfGridAnswer.{SdfGridAnswer}
use Rattle.c_records.specs.declared.SdfDistanceAnswer.{SdfDistanceAnswer}
use Rattle.c_records.specs.declared.SdfRayAnswer.{SdfRayAnswer}
use Rattle.c_records.specs.declared.SdfOrderAnswer.{SdfOrderAnswer}

-- ---- what C hands in, and the same handed out

abbrev pub point_in : SdfPoint → Point
point_in p = vec p.x p.y p.z

abbrev pub point_out : Point → SdfPoint
point_out p = record { x = p.x; y = p.y; z = p.z }

abbrev pub cell_in : SdfCell → Cell
cell_in c = record { x = c.x; y = c.y; z = c.z }

abbrev pub cell_out : Cell → SdfCell
cell_out c = record { x = c.x; y = c.y; z = c.z }

abbrev pub counts_in : SdfCell → Counts
counts_in c = record { x = c.x; y = c.y; z = c.z }

abbrev pub counts_out : Counts → SdfCell
counts_out n = record { x = n.x; y = n.y; z = n.z }

abbrev pub grid_in : SdfGrid → Grid
grid_in g = record {
  first_cell = point_in g.first;
  cell_size = point_in g.size;
  count_x = g.count.x;
  count_y = g.count.y;
  count_z = g.count.z;
  upright = g.upright;
}

abbrev pub grid_out : Grid → SdfGrid
grid_out g = record {
  first = point_out g.first_cell;
  size = point_out g.cell_size;
  count = record { x = g.count_x; y = g.count_y; z = g.count_z };
  upright = g.upright;
}

-- 0 is the plain pass, and any other number the quick one
abbrev pub pass_in : ℕ → Pass
pass_in n = if eqb n 0 then Plain else Quick

-- 0 is Raycast, and any other number Normal
abbrev pub sign_in : ℕ → SignMethod
sign_in n = if eqb n 0 then Raycast else Normal

-- the edition is the number that C gives: 0, as a record has it that C leaves short, is no edition, and is refused
abbrev pub terms_in : SdfTerms → Terms
terms_in t = record { limit = t.limit; pass = pass_in t.pass; sign = sign_in t.sign; edition = t.edition }

-- ---- the zeros that a refusal has for a value

abbrev pub no_point : SdfPoint
no_point = record { x = f0; y = f0; z = f0 }

abbrev pub no_cell : SdfCell
no_cell = record { x = 0; y = 0; z = 0 }

abbrev pub no_grid : SdfGrid
no_grid = record { first = no_point; size = no_point; count = no_cell; upright = 0 }

-- ---- the answers of the grid's questions

unfoldable pub number_for_c : Reply ℕ → SdfNumberAnswer
number_for_c (refused n) = record { number = n; value = 0 }
number_for_c (given i) = record { number = 0; value = i }

unfoldable pub cell_for_c : Reply Cell → SdfCellAnswer
cell_for_c (refused n) = record { number = n; cell = no_cell }
cell_for_c (given c) = record { number = 0; cell = cell_out c }

unfoldable pub counts_for_c : Reply Counts → SdfCellAnswer
counts_for_c (refused n) = record { number = n; cell = no_cell }
counts_for_c (given c) = record { number = 0; cell = counts_out c }

unfoldable pub point_for_c : Reply Point → SdfPointAnswer
point_for_c (refused n) = record { number = n; point = no_point }
point_for_c (given p) = record { number = 0; point = point_out p }

unfoldable pub box_for_c : Reply BoundingBox → SdfBoxAnswer
box_for_c (refused n) = record { number = n; min = no_point; max = no_point }
box_for_c (given b) = record { number = 0; min = point_out b.min; max = point_out b.max }

abbrev pub inside_for_c : SnapResult → ℕ
inside_for_c Inside = 1
inside_for_c Outside = 0

unfoldable pub snap_for_c : Reply Snap → SdfSnapAnswer
snap_for_c (refused n) = record { number = n; inside = 0; cell = no_cell }
snap_for_c (given s) = record { number = 0; inside = inside_for_c s.result; cell = cell_out s.cell }

unfoldable pub grid_for_c : Reply Grid → SdfGridAnswer
grid_for_c (refused n) = record { number = n; grid = no_grid }
grid_for_c (given g) = record { number = 0; grid = grid_out g }

-- ---- the answers of the geometry

unfoldable pub triangle_box_for_c : Reply TriangleBox → SdfBoxAnswer
triangle_box_for_c (refused n) = record { number = n; min = no_point; max = no_point }
triangle_box_for_c (given b) = record { number = 0; min = point_out b.low; max = point_out b.high }

abbrev pub closest_for_c : Reply Point → SdfPointAnswer
closest_for_c = point_for_c

unfoldable pub distance_for_c : Reply Float → SdfDistanceAnswer
distance_for_c (refused n) = record { number = n; distance = f0 }
distance_for_c (given d) = record { number = 0; distance = d }

-- hit is 1 with its t, grazed is 1 where the ray grazed, and both are 0 for a miss
unfoldable pub ray_for_c : Reply RayHit → SdfRayAnswer
ray_for_c (refused n) = record { number = n; hit = 0; grazed = 0; t = f0 }
ray_for_c (given Miss) = record { number = 0; hit = 0; grazed = 0; t = f0 }
ray_for_c (given Grazed) = record { number = 0; hit = 0; grazed = 1; t = f0 }
ray_for_c (given (Hit t)) = record { number = 0; hit = 1; grazed = 0; t = t }

-- ---- the answer of the comparison

-- -1, 0 and 1
abbrev pub sign : Ordering → ℤ
sign Less = negsuc 0
sign Equal = pos 0
sign Greater = pos 1

unfoldable pub comparison : Result Ordering Refusal → SdfOrderAnswer
comparison (Err r) = record { number = number_of r; order = pos 0 }
comparison (Ok o) = record { number = 0; order = sign o }

-- to a question of a and b
abbrev pub compared_for_c : Float → Float → SdfOrderAnswer
compared_for_c a b = comparison (if is_nan a || is_nan b then Err NotANumber else Ok (order a b))
