-- "floor of (point − box minimum) / size, as a signed whole number that saturates at the ends of the 64-bit range, then clamped to
-- 0 .. count − 1. Inside if no axis was clamped, else Outside. [..] below zero it goes down, so −0.25 gives −1. A NaN quotient gives 0,
-- as the Rust cast does." (document 01, Grid). Definitions only.
use Rattle.std.specs.Prelude.{◌≡◌, ℕ, zero, suc, ◌-◌, ◌*◌, ◌/◌, ◌^◌, min, Bool, true, false, ℤ, pos, negsuc, nat_le, Float}
use Rattle.std.specs.Float.{nan, inf, fin}
use Rattle.std.specs.Float.Ieee.{up, down}

-- The largest whole number that is at most x, or the end of an `i64` that is nearest to it. The value is m * up e / down e with its sign. Below
-- zero the largest whole number at most -(a / c) is -(1 + (a - 1) / c), and `negsuc k` is -(1 + k).
unfoldable pub floor_of : Float → ℤ
floor_of nan = pos 0
floor_of (inf true) = negsuc (2 ^ 63 - 1)
floor_of (inf false) = pos (2 ^ 63 - 1)
floor_of (fin false m e) = pos (min (m * up e / down e) (2 ^ 63 - 1))
floor_of (fin true zero e) = pos 0
floor_of (fin true (suc m) e) = negsuc (min ((suc m * up e - 1) / down e) (2 ^ 63 - 1))

-- z clamped to 0 .. count - 1, and whether that changed it: the cell of z in a row of `count` cells. A row of no cells has z outside, and 0 stands for its cell.
unfoldable pub cell_of : ℕ → ℤ → ℕ
cell_of count (pos k) = min k (count - 1)
cell_of count (negsuc k) = 0

unfoldable pub outside : ℕ → ℤ → Bool
outside count (pos k) = nat_le count k
outside count (negsuc k) = true

-- the quotient q falls in the cell `index` of a row of `count` cells, clamped or not
pub record Snapped (count : ℕ) (q : Float) (index : ℕ) (clamped : Bool) : Type 0 where
  pub at : index ≡ cell_of count (floor_of q)
  pub past : clamped ≡ outside count (floor_of q)
