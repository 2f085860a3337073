-- What is formed on the way stays below 2 ^ 32: the products of counts that are at most 1,024, and the parts of an index, which are at most the
-- index. Assumes nothing.
use Prim.Native.Nat.{ℕ, ◌+◌, ◌*◌, ◌^◌, ◌≤◌, ◌<◌}
use native.Mathlib.Nat.{mul-le-mul, le-mul_of_pos_right, lt_of_le_of_lt}
use native.Mathlib.Omega.{arith}
use lib.Dec.{lit<}
use Rattle.grid_index.specs.ByCounts.{index_by}

pub counts_fit : (nx ny nz : ℕ) → nx ≤ 1024 → ny ≤ 1024 → nz ≤ 1024 → (nx * ny < 2 ^ 32) × (nx * ny * nz < 2 ^ 32)
counts_fit nx ny nz x y z =
    let xy = mul-le-mul x y in
    (lt_of_le_of_lt xy (lit< tt), lt_of_le_of_lt (mul-le-mul xy z) (lit< tt))

pub record Parts (ny nz x y z : ℕ) : Type 0 where
  pub y_nz : y * nz < 2 ^ 32
  pub z_y : z + y * nz < 2 ^ 32
  pub x_ny : x * ny < 2 ^ 32
  pub x_ny_nz : x * ny * nz < 2 ^ 32

pub parts_fit : (ny nz x y z : ℕ) → index_by ny nz x y z < 2 ^ 32 → 0 < nz → Parts ny nz x y z
parts_fit ny nz x y z h p =
    let n = le-mul_of_pos_right (x * ny) p in
    record {
      y_nz = omega arith;
      z_y = omega arith;
      x_ny = omega arith;
      x_ny_nz = omega arith;
    }
