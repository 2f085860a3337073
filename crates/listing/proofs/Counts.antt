-- A grid's counts, as they are multiplied. Assumes nothing.
use Prim.Native.Nat.{ℕ, ◌*◌, ◌<◌}
use native.Mathlib.Nat.{mul-le-mul}
use native.Mathlib.Omega.{arith}

-- the product of two counts
pub wide_product : {x y : ℕ} → x < 4294967296 → y < 4294967296 → x * y < 18446744073709551616
wide_product {x} {y} h k = omega (arith, mul-le-mul {n₁ = x} {m₁ = y} {n₂ = 4294967295} {m₂ = 4294967295} (omega arith) (omega arith))
