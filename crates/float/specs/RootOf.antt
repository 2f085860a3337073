-- The root as a function that computes, for definitions that need a value: `root_of x` is the one r with `Root x r` (proofs/Roots.antt, `root_of_lem`
-- and `root_is`). Definitions only.
-- In units of 2 ^ -149 the root of X is the root of X * 2 ^ 149. Cut by 2 ^ (2 k) that is a number n of 47 or 48 binary digits, and the whole
-- number q nearest to its root has 24. Then q * 2 ^ k units are the nearest binary32, and k * 2 ^ 23 + q is its bit pattern.
use Rattle.std.specs.Prelude.{◌≡◌, true, false, cond, ℕ, zero, suc, ◌+◌, ◌*◌, ◌/◌, ◌%◌, ◌^◌, ◌≤◌, ◌<◌, leb, Float}
use Rattle.std.specs.Float.{nan, inf, fin, binary32}
use Rattle.std.specs.Float.Ieee.{size, of_bits, to_bits}
use Rattle.float.specs.Root.{units_of, Root}

-- q is the whole number nearest to the root of n: the root is above q - 1/2 and below q + 1/2. It never is halfway between two whole numbers.
abbrev pub NearestTo : ℕ → ℕ → Type 0
NearestTo n q = (q * q < n + q) × (n ≤ q * q + q)

-- the whole part of the root of n from the place j - 1 down: r has its digits above
unfoldable pub digits_from : ℕ → ℕ → ℕ → ℕ
digits_from zero n r = r
digits_from (suc j) n r = digits_from j n (cond (leb ((r + 2 ^ j) * (r + 2 ^ j)) n) (r + 2 ^ j) r)

-- the whole number nearest to the root of n, for an n of at most 48 digits
unfoldable pub nearest_whole : ℕ → ℕ
unfolding digits_from
nearest_whole n = let r = digits_from 24 n 0 in cond (leb n (r * r + r)) r (r + 1)

-- the bit pattern of the root of X units
unfoldable pub root_pattern : ℕ → ℕ
unfolding size nearest_whole
root_pattern X = let k = 51 + size X / 2 in k * 2 ^ 23 + nearest_whole (X * 2 ^ 149 / 2 ^ (k + k))

unfoldable pub root_of : Float → Float
unfolding units_of root_pattern of_bits
root_of nan = nan
root_of (inf true) = nan
root_of (inf false) = inf false
root_of (fin s zero e) = fin s zero e
root_of (fin true (suc m) e) = nan
root_of (fin false (suc m) e) = of_bits binary32 (root_pattern (units_of (fin false (suc m) e)))

-- the root on bit patterns. The one NaN is written as 7fc00000, whichever NaN's pattern came in.
abbrev pub root_bits : ℕ → ℕ
root_bits b = to_bits binary32 (root_of (of_bits binary32 b))

-- what `sqrt` ensures: r is the root of x, and so the value that the definitions above it name
pub record IsRoot (x r : Float) : Type 0 where
  pub root : Root x r
  pub is : r ≡ root_of x

-- "A subnormal is first normalised by its count of leading zeros": w is the pattern b with an exponent's field that has no lower end, so that its
-- digits always have a leading one. The field is offset by 24.
pub record NormalForm (b w : ℕ) : Type 0 where
  pub small : w < 278 * 2 ^ 23
  pub same : units_of (of_bits binary32 b) * 2 ^ 24 ≡ (w % 2 ^ 23 + 2 ^ 23) * 2 ^ (w / 2 ^ 23)
