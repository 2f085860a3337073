-- "The square root is the binary32 nearest the exact root, subnormals included; −0 and +infinity give themselves, NaN and numbers below 0
-- give 7fc00000. [..] The nearness is stated over whole numbers: squares of scaled integers compared." (document 01, Geometry). Definitions only.
-- Every finite binary32 is a whole number of units of 2 ^ -149, its smallest value above zero. Let x be X units and r be R units. Then r is the
-- root of x where R * R is X * 2 ^ 149; and the middle of r and y, which is (Y + R) / 2 units, is below the root of x where (Y + R) * (Y + R)
-- is below 4 * (X * 2 ^ 149).
use Rattle.std.specs.Prelude.{◌≡◌, true, false, ℕ, zero, suc, ◌+◌, ◌*◌, ◌/◌, ◌^◌, ◌<◌, T, ℤ, Float}
use Rattle.std.specs.Float.{nan, inf, fin, binary32}
use Rattle.std.specs.Float.Ieee.{up, down, fits}

-- the size of a finite binary32 in units of 2 ^ -149. A NaN and an infinity have none, and get 0.
unfoldable pub units_of : Float → ℕ
units_of nan = 0
units_of (inf s) = 0
units_of (fin s m e) = m * up e * 2 ^ 149 / down e

-- of two values of R and Y units that of R is the nearer to the root of X units: the root lies on R's side of their middle
abbrev pub Nearer : ℕ → ℕ → ℕ → Type 0
Nearer X R Y = (Y < R → (Y + R) * (Y + R) < 4 * (X * 2 ^ 149)) × (R < Y → 4 * (X * 2 ^ 149) < (Y + R) * (Y + R))

-- r is a binary32 above zero, and is nearer to the root of x than any other binary32
pub record NearestRoot (x r : Float) : Type 0 where
  pub held : T (fits binary32 r)
  pub above : (m : ℕ) × (e : ℤ) × (r ≡ fin false (suc m) e)
  pub nearer : (y : Float) → T (fits binary32 y) → Nearer (units_of x) (units_of r) (units_of y)

-- r is the root of x: of a NaN and of anything below zero the NaN, and of a zero and of +infinity x itself
abbrev pub Root : Float → Float → Type 0
Root nan r = r ≡ nan
Root (inf true) r = r ≡ nan
Root (inf false) r = r ≡ inf false
Root (fin s zero e) r = r ≡ fin s zero e
Root (fin true (suc m) e) r = r ≡ nan
Root (fin false (suc m) e) r = NearestRoot (fin false (suc m) e) r
