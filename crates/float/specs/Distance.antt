-- "Distances that wait": a distance is a value that is no NaN and has no sign bit, so its bit pattern is at most infinity's. Definitions only.
use Rattle.std.specs.Prelude.{◌≤◌, Bool, false, not, T, Float}
use Rattle.std.specs.Float.{nan, inf, fin, binary32}
use Rattle.std.specs.Float.Ieee.{fits, to_bits}

-- x is a value of binary32 whose pattern is at most that of +infinity
pub record Distance (x : Float) : Type 0 where
  pub held : T (fits binary32 x)
  pub small : to_bits binary32 x ≤ 0x7f80_0000

-- x is no NaN and has no sign bit
abbrev pub unsigned : Float → Bool
unsigned nan = false
unsigned (inf s) = not s
unsigned (fin s m e) = not s
