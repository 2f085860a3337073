-- "`floor`, `sqrt`, `clamp`, `abs`: the port's own" (document 01, What must change shape), and f32::min and f32::max: what Rust's f32 offers as
-- methods. Definitions only.
use Rattle.std.specs.Prelude.{Bool, false, ◌&&◌, Float, if◌then◌else◌}
use Rattle.std.specs.Float.{nan, inf, fin}
use Rattle.std.specs.Float.Ieee.{is_nan}
use Rattle.float.specs.Arith.{◌≦◌, ◌≺◌, f_max}

-- f32::abs: the sign is cleared, that of -0 too. A NaN stays a NaN.
unfoldable pub abs_of : Float → Float
abs_of nan = nan
abs_of (inf s) = inf false
abs_of (fin s m e) = fin false m e

-- the sign bit: set below zero, for -0 and for -infinity. There is one NaN here, without a sign
abbrev pub sign_bit : Float → Bool
sign_bit nan = false
sign_bit (inf s) = s
sign_bit (fin s m e) = s

-- f32::clamp(lo, hi): a NaN stays, and so does what compares as equal to a bound, such as -0 at a bound of +0
abbrev pub clamp_of : Float → Float → Float → Float
clamp_of lo hi x = if x ≺ lo then lo else (if hi ≺ x then hi else x)

-- f32::min and f32::max: where one side is a NaN the other is taken. Of -0 and +0, which compare as equal, Rust may give either. Here it is the first.
abbrev pub least_of : Float → Float → Float
least_of x y = if y ≺ x then y else (if is_nan x then y else x)

abbrev pub greatest_of : Float → Float → Float
greatest_of x y = if x ≺ y then y else (if is_nan x then y else x)

-- x is finite, which is at most f32::MAX in magnitude, and at most the bound
abbrev pub finite_at_most : Float → Float → Bool
finite_at_most x bound = (abs_of x ≦ f_max) && (abs_of x ≦ bound)
