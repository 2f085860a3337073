-- The distance that a signed square stands for, and when the square shows that this distance is not nearer than another, with no root worked
-- out. Definitions only.
use Rattle.std.specs.Prelude.{◌≡◌, Bool, true, false, ◌&&◌, ◌||◌, is_nan, Float, if◌then◌else◌}
use Rattle.std.specs.Float.{binary64}
use Rattle.std.specs.Float.Ieee.{neg, mul, le}
use Rattle.float.specs.Arith.{◌≺◌, f0}
use Rattle.float.specs.RootOf.{root_of}
use Rattle.float.specs.Steps.{abs_of, sign_bit}
use Rattle.float_order.specs.Nearer.{nearer}

-- the root of the magnitude, with the sign of q
unfoldable pub signed_root : Float → Float
signed_root q = if sign_bit q then neg (root_of (abs_of q)) else root_of (abs_of q)

-- q or −q, whichever is not below 0
abbrev pub size_of : Float → Float
size_of q = if q ≺ neg q then neg q else q

-- q is at least the square of h, worked out exactly: as a binary64 the square of a binary32 is not rounded (`square`, crates/float/proofs/NotBelow.antt)
abbrev pub at_least_square : Float → Float → Bool
at_least_square q h = le (mul binary64 h h) q

-- what `not_nearer` ensures: its answer is that test, of the size of q, where h is above 0 or q is below it; and where it holds
-- q is a number, and its signed root is not nearer than h
pub record Shown (q h : Float) (r : Bool) : Type 0 where
  pub is : r ≡ at_least_square (size_of q) h && ((f0 ≺ h) || (q ≺ f0))
  pub number : r ≡ true → is_nan q ≡ false
  pub not_nearer : r ≡ true → nearer (signed_root q) h ≡ false
