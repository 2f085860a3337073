-- The edges of the two margins of the comparison, on either side, computed. Assumes nothing.
use mathlib.Core.Path.{◌≡◌, refl}
use mathlib.Core.Bool.{false}
use mathlib.Core.List.{[], ◌∷◌}
use Prim.Native.Nat.{ℕ}
use lib.Ieee.{binary32, eq, le, lt, sub, of_bits, to_bits, round}
use Rattle.float.specs.Steps.{abs_of}
use Rattle.std.specs.declared.cmp.Ordering.{Ordering}
use Rattle.std.specs.declared.cmp.Ordering.TheVariants.{Less, Greater}
use Rattle.float_order.specs.Compare.{alike_margin, alike, order}

-- the margin is the binary32 nearest to 1 / 1,000,000
pub margin_nearest : alike_margin ≡ round binary32 false 1 1000000
unfolding of_bits round
margin_nearest = refl

-- the values with two patterns, compared
abbrev at : ℕ → ℕ → Ordering
at p q = order (of_bits binary32 p) (of_bits binary32 q)

-- a positive value against a negative one: of magnitude 0, of the margin and just above it against 0, of 2^23 with 2 and with 3 patterns more, of
-- infinity against the largest number and against itself
pub edges :
    at 0x0000_0000 0x8000_0000 ∷ at 0x3586_37bd 0x8000_0000 ∷ at 0x3586_37be 0x8000_0000 ∷ at 0x4b00_0002 0xcb00_0000 ∷ at 0x4b00_0003 0xcb00_0000
    ∷ at 0x7f80_0000 0xff7f_ffff ∷ at 0x7f80_0000 0xff80_0000 ∷ []
    ≡ Less ∷ Less ∷ Greater ∷ Less ∷ Greater ∷ Less ∷ Less ∷ []
unfolding order alike abs_of eq le lt sub of_bits to_bits
edges = refl
