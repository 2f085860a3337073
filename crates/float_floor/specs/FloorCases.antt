-- "below zero it goes down, so −0.25 gives −1. A NaN quotient gives 0" (document 01, Grid): rows of the floor on both sides of what is told
-- apart, by the pattern of the float. Definitions only.
use Rattle.std.specs.Prelude.{ℕ, ◌-◌, ◌^◌, List, [], ◌∷◌, ℤ, pos, negsuc}
use Rattle.std.specs.Float.{binary32}
use Rattle.std.specs.Float.Ieee.{of_bits}
use Rattle.float.specs.Case.{Case, ◌gives◌}
use Rattle.float_floor.specs.Cell.{floor_of}

-- a whole number stands in a row as the 64 bits of an i64: -k as 2 ^ 64 - k
abbrev word : ℤ → ℕ
word (pos k) = k
word (negsuc k) = 2 ^ 64 - 1 - k

abbrev floor_at : ℕ → ℕ
floor_at b = word (floor_of (of_bits binary32 b))

abbrev minus : ℕ → ℕ
minus k = 2 ^ 64 - k

-- -0.25; -0; the largest value below zero; -1 and -1.25; 0.75; a NaN; the infinities; 2 ^ 63 and -2 ^ 63
unfoldable pub floor_cases : List Case
unfolding of_bits floor_of
floor_cases =
    (floor_at 0xbe80_0000 gives minus 1)
    ∷ (floor_at 0x8000_0000 gives 0)
    ∷ (floor_at 0x8000_0001 gives minus 1)
    ∷ (floor_at 0xbf80_0000 gives minus 1)
    ∷ (floor_at 0xbfa0_0000 gives minus 2)
    ∷ (floor_at 0x3f40_0000 gives 0)
    ∷ (floor_at 0x7fc0_0000 gives 0)
    ∷ (floor_at 0x7f80_0000 gives 2 ^ 63 - 1)
    ∷ (floor_at 0xff80_0000 gives minus (2 ^ 63))
    ∷ (floor_at 0x5f00_0000 gives 2 ^ 63 - 1)
    ∷ (floor_at 0xdf00_0000 gives minus (2 ^ 63))
    ∷ []
