-- What counts in a row, on both sides of what is told apart, by the pattern of the float (document 02, §2 and §11). Definitions only.
use Rattle.std.specs.Prelude.{List, [], ◌∷◌, ℕ}
use Rattle.std.specs.Float.{binary32}
use Rattle.std.specs.Float.Ieee.{of_bits}
use Rattle.float.specs.Case.{Case, ◌gives◌}
use Rattle.run.specs.Signs.{row_weight}

-- the weight in either edition
abbrev whole_at : ℕ → ℕ
whole_at b = row_weight 1 (of_bits binary32 b)

abbrev half_at : ℕ → ℕ
half_at b = row_weight 2 (of_bits binary32 b)

-- +0 and -0; the least numbers above and below them; f32::MAX, with no triangle, outside and inside; a NaN, which no job leaves
unfoldable pub counted_cases : List Case
unfolding of_bits
counted_cases =
    (whole_at 0x0000_0000 gives 0)
    ∷ (whole_at 0x8000_0000 gives 1)
    ∷ (whole_at 0x0000_0001 gives 0)
    ∷ (whole_at 0x8000_0001 gives 1)
    ∷ (whole_at 0x7f7f_ffff gives 0)
    ∷ (whole_at 0xff7f_ffff gives 1)
    ∷ (whole_at 0x7fc0_0000 gives 0)
    ∷ (half_at 0x0000_0000 gives 1)
    ∷ (half_at 0x8000_0000 gives 1)
    ∷ (half_at 0x0000_0001 gives 0)
    ∷ (half_at 0x8000_0001 gives 2)
    ∷ (half_at 0x7f7f_ffff gives 0)
    ∷ (half_at 0xff7f_ffff gives 2)
    ∷ (half_at 0x7fc0_0000 gives 0)
    ∷ []
