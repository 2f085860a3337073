-- Where the cells of an axis lie (document 01, "Grid"). Definitions only.
use Rattle.std.specs.Prelude.{ℕ, pos, Float}
use Rattle.std.specs.Float.Ieee as Ieee
use Rattle.std.specs.Float.{binary32}
use Rattle.float.specs.Arith.{◌⊕◌, ◌⊖◌, ◌⊗◌, ◌⊘◌, f½}

-- (i as f32), which for the counts of a grid is exact
abbrev pub real : ℕ → Float
real i = Ieee.of_int binary32 (pos i)

-- "Centre on an axis: first + (i as f32)·size, one rounding per operation."
abbrev pub centre_on : Float → Float → ℕ → Float
centre_on first size i = first ⊕ real i ⊗ size

-- "Box minimum: first − size·0.5. Maximum: that + (count as f32)·size."
abbrev pub low_on : Float → Float → Float
low_on first size = first ⊖ size ⊗ f½

abbrev pub high_on : Float → Float → ℕ → Float
high_on first size count = low_on first size ⊕ real count ⊗ size

-- the quotient of a snap: "(point − box minimum) / size"
abbrev pub quotient_on : Float → Float → Float → Float
quotient_on first size p = (p ⊖ low_on first size) ⊘ size

-- "`from_bounding_box`: size (max − min) / (count as f32), first min + size·0.5"
abbrev pub box_size : Float → Float → ℕ → Float
box_size low high count = (high ⊖ low) ⊘ real count

abbrev pub first_from : Float → Float → Float
first_from low size = low ⊕ size ⊗ f½

abbrev pub box_first : Float → Float → ℕ → Float
box_first low high count = first_from low (box_size low high count)
