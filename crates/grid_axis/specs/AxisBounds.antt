-- "Bounds on a job" (document 01), the rows that speak of one axis of the grid. Definitions only.
use Rattle.std.specs.Prelude.{ℕ, Bool, ◌&&◌, nat_le, Float}
use Rattle.std.specs.Float.Ieee as Ieee
use Rattle.std.specs.Float.{binary32}
use Rattle.float.specs.Arith.{◌≦◌}
use Rattle.float.specs.Steps.{finite_at_most}

-- "each cell count | 1 to 1,024"
abbrev pub is_count : ℕ → Bool
is_count n = nat_le 1 n && nat_le n 1024

-- 1,048,576, 1,024 and 1/1,024
abbrev pub f2²⁰ : Float
f2²⁰ = Ieee.of_bits binary32 0x4980_0000

abbrev pub f2¹⁰ : Float
f2¹⁰ = Ieee.of_bits binary32 0x4480_0000

abbrev pub f2⁻¹⁰ : Float
f2⁻¹⁰ = Ieee.of_bits binary32 0x3a80_0000

-- "first-cell coordinates | finite, magnitude at most 1,048,576"
abbrev pub is_coordinate : Float → Bool
is_coordinate x = finite_at_most x f2²⁰

-- "cell size, each axis | 1/1,024 to 1,024, both allowed"
abbrev pub is_size : Float → Bool
is_size x = (f2⁻¹⁰ ≦ x) && (x ≦ f2¹⁰)

-- what is asked of each axis alike
abbrev pub axis_in_bounds : ℕ → Float → Float → Bool
axis_in_bounds count first size = is_count count && is_coordinate first && is_size size
