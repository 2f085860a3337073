-- "tails zero" (document 02, §10): an output that is longer than what it is given. Definitions only.
use Rattle.std.specs.Prelude.{ℕ, ◌-◌, List, ◌++◌, length, replicate, Float}
use Rattle.std.specs.Float.{binary32}
use Rattle.std.specs.Float.Ieee.{of_bits}

-- l, and the zero behind it to a length of n
abbrev pub padded : {A : Type 0} → A → ℕ → List A → List A
padded z n l = l ++ replicate (n - length l) z

-- +0, whose bits are all 0
abbrev pub plus_zero : Float
plus_zero = of_bits binary32 0
