-- Floats and their bit patterns, list by list. There is one NaN, and its pattern is 7fc00000. Definitions only.
use Rattle.std.specs.Prelude.{ℕ, List, map, Float}
use Rattle.std.specs.Float.{binary32}
use Rattle.std.specs.Float.Ieee.{of_bits, to_bits}

abbrev pub floats_of : List ℕ → List Float
floats_of ps = map (of_bits binary32) ps

abbrev pub bits_of : List Float → List ℕ
bits_of xs = map (to_bits binary32) xs
