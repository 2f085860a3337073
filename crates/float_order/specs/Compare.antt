-- "Magnitudes are alike if equal, or if their rounded difference is at most 1e-6, or if their bit patterns differ by at most 2. Alike with
-- opposite sign bits: the positive one is smaller. In all other cases the magnitudes decide." (document 01). Definitions only.
use Rattle.std.specs.Prelude.{ℕ, ◌+◌, ◌-◌, Bool, not, ◌&&◌, ◌||◌, leb, ltb, Float, if◌then◌else◌}
use Rattle.std.specs.Float.{binary32}
use Rattle.std.specs.Float.Ieee.{of_bits, to_bits, unlike}
use Rattle.float.specs.Arith.{◌⊖◌, ◌≺◌, ◌≦◌, ◌≐◌}
use Rattle.float.specs.Steps.{abs_of, sign_bit}
use Rattle.std.specs.declared.cmp.Ordering.{Ordering}
use Rattle.std.specs.declared.cmp.Ordering.TheVariants.{Less, Equal, Greater}

-- 1e-6, as the nearest binary32
abbrev pub alike_margin : Float
alike_margin = of_bits binary32 0x3586_37bd

-- by how much two whole numbers differ
abbrev pub apart : ℕ → ℕ → ℕ
apart m n = m - n + (n - m)

-- two magnitudes: equal, or their rounded difference at most 1e-6, or their bit patterns at most 2 apart
unfoldable pub alike : Float → Float → Bool
alike x y = (x ≐ y) || (abs_of (x ⊖ y) ≦ alike_margin) || leb (apart (to_bits binary32 x) (to_bits binary32 y)) 2

-- "the magnitudes decide"
abbrev pub by_magnitude : Float → Float → Ordering
by_magnitude a b =
    if abs_of a ≺ abs_of b then Less
    else (if abs_of b ≺ abs_of a then Greater
    else Equal)

-- "the positive one is smaller", of two with opposite sign bits
abbrev pub positive_first : Float → Ordering
positive_first a = if sign_bit a then Greater else Less

-- a compared with b
unfoldable pub order : Float → Float → Ordering
order a b =
    if alike (abs_of a) (abs_of b) && unlike (sign_bit a) (sign_bit b) then positive_first a
    else by_magnitude a b

-- ---- the parts of the code

-- the magnitude x is larger than y and not alike
abbrev pub beyond : Float → Float → Bool
beyond x y = (y ≺ x) && not (alike x y)

-- two whole numbers
abbrev pub of_numbers : ℕ → ℕ → Ordering
of_numbers m n =
    if ltb m n then Less
    else (if ltb n m then Greater
    else Equal)
