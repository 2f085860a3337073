-- "compare(+1, −1) is less; compare(−1, +1) is greater." (document 01, the marked cases). The rows of the comparison. Definitions only.
use Rattle.std.specs.Prelude.{List, [], ◌∷◌, ℕ, Float}
use Rattle.std.specs.Float.{binary32}
use Rattle.std.specs.Float.Ieee.{eq, le, lt, sub, of_bits, to_bits}
use Rattle.float.specs.Arith.{f1}
use Rattle.float.specs.Case.{Case, ◌gives◌}
use Rattle.float.specs.Steps.{abs_of}
use Rattle.float_order.specs.Compare.{alike, order}
use Rattle.std.specs.declared.cmp.Ordering.{Ordering}
use Rattle.std.specs.declared.cmp.Ordering.TheVariants.{Less, Equal, Greater}

-- -1.0
abbrev pub minus_one : Float
minus_one = of_bits binary32 0xbf80_0000

-- less, equal and greater as numbers
abbrev order_number : Ordering → ℕ
order_number Less = 0
order_number Equal = 1
order_number Greater = 2

unfoldable pub compare_cases : List Case
unfolding order alike abs_of eq le lt sub of_bits to_bits
compare_cases = (order_number (order f1 minus_one) gives 0) ∷ (order_number (order minus_one f1) gives 2) ∷ []
