-- "*Root of 2.0 is 3fb504f3; *of bits 00000001 is 1a3504f3; *of 0 is 0." (document 01, Points on each side). The rows of the roots. Definitions only.
use Rattle.std.specs.Prelude.{List, [], ◌∷◌}
use Rattle.std.specs.Float.Ieee.{of_bits, to_bits}
use Rattle.float.specs.Case.{Case, ◌gives◌}
use Rattle.float.specs.RootOf.{root_of, root_bits}

unfoldable pub root_cases : List Case
unfolding of_bits to_bits root_of
root_cases =
    (root_bits 0x4000_0000 gives 0x3fb5_04f3)
    ∷ (root_bits 0x0000_0001 gives 0x1a35_04f3)
    ∷ (root_bits 0x0000_0000 gives 0x0000_0000)
    ∷ []
