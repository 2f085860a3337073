-- What the functions that spell a number rest on. Definitions only.
use Rattle.std.specs.Prelude.{ℕ, zero, suc, ◌/◌, ◌<◌}
use Rattle.text.specs.declared.Form.{Form}
use Rattle.text.specs.declared.Form.TheVariants.{Decimal, Hex8}

-- n has at most k digits before its last one
unfoldable pub FewDigits : ℕ → ℕ → Type 0
FewDigits zero n = n < 10
FewDigits (suc k) n = FewDigits k (n / 10)

-- the most bytes of a number: ten decimal digits, or eight hex digits
abbrev pub width : Form → ℕ
width Decimal = 10
width Hex8 = 8
