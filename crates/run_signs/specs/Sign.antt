-- The signs from lent counts. proofs/Parity.antt has that they make the run's `signed_field`. Definitions only.
use Rattle.std.specs.Prelude.{ℕ, ◌+◌, ◌*◌, Bool, List, length, get_or, Float, if◌then◌else◌}
use Rattle.std.specs.Float.{nan}
use Rattle.std.specs.Float.Ieee.{neg}
use Rattle.lists.specs.Table.{table}
use Rattle.run.specs.Signs.{two_odd}

-- cell i is deemed inside, by its three counts at 3i, 3i + 1 and 3i + 2
abbrev pub inside_at : List ℕ → ℕ → Bool
inside_at crossings i = two_odd (get_or crossings (3 * i) 0) (get_or crossings (3 * i + 1) 0) (get_or crossings (3 * i + 2) 0)

abbrev pub signed_at : List ℕ → List Float → ℕ → Float
signed_at crossings field i = if inside_at crossings i then neg (get_or field i nan) else get_or field i nan

unfoldable pub signed_by : List ℕ → List Float → List Float
signed_by crossings field = table (signed_at crossings field) (length field)
