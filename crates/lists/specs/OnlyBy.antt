-- Which numbers a turn may refuse by. Definitions only.
use Rattle.std.specs.Prelude.{ℕ}
use Rattle.lists.specs.Turns.{Turn, goes, refuses}

-- the turn goes on, or refuses by a number of the set
abbrev pub OnlyBy : {S : Type 0} → (ℕ → Type 0) → Turn S → Type 0
OnlyBy set (goes s) = Unit {0}
OnlyBy set (refuses n) = set n
