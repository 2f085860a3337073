-- `facet_checks::unknown_name`: whether some name before this one is not known. Assumes nothing.
use Prim.Native.Nat.{ℕ}
use mathlib.Core.Path.{◌≡◌}
use mathlib.Core.Bool.{Bool, not}
use mathlib.Core.List.{List}
use lib.ListN.{get_or}
use Rattle.picks.specs.Picks.{some}
use Rattle.facet_index.specs.Refusals.{known}
use Rattle.facet_checks.proofs.unknown_name.Given as goal

-- the name of cell d is not known
abbrev pub unknown_at : ℕ → List ℕ → ℕ → Bool
unknown_at t names d = not (known t (get_or names d 0))

abbrev pub invariant-loop-name : goal.invariant-loop-name
invariant-loop-name l = l.unknown ≡ some (unknown_at l.triangles l.names) l.name-index
