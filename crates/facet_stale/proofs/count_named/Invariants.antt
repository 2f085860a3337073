-- `facet_stale::count_named`: n of the cells before this one name a triangle. Assumes nothing.
use Prim.Native.Nat.{ℕ}
use mathlib.Core.Path.{◌≡◌}
use mathlib.Core.Bool.{Bool}
use mathlib.Core.List.{List}
use lib.Dec.{ltb}
use lib.ListN.{get_or}
use Rattle.lists.specs.Range.{count_below}
use Rattle.facet_stale.proofs.count_named.Given as goal

-- cell c names a triangle
abbrev pub names_one : ℕ → List ℕ → ℕ → Bool
names_one t names c = ltb (get_or names c 0) t

abbrev pub invariant-loop-name : goal.invariant-loop-name
invariant-loop-name l = l.n ≡ count_below (names_one l.triangles l.names) l.name-index
