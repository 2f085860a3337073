-- `run_cross_back::sum_back`: the entries from number `at` on are summed, and the others as they were, whatever the list was at the beginning; each
-- of the three loops carries that on. A cell's three entries follow each other, so that one turn sums one after the
-- other (`proofs/Back.antt`). Assumes nothing.
use Prim.Native.Nat.{ℕ, ◌+◌, ◌*◌}
use mathlib.Core.Path.{◌≡◌}
use mathlib.Core.List.{List}
use Rattle.point.specs.declared.Axis.TheVariants.{Y, Z}
use Rattle.grid.specs.declared.Grid.{Grid}
use Rattle.grid.specs.Axes.{count_on}
use Rattle.run_cross_back.specs.Back.{SummedFrom}
use Rattle.run_cross_back.proofs.sum_back.Given as goal

-- what was summed from one entry on is summed from another on
abbrev pub Carried : Grid → ℕ → List ℕ → ℕ → List ℕ → Type 0
Carried g from l to m = (old : List ℕ) → SummedFrom g old from l → SummedFrom g old to m

abbrev pub invariant-loop-z : goal.invariant-loop-z
invariant-loop-z l =
    (l.at ≡ 3 * (l.z + l.y * count_on Z l.grid + l.x * count_on Y l.grid * count_on Z l.grid)) × Carried l.grid l.initial.at l.initial.crossings l.at l.crossings

abbrev pub invariant-loop-y : goal.invariant-loop-y
invariant-loop-y l =
    (l.at ≡ 3 * (l.y * count_on Z l.grid + l.x * count_on Y l.grid * count_on Z l.grid)) × Carried l.grid l.initial.at l.initial.crossings l.at l.crossings

-- so many cells lie before the place that a loop has come to
abbrev pub invariant-loop-x : goal.invariant-loop-x
invariant-loop-x l =
    (l.at ≡ 3 * (l.x * count_on Y l.grid * count_on Z l.grid)) × Carried l.grid l.initial.at l.initial.crossings l.at l.crossings
