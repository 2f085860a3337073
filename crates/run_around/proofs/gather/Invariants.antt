-- `gather`: after j turns the first j entries of each list are those of the first j steps. Assumes nothing.
use Prim.Native.Nat.{ℕ}
use lib.Ieee.{nan}
use Rattle.point.specs.declared.Point.{Point}
use Rattle.lists.specs.Table.{Filled}
use Rattle.grid.specs.declared.Grid.{Grid}
use Rattle.grid.specs.declared.Cell.{Cell}
use Rattle.grid.specs.Place.{centre_of}
use Rattle.run.specs.Steps.{step_at}
use Rattle.run_around.specs.declared.Spot.{Spot}
use Rattle.run_around.specs.Around.{spot_of}
use Rattle.run_around.proofs.gather.Given as goal

-- the spot of step j, and its centre
abbrev pub spot : Grid → Cell → ℕ → Spot
spot g c j = spot_of g c (step_at j)

abbrev pub centre : Grid → Cell → ℕ → Point
centre g c j = centre_of g (spot g c j).cell

abbrev pub invariant-loop-j : goal.invariant-loop-j
invariant-loop-j l =
    Filled 0 (λ k. (spot l.grid l.cell k).index) l.initial.to l.j l.to
    × Filled nan (λ k. (centre l.grid l.cell k).x) l.initial.xs l.j l.xs
    × Filled nan (λ k. (centre l.grid l.cell k).y) l.initial.ys l.j l.ys
    × Filled nan (λ k. (centre l.grid l.cell k).z) l.initial.zs l.j l.zs
