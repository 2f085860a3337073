-- "A triangle is offered to a cell if its snapped box covers the cell, or if the cell or one of its at most 26 neighbours held it at the
-- end of seeding or later" (demand 3). Definitions only; proofs/Exact.antt shows that the run offers no other (`pop_offers`,
-- `seeding_offers`).
use Rattle.std.specs.Prelude.{ℕ, ◌+◌, ◌≤◌, ◌<◌, ◌≡◌, ◌⊎◌}
use Rattle.point.specs.declared.Axis.{Axis}
use Rattle.grid.specs.declared.Grid.{Grid}
use Rattle.grid.specs.declared.Cell.{Cell}
use Rattle.grid.specs.Axes.{cell_on}
use Rattle.grid.specs.Index.{index_of, Inside}
use Rattle.run.specs.Run.{RunInput, State, Box, named}
use Rattle.demand_3.specs.States.{Since}

-- the snapped box covers cell c: on each axis c lies from its first cell to its last
abbrev pub Covers : Box → Cell → Type 0
Covers b c = (a : Axis) → (cell_on a b.low ≤ cell_on a c) × (cell_on a c ≤ cell_on a b.high)

-- cell c held triangle k at the end of seeding or later: in some state of the run from then on it names k
pub record Held (g : RunInput) (c k : ℕ) : Type 0 where
  pub state : State
  pub since : Since g state
  pub names : named state c ≡ k

-- d is c or a neighbour of c: on each axis they differ by at most one
abbrev pub Near : Cell → Cell → Type 0
Near c d = (a : Axis) → (cell_on a c ≤ cell_on a d + 1) × (cell_on a d ≤ cell_on a c + 1)

-- cell c or one of its neighbours on the grid held triangle k
pub record HeldNear (grid : Grid) (g : RunInput) (c : Cell) (k : ℕ) : Type 0 where
  pub holder : Cell
  pub on_grid : Inside grid holder
  pub near : Near c holder
  pub held : Held g (index_of grid holder) k

-- k is a triangle of the mesh, and is offered to cell c
pub record Offered (grid : Grid) (g : RunInput) (c : Cell) (k : ℕ) : Type 0 where
  pub triangle : k < g.triangles
  pub how : Covers (g.box k) c ⊎ HeldNear grid g c k
