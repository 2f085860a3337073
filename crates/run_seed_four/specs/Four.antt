-- The signed squares that seeding works out four at a time. Definitions only.
use Rattle.std.specs.Prelude.{ℕ, ◌+◌, ◌<◌, ◌≡◌, List, get_or, Float}
use Rattle.std.specs.Float.{nan}
use Rattle.terms.specs.declared.SignMethod.{SignMethod}
use Rattle.grid.specs.declared.Grid.{Grid}
use Rattle.grid.specs.declared.Cell.{Cell}
use Rattle.grid.specs.Axes.{cell_numbered}
use Rattle.grid.specs.Place.{centre_of}
use Rattle.geo_closest.specs.declared.Facet.{Facet}
use Rattle.geo_measure.specs.Measured.{squared_by}

-- those of four cells, the one given and the three behind it along z
pub record SquaresFrom (g : Grid) (sign : SignMethod) (f : Facet) (at : Cell) (squares : List Float) : Type 0 where
  pub each : (i : ℕ) → i < 4 → get_or squares i nan ≡ squared_by sign f (centre_of g (cell_numbered at.x at.y (at.z + i)))
