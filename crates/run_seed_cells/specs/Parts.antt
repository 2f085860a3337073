-- The loops of seeding one inside the other, for a triangle made ready as a facet: along z, along y, along x. `seeding` has a law that
-- they add up to `seed_triangle` of the run. Definitions only.
use Rattle.std.specs.Prelude.{ℕ, List, [], Float}
use Rattle.lists.specs.Turns.{Turn, through}
use Rattle.terms.specs.declared.SignMethod.{SignMethod}
use Rattle.grid.specs.declared.Grid.{Grid}
use Rattle.grid.specs.declared.Cell.{Cell}
use Rattle.grid.specs.Axes.{cell_numbered}
use Rattle.grid.specs.Index.{index_of, cell_at}
use Rattle.grid.specs.Place.{centre_of}
use Rattle.geo_closest.specs.declared.Facet.{Facet}
use Rattle.geo_closest.specs.Closest.{facet_of}
use Rattle.geo_measure.specs.Measured.{measured}
use Rattle.mesh.specs.declared.Corners.{Corners}
use Rattle.mesh.specs.Mesh.{Mesh, corners_at}
use Rattle.run.specs.Run.{State, offer_at, nothing_else}
use Rattle.run.specs.Input.{snapped_box}

-- in seeding nothing waits, and nothing was taken
abbrev pub seed_state : List Float → List ℕ → State
seed_state field names = record { field = field; names = names; waiting = []; pops = 0; peak = 0 }

-- triangle k, made ready as f, is offered to the cell with index c
unfoldable pub offer_to : Grid → SignMethod → Facet → ℕ → ℕ → State → Turn State
offer_to g sign f k c s = offer_at nothing_else k c (measured sign f (centre_of g (cell_at g c))) s

-- to the cells (x, y, z) with z from lo to hi
unfoldable pub along_line : Grid → SignMethod → Facet → ℕ → ℕ → ℕ → ℕ → ℕ → State → Turn State
along_line g sign f k x y lo hi s = through (λ z. offer_to g sign f k (index_of g (cell_numbered x y z))) lo hi s

-- to the cells of a box with one x, and to all of them
unfoldable pub along_plane : Grid → SignMethod → Facet → ℕ → ℕ → Cell → Cell → State → Turn State
along_plane g sign f k x low high s = through (λ y. along_line g sign f k x y low.z high.z) low.y high.y s

unfoldable pub along_box : Grid → SignMethod → Facet → ℕ → Cell → Cell → State → Turn State
along_box g sign f k low high s = through (λ x. along_plane g sign f k x low high) low.x high.x s

-- to the snapped box of a triangle, by its corners, and by its number
unfoldable pub over_box : Grid → SignMethod → Corners → ℕ → State → Turn State
over_box g sign t k s = along_box g sign (facet_of t.a t.b t.c) k (snapped_box g t).low (snapped_box g t).high s

unfoldable pub over_triangle : Grid → Mesh → SignMethod → ℕ → State → Turn State
over_triangle g m sign k s = over_box g sign (corners_at m k) k s
