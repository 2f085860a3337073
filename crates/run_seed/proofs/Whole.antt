-- The loops of seeding add up to the run's: each is the run's definition at a job's input, opened. Assumes nothing.
use Prim.Native.Nat.{ℕ}
use mathlib.Core.Path.{◌≡◌, refl}
use lib.ListN.{length}
use Rattle.lists.specs.Turns.{turns}
use Rattle.terms.specs.declared.SignMethod.{SignMethod}
use Rattle.grid.specs.declared.Grid.{Grid}
use Rattle.grid.specs.Index.{total}
use Rattle.mesh.specs.Mesh.{Mesh, triangles_in}
use Rattle.run.specs.Run.{at_first, offer, seed_line, seed_plane, seed_triangle, seeding}
use Rattle.run.specs.Input.{distance_from, run_input}
use Rattle.run_seed_cells.specs.Parts.{offer_to, along_line, along_plane, along_box, over_box, over_triangle}

module _ (g : Grid) (m : Mesh) (sign : SignMethod) (room limit : ℕ) where
  pub seeding_is : turns (over_triangle g m sign) (length (triangles_in m)) (at_first (total g)) ≡ seeding (run_input g m sign room limit)
  unfolding over_triangle over_box along_box along_plane along_line offer_to seed_triangle seed_plane seed_line offer run_input distance_from seeding
  seeding_is = refl
