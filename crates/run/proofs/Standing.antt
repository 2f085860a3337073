-- "Snapping, field and crossings do not depend on it, and that is to be shown once over the three axes" (document 02, §9). What the run is told of a grid, the
-- rays, the signs and the grazed rays look at its counts, its first cell and its cell size alone: with any number for the upright axis they are the same, by
-- computation. Snapping asked by itself is in crate `grid` (proofs/Standing.antt). Assumes nothing.
use Prim.Native.Nat.{ℕ}
use mathlib.Core.Path.{◌≡◌, refl}
use mathlib.Core.List.{List}
use lib.Ieee.{Float}
use Rattle.terms.specs.declared.SignMethod.{SignMethod}
use Rattle.terms.specs.declared.SignMethod.TheVariants.{Raycast, Normal}
use Rattle.grid.specs.declared.Grid.{Grid}
use Rattle.grid.specs.Layers.{stood}
use Rattle.grid.specs.Place.{centre_of, snap_cell}
use Rattle.mesh.specs.Mesh.{Mesh}
use Rattle.run.specs.Steps.{step_from, around_cell}
use Rattle.run.specs.Input.{seed_first, seed_last, snapped_box, distance_from, run_input}
use Rattle.run.specs.Signs.{ray_from, crosses, crossings, crossings_at, all_crossings, inside, signed, signed_field}
use Rattle.run.specs.Grazed.{grazed_along, grazed}
use Rattle.run.specs.Method.{field_by, crossings_by, grazed_by}

module _ (u : ℕ) (g : Grid) (m : Mesh) where
  -- what the run is told, and so its field, its names, its pops and its peak
  pub input_stood : (sign : SignMethod) (room limit : ℕ) → run_input (stood u g) m sign room limit ≡ run_input g m sign room limit
  unfolding run_input snapped_box seed_first seed_last snap_cell distance_from centre_of around_cell step_from
  input_stood sign room limit = refl

  -- what follows the run, by either method of the signs
  pub field_by_stood : (sign : SignMethod) (field : List Float) → field_by sign (stood u g) m field ≡ field_by sign g m field
  unfolding signed_field signed inside crossings crosses ray_from centre_of
  field_by_stood Raycast field = refl
  field_by_stood Normal field = refl

  pub crossings_by_stood : (sign : SignMethod) → crossings_by sign (stood u g) m ≡ crossings_by sign g m
  unfolding all_crossings crossings_at crossings crosses ray_from centre_of
  crossings_by_stood Raycast = refl
  crossings_by_stood Normal = refl

  pub grazed_by_stood : (sign : SignMethod) → grazed_by sign (stood u g) m ≡ grazed_by sign g m
  unfolding grazed grazed_along ray_from centre_of
  grazed_by_stood Raycast = refl
  grazed_by_stood Normal = refl
