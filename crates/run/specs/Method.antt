-- What follows the run, by the method of the signs. Raycast: the rays (Signs, Grazed). Normal: "no rays, crossings left zero" (document 02, §8), and
-- the field is what the run left: each distance has its sign already. Definitions only.
use Rattle.std.specs.Prelude.{ℕ, ◌*◌, List, replicate, Float}
use Rattle.terms.specs.declared.SignMethod.{SignMethod}
use Rattle.terms.specs.declared.SignMethod.TheVariants.{Raycast, Normal}
use Rattle.grid.specs.declared.Grid.{Grid}
use Rattle.grid.specs.Index.{total}
use Rattle.mesh.specs.Mesh.{Mesh}
use Rattle.run.specs.Signs.{signed_field, all_crossings}
use Rattle.run.specs.Grazed.{grazed}

abbrev pub field_by : SignMethod → Grid → Mesh → List Float → List Float
field_by Raycast g m field = signed_field g m field
field_by Normal g m field = field

abbrev pub crossings_by : SignMethod → Grid → Mesh → List ℕ
crossings_by Raycast g m = all_crossings g m
crossings_by Normal g m = replicate (3 * total g) 0

abbrev pub grazed_by : SignMethod → Grid → Mesh → ℕ
grazed_by Raycast g m = grazed g m
grazed_by Normal g m = 0
