-- The signs from lent counts are those of the run, where the counts are the run's: the three counts of cell c are entries 3c, 3c + 1
-- and 3c + 2. Assumes nothing.
use Prim.Native.Nat.{ℕ, ◌+◌, ◌*◌, ◌/◌, ◌%◌, ◌<◌}
use native.Mathlib.Omega.{arith}
use mathlib.Core.Path.{◌≡◌, ◌∙◌}
use mathlib.Core.List.{List}
use lib.ListN.{length, get_or}
use lib.Ieee.{Float}
use Rattle.point.specs.declared.Axis.TheVariants.{X, Y, Z}
use Rattle.grid.specs.declared.Grid.{Grid}
use Rattle.grid.specs.Index.{cell_at, total}
use Rattle.lists.proofs.Table.{table_at, table_same}
use Rattle.mesh.specs.Mesh.{Mesh}
use Rattle.run.specs.Signs.{crossings, crossings_at, all_crossings, inside, signed, signed_field}
use Rattle.run_signs.specs.Sign.{signed_at, signed_by}

-- the count of cell c for each axis
module _ (g : Grid) (m : Mesh) (c : ℕ) (h : c < total g) where
  count_x : get_or (all_crossings g m) (3 * c) 0 ≡ crossings g m X (cell_at g c)
  unfolding all_crossings crossings_at
  count_x =
      let e : 3 * c / 3 ≡ c = omega arith in
      let r : 3 * c % 3 ≡ 0 = omega arith in
      table_at (crossings_at g m) (3 * total g) (3 * c) 0 (omega arith) ∙ rw (r, e)

  count_y : get_or (all_crossings g m) (3 * c + 1) 0 ≡ crossings g m Y (cell_at g c)
  unfolding all_crossings crossings_at
  count_y =
      let e : (3 * c + 1) / 3 ≡ c = omega arith in
      let r : (3 * c + 1) % 3 ≡ 1 = omega arith in
      table_at (crossings_at g m) (3 * total g) (3 * c + 1) 0 (omega arith) ∙ rw (r, e)

  count_z : get_or (all_crossings g m) (3 * c + 2) 0 ≡ crossings g m Z (cell_at g c)
  unfolding all_crossings crossings_at
  count_z =
      let e : (3 * c + 2) / 3 ≡ c = omega arith in
      let r : (3 * c + 2) % 3 ≡ 2 = omega arith in
      table_at (crossings_at g m) (3 * total g) (3 * c + 2) 0 (omega arith) ∙ rw (r, e)

pub signs_are : (g : Grid) (m : Mesh) (field : List Float) → length field ≡ total g → signed_by (all_crossings g m) field ≡ signed_field g m field
unfolding signed_by signed_field signed inside
signs_are g m field e =
    rw e (table_same (signed_at (all_crossings g m) field) (signed g m field) (total g) (λ c h. rw (count_x g m c h, count_y g m c h, count_z g m c h)))
