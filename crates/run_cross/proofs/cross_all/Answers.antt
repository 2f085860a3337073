-- `run_cross::cross_all`: after k triangles each entry is the number of those that cross there (`crates/run_cross_lines/proofs/Hits.antt`), and the total
-- that of the rays that graze them (`crates/run_cross_lines/proofs/Grazing.antt`). Assumes nothing.
use Prim.Native.Nat.{ℕ, ◌+◌}
use native.Mathlib.Omega.{arith}
use mathlib.Core.Path.{◌≡◌, sym, ap, ap₂, ◌∙◌, subst}
use lib.ListN.{length}
use Rattle.grid.specs.declared.Grid.{Grid}
use Rattle.mesh.specs.declared.Corners.{Corners}
use Rattle.mesh.specs.Mesh.{Mesh, mesh_of, triangles_in, corners_at}
use Rattle.run_cross_lines.specs.Pass.{Grown, crossed_by, grazed_by}
use Rattle.run_cross_lines.proofs.Hits.{counted_none, counted_room, counted_more}
use Rattle.run_cross_lines.proofs.Grazing.{grazed_before, triangles_grazed_first, triangles_grazed_more, triangles_grazed_le, grazed_all}
use Rattle.mesh.specs.Lent.{mesh_in}
use Rattle.run_cross.proofs.cross_all.Goals as goal

-- the total with a triangle more
summed : (g : Grid) (m : Mesh) (k : ℕ) {before more : ℕ} {t : Corners} → before ≡ grazed_before g m k → more ≡ grazed_by g t → t ≡ corners_at m k → before + more ≡ grazed_before g m (k + 1)
summed g m k so_far told here = ap₂ ◌+◌ so_far (told ∙ ap (grazed_by g) here) ∙ sym (triangles_grazed_more g m k)

pub loop-k-init : goal.loop-k-init
loop-k-init c =
    let a = c.args in
    let m = mesh_in a.mesh in
    (triangles_grazed_first a.grid m, counted_none a.pass a.grid m a.crossings.now c.requires.crossings_value)

pub cross_triangle-total-requires-clause-room : goal.cross_triangle-total-requires-clause-room
cross_triangle-total-requires-clause-room c =
    let a = c.args in
    let l = c.loop-k in
    let few = c.requires.indices_len_bound in
    counted_room a.pass a.grid (mesh_in a.mesh) l.k l.crossings (omega (arith, c.triangle_count-n.ensures)) l.invariant.1

pub overflow_add-total : goal.overflow_add-total
overflow_add-total c =
    let a = c.args in
    let l = c.loop-k in
    let m = mesh_in a.mesh in
    let few = c.requires.indices_len_bound in
    let more = summed a.grid m l.k l.invariant.0 c.cross_triangle-total.ensures.value c.corners_at-t.ensures in
    omega (arith, more, triangles_grazed_le a.grid m (l.k + 1) c.requires.grid_value, c.triangle_count-n.ensures)

pub loop-k-preserved : goal.loop-k-preserved
loop-k-preserved c =
    let a = c.args in
    let l = c.loop-k in
    let m = mesh_in a.mesh in (
      summed a.grid m l.k l.invariant.0 c.cross_triangle-total.ensures.value c.corners_at-t.ensures,
      counted_more a.pass a.grid m l.k l.invariant.1
          (subst (λ (t : Corners). Grown a.grid (crossed_by a.pass a.grid t) l.crossings c.cross_triangle-total.new.crossings) c.corners_at-t.ensures
          c.cross_triangle-total.ensures.grown),
    )

pub returns-clause-value : goal.returns-clause-value
returns-clause-value c =
    let a = c.args in
    let l = c.loop-k in
    let m = mesh_in a.mesh in
    let all : l.k ≡ length (triangles_in m) = omega (arith, c.triangle_count-n.ensures) in
    l.invariant.0 ∙ ap (grazed_before a.grid m) all ∙ grazed_all a.grid m
