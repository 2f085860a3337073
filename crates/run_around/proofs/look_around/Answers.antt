-- `look_around`: what is gathered from the entry's cell, and the squares for its triangle. Assumes nothing.
use mathlib.Core.Path.{refl, sym, ap, ◌∙◌}
use Rattle.grid.specs.Index.{Inside}
use Rattle.grid.proofs.Laws.{cell_within}
use Rattle.geo_closest.specs.Closest.{facet_of}
use Rattle.mesh.specs.declared.Corners.{Corners}
use Rattle.mesh.specs.Mesh.{Mesh, mesh_of}
use Rattle.run_around.proofs.Steps.{gathered_long, looked}
use Rattle.mesh.specs.Lent.{mesh_in}
use Rattle.run_around.proofs.look_around.Goals as goal
use Rattle.run_around.proofs.look_around.Goals.{After-slice_known-4-1, After-zs-1}

abbrev mesh : After-slice_known-4-1 → Mesh
mesh s = mesh_in s.args.mesh

inside : (l : After-zs-1) → Inside l.args.grid l.get_cell_integer_coordinates-cell.result
inside l = rw l.get_cell_integer_coordinates-cell.ensures (cell_within l.requires.known.cell_below)

pub get_cell_integer_coordinates-cell-requires : goal.get_cell_integer_coordinates-cell-requires
get_cell_integer_coordinates-cell-requires c = c.requires.ready.bounded

pub gather-requires : goal.gather-requires
gather-requires c = record { grid_value = (c.requires.ready.bounded, inside c, c.requires.steps_value.0); to_len = (c.requires.steps_value.1, refl, refl, refl) }

pub squares_by-requires : goal.squares_by-requires
squares_by-requires c =
    let l = gathered_long c.gather.ensures in
    (l.1 ∙ sym l.0, l.2 ∙ sym l.0, c.requires.steps_value.2 ∙ sym l.0)

pub returns : goal.returns
returns c =
    looked c.args.grid (mesh c) c.args.sign c.args.e c.requires.ready.bounded c.requires.known
    (c.facet_of-facet.ensures ∙ ap (λ (t : Corners). facet_of t.a t.b t.c) c.corners_at-t.ensures)
    c.get_cell_integer_coordinates-cell.ensures c.gather.ensures c.squares_by.ensures
