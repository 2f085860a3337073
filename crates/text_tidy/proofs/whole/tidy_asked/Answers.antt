-- `text_tidy::whole::tidy_asked` meets its contract: the buffers are cut to the lengths that the mesh asks for. Assumes nothing.
use mathlib.Core.Path.{refl, sym, ap}
use mathlib.Core.List.{List}
use lib.Ieee.{Float}
use Rattle.lists.proofs.Puts.{said}
use Rattle.text_tidy.specs.Parts.{held_text}
use Rattle.text_tidy.proofs.Lent.{coordinates_cut, explicit_cut, firsts_cut, causes_cut, lent_right}
use Rattle.text_tidy.proofs.whole.tidy_asked.Goals as goal

pub slice_bounds-floats-end : goal.slice_bounds-floats-end
slice_bounds-floats-end c = sym (coordinates_cut c.requires _ c.coordinate_floats-floats_room.ensures)

pub fill-requires : goal.fill-requires
fill-requires c = coordinates_cut c.requires _ c.coordinate_floats-floats_room.ensures

pub slice_bounds-tidy_lent-end : goal.slice_bounds-tidy_lent-end
slice_bounds-tidy_lent-end c = sym (coordinates_cut c.requires _ c.coordinate_floats-coordinates.ensures)

pub slice_bounds-tidy_lent-end-2 : goal.slice_bounds-tidy_lent-end-2
slice_bounds-tidy_lent-end-2 c = sym (explicit_cut c.requires c.triangle_count-triangles.ensures _ c.index_words-explicit.ensures)

pub slice_bounds-tidy_lent-end-3 : goal.slice_bounds-tidy_lent-end-3
slice_bounds-tidy_lent-end-3 c = sym (firsts_cut c.requires _ c.vertex_words-firsts.ensures)

pub slice_bounds-tidy_lent-end-4 : goal.slice_bounds-tidy_lent-end-4
slice_bounds-tidy_lent-end-4 c = sym (causes_cut c.requires c.triangle_count-triangles.ensures _ c.triangle_words-causes.ensures)

pub tidy_lent-requires : goal.tidy_lent-requires
tidy_lent-requires c =
    let count = c.triangle_count-triangles.ensures in
    lent_right c.requires c.fill.ensures _ count _ (coordinates_cut c.requires _ c.coordinate_floats-coordinates.ensures)
    (explicit_cut c.requires count _ c.index_words-explicit.ensures) (firsts_cut c.requires _ c.vertex_words-firsts.ensures)
    (causes_cut c.requires count _ c.triangle_words-causes.ensures)

pub returns : goal.returns
returns c =
    let a = c.args in
    said (ap (λ (floats : List Float). held_text a.asked floats a.indices.now) c.fill.ensures) refl c.tidy_lent.ensures
