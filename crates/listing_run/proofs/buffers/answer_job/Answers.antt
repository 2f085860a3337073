-- `listing_run::buffers::answer_job` meets its contract: the floats stand at the front of their buffer. Assumes nothing.
use Prim.Native.Nat.{ℕ}
use native.Mathlib.Omega.{arith}
use mathlib.Core.Path.{refl, sym, ap, ◌∙◌}
use mathlib.Core.List.{List}
use lib.ListN.{length, drop, length-append, length-map}
use lib.Ieee.{Float, binary32, of_bits}
use Rattle.job_checks.specs.Job.{Job}
use Rattle.text.specs.Limits.{coordinate_room}
use Rattle.float_bits.specs.Patterns.{floats_of}
use Rattle.listing.specs.Listing.{lent_by}
use Rattle.lists.proofs.Puts.{said}
use Rattle.listing_run.specs.Parts.{listed_of, held_job}
use Rattle.listing_run.proofs.Same.{prefix, same_layers, front_of, long_as}
use Rattle.listing_run.proofs.buffers.answer_job.Goals as goal

pub slice_bounds-fill-end : goal.slice_bounds-fill-end
slice_bounds-fill-end c = sym (prefix _ _ coordinate_room c.coordinate_floats-floats.ensures c.requires.coordinates_few)

pub fill-requires : goal.fill-requires
fill-requires c = prefix _ _ coordinate_room c.coordinate_floats-floats.ensures c.requires.coordinates_few

pub slice_bounds-floats-end-2 : goal.slice_bounds-floats-end-2
slice_bounds-floats-end-2 c =
    let behind : List Float = drop (length c.args.bits.now) c.coordinate_floats-floats.result in
    omega (arith, length-append c.fill.new.floats (behind), long_as c.args.bits.now c.fill.ensures)

pub slice_bounds-list_run-end : goal.slice_bounds-list_run-end
slice_bounds-list_run-end c =
    let behind : List Float = drop (length c.args.bits.now) c.coordinate_floats-floats.result in
    let bits = c.args.bits.now in
    sym (ap length (front_of bits (behind) c.fill.ensures) ∙ length-map bits (of_bits binary32))

pub returns : goal.returns
returns c =
    let behind : List Float = drop (length c.args.bits.now) c.coordinate_floats-floats.result in
    let a = c.args in
    let layers = c.rows_of-layers in
    let job : List Float → Job = λ v. held_job a.asked v a.indices.now in
    said
    (ap (λ (v : List Float). listed_of (job v) (lent_by c.cells_of-total.result layers.result a.asked.tail.room)) (front_of a.bits.now (behind) c.fill.ensures)
    ∙ ap (λ (k : ℕ). listed_of (job (floats_of a.bits.now)) (lent_by k layers.result a.asked.tail.room)) c.cells_of-total.ensures
    ∙ same_layers (job (floats_of a.bits.now)) layers.result a.asked.tail.room c.requires.cells_few layers.ensures.1)
    refl
    c.list_run.ensures
