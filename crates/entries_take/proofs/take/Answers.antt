-- `entries_take::take`: the last entry's room is cleared, the gap that the first leaves is filled from below, by keys. Those that wait are apart, so by the
-- order with the triples the same is taken. Assumes nothing.
use Prim.Native.Nat.{◌-◌, ◌<◌}
use native.Mathlib.Omega.{arith}
use mathlib.Core.Path.{sym, subst}
use lib.ListN.{length, get_or, set, length-set}
use Rattle.mesh_topology.specs.Topology.{triangles_of, kth}
use Rattle.queue.specs.declared.Entry.{Entry}
use Rattle.queue.specs.Heap.{Gap}
use Rattle.queue.specs.Keys.{by_keys}
use Rattle.queue.specs.Queue.{blank}
use Rattle.queue.proofs.Order.{keys_order}
use Rattle.entries.proofs.Projections.{held_in}
use Rattle.entries_sift.specs.Sift.{Sunk}
use Rattle.entries_take.proofs.Takes.{take_starts, take_ends, by_triples}
use Rattle.entries_take.proofs.take.Goals as goal

pub slice_copy_out-r : goal.slice_copy_out-r
slice_copy_out-r c = omega (arith, held_in c.args.row.now c.args.n c.requires.0)

pub offset_bounds-row-m : goal.offset_bounds-row-m
offset_bounds-row-m c = omega (arith, held_in c.args.row.now c.args.n c.requires.0)

pub slice_copy_out-last : goal.slice_copy_out-last
slice_copy_out-last c = omega (arith, held_in c.args.row.now c.args.n c.requires.0)

pub offset_bounds-row-m-2 : goal.offset_bounds-row-m-2
offset_bounds-row-m-2 c = omega (arith, held_in c.args.row.now c.args.n c.requires.0)

pub bounds-row-m : goal.bounds-row-m
bounds-row-m c = omega (arith, held_in c.args.row.now c.args.n c.requires.0)

pub sift_down-requires : goal.sift_down-requires
sift_down-requires c =
    let row = c.args.row.now in
    let m = c.args.n - 1 in
    subst (λ (b : Entry). (m < length (set row m b)) × Gap by_keys blank m (set row m b) 0) (sym c.none.ensures)
    (omega (arith, held_in row c.args.n c.requires.0, length-set row m blank), take_starts keys_order row row c.args.n c.requires.0 c.requires.1)

pub returns : goal.returns
returns c =
    let row = c.args.row.now in
    let left = c.sift_down.new.row in
    let m = c.args.n - 1 in
    let cleared = subst (λ (b : Entry). Sunk by_keys c.kept-e.result (set row m b) left m) c.none.ensures c.sift_down.ensures in
    let sunk = subst (λ (e : Entry). Sunk by_keys e (set row m blank) left m) c.kept-e.ensures cleared in
    by_triples (kth (triangles_of c.args.topology c.args.given c.args.indices.now c.args.vertices)) (get_or row 0 blank) row left c.args.n c.requires.2
    (take_ends keys_order row left c.args.n c.requires.0 c.requires.1 (omega (arith, length-set row m c.none.result)) sunk)
