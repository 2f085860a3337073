-- `queue_take::take` meets its contract: by keys the root goes first, and the last is sifted down from its place. Those that wait differ in
-- distance or cell, so what goes first by keys goes first by all three. Assumes nothing.
use native.Mathlib.Omega.{arith}
use Prim.Native.Nat.{◌≤◌}
use mathlib.Core.List.{List}
use lib.ListN.{length}
use Rattle.queue.specs.declared.Entry.{Entry}
use Rattle.queue.specs.Queue.{blank, entries}
use Rattle.queue.proofs.Order.{keys_order}
use Rattle.queue.proofs.Keys.{agree_back, by_keys_lem, taken_by}
use Rattle.queue.proofs.Flat.{Lens, unmoved, more, still_even, held_fit, flat_taken}
use Rattle.queue.proofs.Moves.{lowered, taken_some, taken_none}
use Rattle.queue_take.proofs.take.Goals as goal

pub load-r-requires : goal.load-r-requires
load-r-requires c =
    let fits : (let a = c.args in
    (a.n ≤ length a.distances.now) × (a.n ≤ length a.cells.now) × (a.n ≤ length a.triangles.now)) =
    let even = c.requires.held.even in
    let held = held_fit c.args.distances.now c.args.cells.now c.args.triangles.now c.requires.held in
    (held, omega arith, omega arith) in
    omega (arith, fits)

pub load-e-requires : goal.load-e-requires
load-e-requires c =
    let fits : (let a = c.args in
    (a.n ≤ length a.distances.now) × (a.n ≤ length a.cells.now) × (a.n ≤ length a.triangles.now)) =
    let even = c.requires.held.even in
    let held = held_fit c.args.distances.now c.args.cells.now c.args.triangles.now c.requires.held in
    (held, omega arith, omega arith) in
    omega (arith, fits)

pub store-requires : goal.store-requires
store-requires c =
    let fits : (let a = c.args in
    (a.n ≤ length a.distances.now) × (a.n ≤ length a.cells.now) × (a.n ≤ length a.triangles.now)) =
    let even = c.requires.held.even in
    let held = held_fit c.args.distances.now c.args.cells.now c.args.triangles.now c.requires.held in
    (held, omega arith, omega arith) in
    omega (arith, fits)

pub sift_down-requires : goal.sift_down-requires
sift_down-requires c =
    let q : List Entry = entries c.args.distances.now c.args.cells.now c.args.triangles.now in
    let fits : (let a = c.args in
    (a.n ≤ length a.distances.now) × (a.n ≤ length a.cells.now) × (a.n ≤ length a.triangles.now)) =
    let even = c.requires.held.even in
    let held = held_fit c.args.distances.now c.args.cells.now c.args.triangles.now c.requires.held in
    (held, omega arith, omega arith) in
    let cleared_long : (let a = c.args in Lens a.distances.now a.cells.now a.triangles.now c.store.new.distances c.store.new.cells c.store.new.triangles) = more (unmoved c.requires.held.even) (c.store.auto.distances, (c.store.auto.cells, (c.store.auto.triangles))) in
    let gap = lowered keys_order blank (q) _ _ c.requires.n_nonzero c.requires.held.keeps.heap c.store.ensures in record { even = still_even (cleared_long); m_nonzero = omega (arith, fits); gap = gap }

-- some are left: the last has been sifted down
pub returns-then-m-gt0 : goal.returns-then-m-gt0
returns-then-m-gt0 c =
    let q : List Entry = entries c.args.distances.now c.args.cells.now c.args.triangles.now in
    let cleared_long : (let a = c.args in Lens a.distances.now a.cells.now a.triangles.now c.store.new.distances c.store.new.cells c.store.new.triangles) = more (unmoved c.requires.held.even) (c.store.auto.distances, (c.store.auto.cells, (c.store.auto.triangles))) in
    let held = c.requires.held in
    -- what is taken by keys is taken by the order of the mesh
    taken_by (agree_back (by_keys_lem _)) _ _ _ _ _ _ _ _ c.requires.fact
    (flat_taken _ _ _ _ _ _ (more (cleared_long) (c.sift_down.auto.distances, (c.sift_down.auto.cells, (c.sift_down.auto.triangles))))
    (λ long. taken_some keys_order blank _ _ (q) _ _ _ held.keeps c.requires.n_nonzero (omega (arith, c.if-m-gt0.true)) long
    c.load-r.ensures c.load-e.ensures c.store.ensures c.sift_down.ensures))

-- none is left
pub returns-else-m-gt0 : goal.returns-else-m-gt0
returns-else-m-gt0 c =
    let q : List Entry = entries c.args.distances.now c.args.cells.now c.args.triangles.now in
    let cleared_long : (let a = c.args in Lens a.distances.now a.cells.now a.triangles.now c.store.new.distances c.store.new.cells c.store.new.triangles) = more (unmoved c.requires.held.even) (c.store.auto.distances, (c.store.auto.cells, (c.store.auto.triangles))) in
    let held = c.requires.held in
    -- what is taken by keys is taken by the order of the mesh
    taken_by (agree_back (by_keys_lem _)) _ _ _ _ _ _ _ _ c.requires.fact
    (flat_taken _ _ _ _ _ _ (cleared_long)
    (λ long. taken_none keys_order blank _ (q) _ _ held.keeps c.requires.n_nonzero (omega (arith, c.if-m-gt0.false)) long
    c.load-r.ensures c.store.ensures))
