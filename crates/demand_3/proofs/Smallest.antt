-- The entry with the smallest distance is taken. What waits is in order in every state before a pop: it starts empty, an entry is put in
-- at its place, and the first is taken out. So the first goes no later than any other; and waiting entries hold keys of distances, which
-- order by magnitude and then by sign. Assumes nothing.
use Prim.Native.Nat.{ℕ, ◌≤◌, ◌<◌}
use native.Mathlib.Omega.{arith}
use mathlib.Core.Path.{◌≡◌, refl, sym, ◌∙◌, subst}
use mathlib.Core.Bool.{true}
use mathlib.Core.List.{Memᴰ}
use lib.ListN.{length}
use Rattle.float_order.specs.Nearer.{key_of}
use Rattle.float_order.specs.Total.{Value}
use Rattle.float_order.proofs.Keys.{key_magnitude, key_positive, key_level}
use Rattle.lists.specs.Turns.{goes}
use Rattle.lists.proofs.Turns.{turns_keep}
use Rattle.lists.proofs.Made.{goes_same}
use Rattle.queue.specs.declared.Entry.{Entry}
use Rattle.queue.specs.InOrder.{Total}
use Rattle.queue.specs.Keys.{Apart}
use Rattle.queue.proofs.Meaning.{Sorted, sorted_insert, after_member}
use Rattle.queue.proofs.Order.{order_of_lem, nearer_first, larger_cell_first}
use Rattle.mesh_topology.specs.Topology.{triangles_of, kth}
use Rattle.mesh.specs.Mesh.{vertex_count}
use Rattle.run.specs.Run.{RunInput, Place, off, at, State, taken, queue, queue_cell, queueing, spread_to, spread_around}
use Rattle.run.specs.Input.{run_input}
use Rattle.run.proofs.Values.{Fair, distance_at}
use Rattle.run.proofs.Offers.{Offer, passes, takes_it, offer_went, Queued, queue_went, QueuedCell, not_below, below, queue_cell_went}
use Rattle.run.specs.Good.{Waits, Good}
use Rattle.run.proofs.Inputs.{fair_input}
use Rattle.run.proofs.Seeding.{seeding_empty}
use Rattle.run.proofs.Spreading.{turn_of}
use Rattle.job_checks.specs.Job.{Job, Lent}
use Rattle.job_checks.specs.Refusals.{refusal}
use Rattle.demand_3.specs.States.{BeforePop, after_queueing, after_pop}
use Rattle.demand_3.specs.Demand3.{input_for}
use Rattle.demand_3.specs.Smallest.{distance_of, SmallestTaken}
use Rattle.demand_3.proofs.States.{before_pop_good}
use Rattle.demand_3.proofs.Theorem.{checks_passed}

-- the order of the entries is that of document 01
pub record Ordered (g : RunInput) : Type 0 where
  pub total : Total g.goes_first
  pub nearer : (x y : Entry) → g.goes_first x y ≡ true → x.distance ≤ y.distance
  pub larger_cell : (x y : Entry) → g.goes_first x y ≡ true → x.distance ≡ y.distance → y.cell ≤ x.cell

module _ (g : RunInput) (F : Fair g) (O : Ordered g) where
  -- ---- what waits is in order

  abbrev InOrder : State → Type 0
  InOrder s = Sorted g.goes_first s.waiting

  queued_in_order : (e : Entry) (s t : State) → InOrder s → Queued g e s t → InOrder t
  queued_in_order e s t S Q = subst InOrder (sym Q.is) (sorted_insert O.total e s.waiting S)

  cell_in_order : (c : ℕ) (s t : State) → InOrder s → queue_cell g c s ≡ goes t → InOrder t
  cell_in_order c s t S h = go (queue_cell_went g c s t h)
    where
      go : QueuedCell g c s t → InOrder t
      go (not_below b e) = subst InOrder (sym e) S
      go (below b Q) = queued_in_order _ s t S Q

  turn_in_order : (e : Entry) (j : ℕ) (s t : State) → InOrder s → turn_of g e j s ≡ goes t → InOrder t
  unfolding spread_to
  turn_in_order e j s t S h = to (g.around e.cell j) h
    where
      offered : {c : ℕ} → Offer (queue g) e.triangle c (g.distance e.triangle c) s t → InOrder t
      offered (passes n l q) = subst InOrder (sym q) S
      offered (takes_it n l w) = queued_in_order _ _ t S (queue_went g _ _ t w)

      to : (p : Place) → spread_to g e p s ≡ goes t → InOrder t
      to off w = subst InOrder (goes_same w) S
      to (at c) w = offered (offer_went g (queue g) e.triangle c s t w)

  pub before_pop_in_order : (s : State) → BeforePop g s → InOrder s
  unfolding queueing spread_around
  before_pop_in_order t (after_queueing {s} p h) =
      turns_keep (queue_cell g) (λ i u. InOrder u) g.cells s t
      (subst (Sorted g.goes_first) (sym (seeding_empty g F s p)) tt)
      (λ i u v l. cell_in_order i u v)
      h
  before_pop_in_order t (after_pop {s} {e = e} {w = w} B q h) =
      turns_keep (turn_of g e) (λ i u. InOrder u) 27 (taken w s) t
      (subst (Sorted g.goes_first) q (before_pop_in_order s B)).1
      (λ i u v l. turn_in_order e i u v)
      h

  -- ---- so the first has the smallest key, and keys order by magnitude, then positive first

  pub taken_smallest : SmallestTaken g
  taken_smallest s e w B q =
      record {
        is_key = first.far;
        at_most_each = λ x m. key_magnitude distance_e (distance_x x m) (keys x m);
        positive_first_lem = λ x m. key_positive distance_e (distance_x x m) (keys x m);
        larger_cell = λ x m t u. larger x m (first.far ∙ key_level distance_e (distance_x x m) t u ∙ sym (other x m).far);
      }
    where
      G : Good g s
      G = before_pop_good g F s B

      first : Waits g s.field e
      first = G.waits e (subst (Memᴰ e) (sym q) (Memᴰ.head refl))

      other : (x : Entry) → Memᴰ x w → Waits g s.field x
      other x m = G.waits x (subst (Memᴰ x) (sym q) (Memᴰ.tail m))

      distance_e : Value
      distance_e = distance_at g F e.triangle e.cell first.number

      distance_x : (x : Entry) → Memᴰ x w → Value
      distance_x x m = distance_at g F x.triangle x.cell (other x m).number

      before : (x : Entry) → Memᴰ x w → g.goes_first e x ≡ true
      before x m = after_member O.total e x w (subst (Sorted g.goes_first) q (before_pop_in_order s B)).0 m

      keys : (x : Entry) → Memᴰ x w → key_of (distance_of g e) ≤ key_of (distance_of g x)
      keys x m = omega (arith, O.nearer e x (before x m), first.far, (other x m).far)

      larger : (x : Entry) → Memᴰ x w → e.distance ≡ x.distance → x.cell < e.cell
      larger x m d =
          let apart = (subst Apart q G.apart).0 x m d in
          let at_most = O.larger_cell e x (before x m) d in
          omega arith

-- ---- of every job that comes to its run

order_on : (j : Job) (b : Lent) → Ordered (input_for j b)
unfolding run_input
order_on j b =
    let m = j.mesh in
    let count = vertex_count m.vertices in
    let corners = kth (triangles_of m.topology m.given m.indices count) in
    record {
      total = order_of_lem m.topology m.given m.indices count;
      nearer = nearer_first corners;
      larger_cell = larger_cell_first corners;
    }

pub smallest_taken : (j : Job) (b : Lent) → refusal j b ≡ 0 → SmallestTaken (input_for j b)
smallest_taken j b h =
    let p = checks_passed j b h in
    taken_smallest (input_for j b) (fair_input j.grid j.mesh j.sign (length b.distances) j.limit p.some p.few) (order_on j b)
