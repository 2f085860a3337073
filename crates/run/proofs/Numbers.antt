-- Which numbers a run refuses by: seeding by 6, queueing by 7, spreading by 6, 7 and 8, over any set that has these. Each step is read
-- off its definition. Assumes nothing.
use Prim.Native.Nat.{ℕ, zero, suc, ◌+◌}
use mathlib.Core.List.{List, [], ◌∷◌}
use lib.Dec.{ltb}
use lib.ListN.{length}
use lib.Ieee.{is_nan}
use Rattle.float.specs.Arith.{◌≺◌, f_max}
use Rattle.float_order.specs.Nearer.{nearer}
use Rattle.lists.specs.Turns.{Turn, goes, refuses, and_then}
use Rattle.lists.specs.OnlyBy.{OnlyBy}
use Rattle.lists.proofs.OnlyBy.{only_if, only_then, only_turns, only_between}
use Rattle.queue.specs.declared.Entry.{Entry}
use Rattle.run.specs.Run.{RunInput, Place, off, at, State, at_first, held, named, entry, takes, offer_at, offer, nothing_else, seed_line, seed_plane, seed_triangle, seeding, queued, queue, queue_cell, queueing, spread_to, spread_around, taken, take_first, limit_reached, spreading, run}

module _ (set : ℕ → Type 0) (g : RunInput) where
  -- 6 at each distance, and what else a cell does that takes the triangle
  offer_by : set 6 → (also : Entry → State → Turn State) → ((e : Entry) (s : State) → OnlyBy set (also e s))
      → (k c : ℕ) (s : State) → OnlyBy set (offer g also k c s)
  unfolding offer offer_at
  offer_by six also h k c s =
      let d = g.distance k c in
      only_if set (is_nan d) (refuses 6) _ six
      (only_if set (nearer d (held s c)) (also (entry d c k) (takes c k d s)) (goes s) (h (entry d c k) (takes c k d s)) tt)

  pub seeding_by : set 6 → OnlyBy set (seeding g)
  unfolding seeding seed_triangle seed_plane seed_line
  seeding_by six =
      only_turns set (seed_triangle g) g.triangles (at_first g.cells)
      (λ k s. only_between set (λ x. seed_plane g k x) (g.box k).low.x ((g.box k).high.x + 1) s
      (λ x t. only_between set (λ y. seed_line g k x y) (g.box k).low.y ((g.box k).high.y + 1) t
      (λ y u. only_between set (λ z. offer g nothing_else k (g.index x y z)) (g.box k).low.z ((g.box k).high.z + 1) u
      (λ z. offer_by six nothing_else (λ e v. tt) k (g.index x y z)))))

  -- 7 at each queueing
  queue_by : set 7 → (e : Entry) (s : State) → OnlyBy set (queue g e s)
  unfolding queue
  queue_by seven e s = only_if set (ltb (length s.waiting) g.room) (goes (queued g e s)) (refuses 7) tt seven

  pub queueing_by : set 7 → (s : State) → OnlyBy set (queueing g s)
  unfolding queueing queue_cell
  queueing_by seven s =
      only_turns set (queue_cell g) g.cells s
      (λ c t. only_if set (held t c ≺ f_max) (queue g (entry (held t c) c (named t c)) t) (goes t) (queue_by seven (entry (held t c) c (named t c)) t) tt)

  module _ (six : set 6) (seven : set 7) where
    around_by : (e : Entry) (s : State) → OnlyBy set (spread_around g e s)
    unfolding spread_around spread_to
    around_by e s = only_turns set (λ j. spread_to g e (g.around e.cell j)) 27 s (λ j. to (g.around e.cell j))
      where
        to : (p : Place) (t : State) → OnlyBy set (spread_to g e p t)
        to off t = tt
        to (at c) t = offer_by six (queue g) (queue_by seven) e.triangle c t

    -- 8 before each pop
    pub spreading_by : set 8 → (left : ℕ) (s : State) → OnlyBy set (spreading g left s)
    unfolding spreading take_first limit_reached
    spreading_by eight zero s = stop s.waiting
      where
        stop : (w : List Entry) → OnlyBy set (limit_reached w s)
        stop [] = tt
        stop (e ∷ w) = eight
    spreading_by eight (suc left) s = first (spreading_by eight left) s.waiting
      where
        first : ((t : State) → OnlyBy set (spreading g left t)) → (w : List Entry) → OnlyBy set (take_first g (spreading g left) w s)
        first on [] = tt
        first on (e ∷ w) = only_then set (spread_around g e (taken w s)) (spreading g left) (around_by e (taken w s)) on

    pub run_by : set 8 → OnlyBy set (run g)
    unfolding run
    run_by eight =
        only_then set (seeding g) (λ s. and_then (queueing g s) (spreading g g.limit)) (seeding_by six)
        (λ s. only_then set (queueing g s) (spreading g g.limit) (queueing_by seven s) (spreading_by eight g.limit))
