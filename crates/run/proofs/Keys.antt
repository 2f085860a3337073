-- The triple never decides in a run: from a good state every turn comes to the same where entries go by what lies in them alone. A turn
-- uses the order only where it queues an entry, and a new entry differs in distance or cell from all that wait. Assumes nothing but what
-- `Fair` asks of the input, and that its order goes by distance and cell first.
use Prim.Native.Nat.{ℕ, zero, suc, ◌+◌, ◌<◌, max}
use mathlib.Core.Path.{◌≡◌, refl, ap, ◌∙◌}
use mathlib.Core.Bool.{Bool, true, false, cond}
use mathlib.Core.List.{List, [], ◌∷◌}
use lib.Dec.{ltb}
use lib.ListN.{length}
use lib.Ieee.{Float, is_nan}
use Rattle.float.specs.Arith.{◌≺◌, f_max}
use Rattle.float_order.specs.Nearer.{nearer}
use Rattle.lists.specs.Turns.{Turn, goes, refuses, and_then}
use Rattle.lists.proofs.Turns.{then_alike, turns_alike}
use Rattle.queue.specs.declared.Entry.{Entry}
use Rattle.queue.specs.Keys.{by_keys}
use Rattle.queue.proofs.Keys.{FromAll, Agree, same_insert}
use Rattle.run.specs.Run.{RunInput, Place, off, at, State, held, named, entry, takes, offer_at, offer, seed_line, seed_plane, seed_triangle, seeding, queue, queue_cell, queueing, spread_to, spread_around, taken, take_first, spreading, run}
use Rattle.run.specs.Good.{Good}
use Rattle.run.specs.Keys.{keyed}
use Rattle.run.proofs.Values.{Fair}
use Rattle.run.proofs.Waiting.{good_taken, new_differs as new-offered-differs}
use Rattle.run.proofs.Seeding.{seeding_good, seeding_empty}
use Rattle.run.proofs.Queueing.{QueuedTo, none_queued, cell_queued, new_differs, queueing_to}
use Rattle.run.proofs.Spreading.{turn_of, turn_leads, around_leads}

module _ (g : RunInput) (F : Fair g) (agree : Agree g.goes_first by_keys) where
  -- an entry that differs from all that wait is queued
  same_queue : (e : Entry) (s : State) → FromAll e s.waiting → queue g e s ≡ queue (keyed g) e s
  unfolding queue
  same_queue e s d =
      ap (λ (w : List Entry). cond (ltb (length s.waiting) g.room)
      (goes (record { field = s.field; names = s.names; waiting = w; pops = s.pops; peak = max s.peak (length s.waiting + 1) })) (refuses 7))
      (same_insert agree e s.waiting d)

  -- ---- an offer
  same_offer : (k c : ℕ) → k < g.triangles → c < g.cells → (s : State) → Good g s → offer g (queue g) k c s ≡ offer (keyed g) (queue (keyed g)) k c s
  unfolding offer offer_at
  same_offer k c kl cl s G = number (is_nan d) refl
    where
      d : Float
      d = g.distance k c

      taken : (also : Entry → State → Turn State) → Turn State
      taken also = also (entry d c k) (takes c k d s)

      less : is_nan d ≡ false → (b : Bool) → nearer d (held s c) ≡ b → cond b (taken (queue g)) (goes s) ≡ cond b (taken (queue (keyed g))) (goes s)
      less n true l = same_queue (entry d c k) (takes c k d s) (new-offered-differs g F k c kl cl s G (record { number = n; less = l }))
      less n false l = refl

      number : (b : Bool) → is_nan d ≡ b → cond b (refuses 6) (cond (nearer d (held s c)) (taken (queue g)) (goes s)) ≡ cond b (refuses 6) (cond (nearer d (held s c)) (taken (queue (keyed g))) (goes s))
      number true n = refl
      number false n = less n (nearer d (held s c)) refl

  -- ---- the offers of an entry that is taken
  module _ (e : Entry) (cl : e.cell < g.cells) (kl : e.triangle < g.triangles) where
    same_turn : (j : ℕ) (s : State) → Good g s → turn_of g e j s ≡ turn_of (keyed g) e j s
    unfolding spread_to
    same_turn j s G = go (g.around e.cell j) refl
      where
        go : (p : Place) → g.around e.cell j ≡ p → spread_to g e p s ≡ spread_to (keyed g) e p s
        go off q = refl
        go (at d) q = same_offer e.triangle d kl (F.steps_on e.cell j d cl q) s G

    pub same_around : (s : State) → Good g s → spread_around g e s ≡ spread_around (keyed g) e s
    unfolding spread_around
    same_around s G =
        turns_alike (λ j t. Good g t) (turn_of g e) (turn_of (keyed g) e) 27 s G
        (λ j u v l U h. (turn_leads g F e cl kl j u v h U).good) (λ j t l T. same_turn j t T)

  -- ---- the cells, where nothing waits
  module _ (s : State) where
    same_cell : (i : ℕ) (u : State) → i < g.cells → QueuedTo g s i u → queue_cell g i u ≡ queue_cell (keyed g) i u
    unfolding queue_cell
    same_cell i u il P = go (held u i ≺ f_max) refl
      where
        new : Entry
        new = entry (held u i) i (named u i)

        go : (b : Bool) → (held u i ≺ f_max) ≡ b → cond b (queue g new u) (goes u) ≡ cond b (queue (keyed g) new u) (goes u)
        go true b = same_queue new u (new_differs g F s i u il P b)
        go false b = refl

    pub same_queueing : Good g s → s.waiting ≡ [] → queueing g s ≡ queueing (keyed g) s
    unfolding queueing
    same_queueing G e =
        turns_alike (QueuedTo g s) (queue_cell g) (queue_cell (keyed g)) g.cells s (none_queued g F s G e)
        (λ i u v l P h. cell_queued g F s i u v l P h) (λ i t l P. same_cell i t l P)

  -- ---- to the end of the run

  same_spreading : (left : ℕ) (s : State) → Good g s → spreading g left s ≡ spreading (keyed g) left s
  unfolding spreading take_first
  same_spreading zero s G = refl
  same_spreading (suc left) s G = pop (same_spreading left) s.waiting refl
    where
      pop : ((t : State) → Good g t → spreading g left t ≡ spreading (keyed g) left t)
          → (w : List Entry) → s.waiting ≡ w → take_first g (spreading g left) w s ≡ take_first (keyed g) (spreading (keyed g) left) w s
      pop later [] q = refl
      pop later (e ∷ w) q =
          let T = good_taken g e w s G q in
          then_alike (spread_around g e (taken w s)) (spreading g left) (spreading (keyed g) left)
          (λ t h. later t (around_leads g F e T.1.cell_on_lem T.1.triangle_is (taken w s) t T.0 h).good)
          ∙ ap (λ o. and_then o (spreading (keyed g) left)) (same_around e T.1.cell_on_lem T.1.triangle_is (taken w s) T.0)

  -- the whole run comes to the same
  pub never_decides : run g ≡ run (keyed g)
  unfolding run seeding seed_triangle seed_plane seed_line offer
  never_decides =
      then_alike (seeding g) (λ s. and_then (queueing g s) (spreading g g.limit)) (λ s. and_then (queueing (keyed g) s) (spreading (keyed g) g.limit))
      (λ s h.
      let G = seeding_good g F s h in
      let none = seeding_empty g F s h in
      then_alike (queueing g s) (spreading g g.limit) (spreading (keyed g) g.limit)
      (λ t w. same_spreading g.limit t (queueing_to g F s t G none w).good)
      ∙ ap (λ o. and_then o (spreading (keyed g) g.limit)) (same_queueing s G none))
