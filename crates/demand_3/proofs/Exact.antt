-- The definitions claim no less than the run does: whatever a pop offers to a cell was held by the cell or a neighbour, and whatever a
-- cell names at the end of seeding has a snapped box that covers the cell. The idea: an entry is queued when its cell names its
-- triangle, and that state is one of the run's. Assumes nothing but what `FairOn` asks of the input.
use Prim.Native.Nat.{ℕ, suc, ◌<◌}
use native.Mathlib.Numerals.{add-one}
use native.Mathlib.Omega.{arith}
use mathlib.Core.Path.{◌≡◌, refl, sym, ◌∙◌, subst}
use mathlib.Core.Logic.{◌⊎◌, inl, inr}
use mathlib.Core.List.{List, ◌∷◌, Memᴰ}
use Rattle.point.specs.declared.Axis.{Axis}
use Rattle.point.specs.declared.Axis.TheVariants.{X, Y, Z}
use Rattle.lists.specs.Turns.{goes}
use Rattle.lists.proofs.Turns.{turns_none, turns_more, turns_keep}
use Rattle.grid.specs.declared.Grid.{Grid}
use Rattle.grid.specs.declared.Cell.{Cell}
use Rattle.grid.specs.Axes.{cell_on}
use Rattle.grid.specs.Index.{index_of, cell_at, total, Inside}
use Rattle.grid.proofs.Laws.{index_of_cell, index_injective, index_below, cell_within}
use Rattle.queue.specs.declared.Entry.{Entry}
use Rattle.run.specs.Run.{RunInput, at, State, Box, named, seeding, taken, spread_around}
use Rattle.run.specs.Good.{Waits, Good}
use Rattle.run.specs.Steps.{step_at, around_cell}
use Rattle.run.proofs.Values.{Fair}
use Rattle.run.proofs.Waiting.{good_taken}
use Rattle.run.proofs.Seeding.{InBox, InBoxOf, seeding_boxed}
use Rattle.run.proofs.Spreading.{turn_of, first_lead, turn_new}
use Rattle.run.proofs.Steps.{Moved, around_lands, Close, shifted_close}
use Rattle.demand_3.specs.States.{first_offers, BeforePop, after_queueing, after_pop, before_pop, in_pop}
use Rattle.demand_3.specs.Offered.{Covers, Held, Near, Offered}
use Rattle.demand_3.proofs.States.{before_pop_good, queueing_all}
use Rattle.demand_3.proofs.Values.{FairOn}

-- ---- an entry that waits was held

module _ (g : RunInput) (F : Fair g) where
  abbrev AllHeld : State → Type 0
  AllHeld s = (x : Entry) → Memᴰ x s.waiting → Held g x.cell x.triangle

  -- in a pop, after the first i offers
  record UpTo (e : Entry) (w : List Entry) (s : State) (i : ℕ) (u : State) : Type 0 where
    pub reached : first_offers g e i (taken w s) ≡ goes u
    pub all_held : AllHeld u

  one_offer : (e : Entry) (w : List Entry) (s : State) → BeforePop g s → s.waiting ≡ e ∷ w → (i : ℕ) (u v : State) → i < 27
      → UpTo e w s i u → turn_of g e i u ≡ goes v → UpTo e w s (suc i) v
  one_offer e w s B q i u v l P h = record { reached = reached; all_held = λ x m. go x (turn_new g F e cl kl i u v good h x m) }
    where
      T : Good g (taken w s) × Waits g s.field e
      T = good_taken g e w s (before_pop_good g F s B) q

      cl : e.cell < g.cells
      cl = T.1.cell_on_lem

      kl : e.triangle < g.triangles
      kl = T.1.triangle_is

      good : Good g u
      good = (first_lead g F e cl kl i (taken w s) u T.0 P.reached).good

      reached : first_offers g e (suc i) (taken w s) ≡ goes v
      reached = rw (← add-one i) (turns_more (turn_of g e) i (taken w s) P.reached ∙ h)

      go : (x : Entry) → Memᴰ x u.waiting ⊎ (named v x.cell ≡ x.triangle) → Held g x.cell x.triangle
      go x (inl m) = P.all_held x m
      go x (inr n) = record { state = v; since = in_pop {j = suc i} B q (omega arith) reached; names = n }

  pop_held : (e : Entry) (w : List Entry) (s t : State) → BeforePop g s → s.waiting ≡ e ∷ w → spread_around g e (taken w s) ≡ goes t → AllHeld s → AllHeld t
  unfolding spread_around
  pop_held e w s t B q h all =
      (turns_keep (turn_of g e) (UpTo e w s) 27 (taken w s) t
      (record { reached = turns_none (turn_of g e) (taken w s); all_held = λ x m. all x (subst (Memᴰ x) (sym q) (Memᴰ.tail m)) })
      (λ i u v l. one_offer e w s B q i u v l)
      h
      ).all_held

  pub waiting_held : (s : State) → BeforePop g s → AllHeld s
  waiting_held t (after_queueing {s} p h) x m =
      record { state = t; since = before_pop (after_queueing p h); names = (queueing_all g F s t p h).names_it_lem x m }
  waiting_held t (after_pop {s} {e = e} {w = w} B q h) x m = pop_held e w s t B q h (waiting_held s B) x m

-- ---- what is offered

in_box_covers : {b : Box} {x y z : ℕ} → InBox b x y z → Covers b (record { x = x; y = y; z = z })
in_box_covers p X = (omega (arith, p.on_x.low), omega (arith, p.on_x.high))
in_box_covers p Y = (omega (arith, p.on_y.low), omega (arith, p.on_y.high))
in_box_covers p Z = (omega (arith, p.on_z.low), omega (arith, p.on_z.high))

module _ (grid : Grid) (g : RunInput) (O : FairOn grid g) where
  -- a step leads to a neighbour
  step_near : (i j : ℕ) (c : Cell) → i < total grid → Inside grid c → around_cell grid i j ≡ at (index_of grid c) → Near c (cell_at grid i)
  step_near i j c l v h a =
      let p = around_lands grid i j (index_of grid c) l h in
      let same : c ≡ Moved (cell_at grid i) (step_at j) = index_injective v p.inside p.is in
      let close = near_moved (cell_at grid i) a in
      rw same (omega (arith, close.above), omega (arith, close.below))
    where
      near_moved : (d : Cell) (a : Axis) → Close (cell_on a d) (cell_on a (Moved d (step_at j)))
      near_moved d X = shifted_close (step_at j).x d.x
      near_moved d Y = shifted_close (step_at j).y d.y
      near_moved d Z = shifted_close (step_at j).z d.z

  -- what a pop offers to a cell was held by the cell or a neighbour
  pub pop_offers : (s : State) (e : Entry) (w : List Entry) (j : ℕ) (c : Cell) → BeforePop g s → s.waiting ≡ e ∷ w → Inside grid c
      → g.around e.cell j ≡ at (index_of grid c) → Offered grid g c e.triangle
  pop_offers s e w j c B q v h =
      record {
        triangle = W.triangle_is;
        how = inr (record {
          holder = cell_at grid e.cell;
          on_grid = cell_within on;
          near = step_near e.cell j c on v (sym (O.around_is e.cell j) ∙ h);
          held = rw (index_of_cell _ _ e.cell) (waiting_held g O.fair s B e first);
        });
      }
    where
      first : Memᴰ e s.waiting
      first = subst (Memᴰ e) (sym q) (Memᴰ.head refl)

      W : Waits g s.field e
      W = (before_pop_good g O.fair s B).waits e first

      on : e.cell < total grid
      on = subst (λ (n : ℕ). e.cell < n) O.cells_are W.cell_on_lem

  -- what a cell names at the end of seeding has a snapped box that covers it
  pub seeding_offers : (s : State) (c : Cell) → Inside grid c → seeding g ≡ goes s → named s (index_of grid c) < g.triangles
      → Covers (g.box (named s (index_of grid c))) c
  seeding_offers s c v h n = subst (Covers (g.box (named s (index_of grid c)))) (sym same) (in_box_covers B.in_box)
    where
      B : InBoxOf g (index_of grid c) (named s (index_of grid c))
      B = seeding_boxed g O.fair (index_of grid c) s (rw O.cells_are (index_below v)) n h

      d : Cell
      d = record { x = B.x; y = B.y; z = B.z }

      inside : Inside grid d
      inside =
          let w = O.boxes_in (named s (index_of grid c)) in
          record {
            x_below = omega (arith, w.x_below, B.in_box.on_x.high);
            y_below = omega (arith, w.y_below, B.in_box.on_y.high);
            z_below = omega (arith, w.z_below, B.in_box.on_z.high);
          }

      same : c ≡ d
      same = index_injective v inside (B.is ∙ O.index_is B.x B.y B.z)
