-- Spreading. An entry that is taken is offered to all the cells around, no later offer raises a value, and an entry that waits is
-- taken before the run ends: so at the end every cell around a waiting entry has met its triangle. Assumes nothing but what `Fair`
-- asks of the input.
use Prim.Native.Nat.{ℕ, zero, suc, ◌+◌, ◌≤◌, ◌<◌}
use native.Mathlib.Omega.{arith}
use mathlib.Core.Path.{◌≡◌, refl, sym, subst}
use mathlib.Core.Logic.{◌⊎◌, inl, inr}
use mathlib.Core.List.Memᴰ
use mathlib.Core.List.{List, [], ◌∷◌, Memᴰ}
use Rattle.lists.specs.Turns.{Turn, goes, turns}
use Rattle.lists.proofs.Turns.{then_went}
use Rattle.lists.proofs.Made.{goes_same, turns_lead, turns_rest, turns_made}
use Rattle.queue.specs.declared.Entry.{Entry}
use Rattle.run.specs.Run.{RunInput, Place, off, at, State, named, taken, take_first, spread_to, spread_around, spreading}
use Rattle.run.specs.Good.{Falls, Waits, Good}
use Rattle.run.proofs.Values.{Fair, Met, met_on}
use Rattle.run.proofs.Offers.{Spread, over, pops, spreading_went}
use Rattle.run.proofs.Waiting.{good_taken, Onward, onward_stays, onward_on, after_offer}

-- the turns of an entry that is taken
abbrev pub turn_of : RunInput → Entry → ℕ → State → Turn State
turn_of g e j = spread_to g e (g.around e.cell j)

-- a good state leads to a good state
pub record Led (g : RunInput) (s t : State) : Type 0 where
  pub good : Good g t
  pub onward : Onward g s t

abbrev Leads : RunInput → State → State → Type 0
Leads g s t = Good g s → Led g s t

stays : (g : RunInput) (s : State) → Leads g s s
stays g s G = record { good = G; onward = onward_stays g s }

on : (g : RunInput) (s t u : State) → Leads g s t → Leads g t u → Leads g s u
on g s t u p q G =
    let a = p G in
    let b = q a.good in
    record { good = b.good; onward = onward_on g s t u a.onward b.onward }

-- every cell around c has met triangle k
abbrev pub Served : RunInput → State → ℕ → ℕ → Type 0
Served g s c k = (j d : ℕ) → j < 27 → g.around c j ≡ at d → Met g s.field k d

module _ (g : RunInput) (F : Fair g) where
  pub served_on : (s t : State) (c k : ℕ) → c < g.cells → Falls g s.field t.field → Served g s c k → Served g t c k
  served_on s t c k l f p j d m e = met_on g s.field t.field k d (F.steps_on c j d l e) f (p j d m e)

  -- ---- one entry
  module _ (e : Entry) (cl : e.cell < g.cells) (kl : e.triangle < g.triangles) where
    pub turn_leads : (j : ℕ) (s t : State) → turn_of g e j s ≡ goes t → Leads g s t
    unfolding spread_to
    turn_leads j s t h G = go (g.around e.cell j) refl h
      where
        go : (p : Place) → g.around e.cell j ≡ p → spread_to g e p s ≡ goes t → Led g s t
        go off q w = rw (← goes_same w) (stays g s G)
        go (at d) q w =
            let o = after_offer g F e.triangle d kl (F.steps_on e.cell j d cl q) s G t w in
            record { good = o.good; onward = o.onward }

    turn_meets : (j d : ℕ) (s t : State) → g.around e.cell j ≡ at d → Good g s → turn_of g e j s ≡ goes t → Met g t.field e.triangle d
    unfolding spread_to
    turn_meets j d s t q G h =
        (after_offer g F e.triangle d kl (F.steps_on e.cell j d cl q) s G t (subst (λ (p : Place). spread_to g e p s ≡ goes t) q h)).met

    -- an entry that waits after a turn was there, or its cell names its triangle
    pub turn_new : (j : ℕ) (s t : State) → Good g s → turn_of g e j s ≡ goes t → (x : Entry) → Memᴰ x t.waiting
        → Memᴰ x s.waiting ⊎ (named t x.cell ≡ x.triangle)
    unfolding spread_to
    turn_new j s t G h x m = go (g.around e.cell j) refl h
      where
        go : (p : Place) → g.around e.cell j ≡ p → spread_to g e p s ≡ goes t → Memᴰ x s.waiting ⊎ (named t x.cell ≡ x.triangle)
        go off q w = inl (subst (λ (u : State). Memᴰ x u.waiting) (sym (goes_same w)) m)
        go (at d) q w = (after_offer g F e.triangle d kl (F.steps_on e.cell j d cl q) s G t w).new x m

    pub first_lead : (j : ℕ) (s t : State) → Good g s → turns (turn_of g e) j s ≡ goes t → Led g s t
    first_lead j s t G h = turns_lead (Leads g) (stays g) (on g) (turn_of g e) j s t (λ i u v l. turn_leads i u v) h G

    -- from the state after j of the offers to that after all
    pub rest_lead : (j : ℕ) (s u t : State) → j ≤ 27 → Good g u → turns (turn_of g e) j s ≡ goes u → spread_around g e s ≡ goes t → Led g u t
    unfolding spread_around
    rest_lead j s u t l G p h = turns_rest (Leads g) (stays g) (on g) (turn_of g e) j _ s u t (omega arith) (λ i a b m. turn_leads i a b) p h G

    pub around_leads : (s t : State) → Good g s → spread_around g e s ≡ goes t → Led g s t
    unfolding spread_around
    around_leads s t G h = first_lead _ s t G h

    pub around_serves : (s t : State) → Good g s → spread_around g e s ≡ goes t → Served g t e.cell e.triangle
    unfolding spread_around
    around_serves s t G h j d l q =
        let p = turns_made (Leads g) (stays g) (on g) (turn_of g e) j _ s t (omega arith) (λ i u v m. turn_leads i u v) h in
        let a = p.led G in
        let b = turn_leads j p.before p.after p.turn a.good in
        met_on g p.after.field t.field e.triangle d (F.steps_on e.cell j d cl q) (p.leads b.good).onward.falls
        (turn_meets j d p.before p.after q a.good p.turn)

  -- a pop keeps a state good
  pub pop_good : (w : List Entry) (s t : State) → Good g s → s.waiting ≡ w → take_first g goes w s ≡ goes t → Good g t
  unfolding take_first
  pop_good [] s t G q h = subst (Good g) (goes_same h) G
  pop_good (e ∷ w) s t G q h =
      let p = then_went (spread_around g e (taken w s)) goes t h in
      let T = good_taken g e w s G q in
      subst (Good g) (goes_same p.2) (around_leads e T.1.cell_on_lem T.1.triangle_is (taken w s) p.0 T.0 p.1).good

  -- ---- to the end of the run

  -- with at most `left` pops the run ends at t
  pub record Ends (left : ℕ) (s t : State) : Type 0 where
    pub good : Good g t
    pub falls : Falls g s.field t.field
    pub served : (x : Entry) → Memᴰ x s.waiting → Served g t x.cell x.triangle
    pub pops_few : t.pops ≤ s.pops + left
    pub nothing_waits : t.waiting ≡ []

  ends_over : (left : ℕ) (s t : State) → Good g s → s.waiting ≡ [] → t ≡ s → Ends left s t
  ends_over left s t G q e =
      rw e
      (record {
        good = G;
        falls = λ c l. omega arith;
        served = λ x m. absurd (Memᴰ.not-nil (subst (Memᴰ x) q m));
        pops_few = omega arith;
        nothing_waits = q;
      })

  ends_pops : (left : ℕ) (e : Entry) (w : List Entry) (s u t : State) → Good g s → s.waiting ≡ e ∷ w → spread_around g e (taken w s) ≡ goes u
      → (Good g u → Ends left u t) → Ends (suc left) s t
  ends_pops left e w s u t G q h on-from-u =
      record {
        good = b.good;
        falls = λ c l. omega (arith, a.onward.falls c l, b.falls c l);
        served = λ x m. serve x (Memᴰ.cases_cons (subst (Memᴰ x) q m));
        pops_few = omega (arith, b.pops_few, a.onward.pops_same);
        nothing_waits = b.nothing_waits;
      }
    where
      T : Good g (taken w s) × Waits g s.field e
      T = good_taken g e w s G q

      a : Led g (taken w s) u
      a = around_leads e T.1.cell_on_lem T.1.triangle_is (taken w s) u T.0 h

      b : Ends left u t
      b = on-from-u a.good

      serve : (x : Entry) → (x ≡ e) ⊎ Memᴰ x w → Served g t x.cell x.triangle
      serve x (inl r) =
          rw r
          (served_on u t e.cell e.triangle T.1.cell_on_lem b.falls
          (around_serves e T.1.cell_on_lem T.1.triangle_is (taken w s) u T.0 h))
      serve x (inr m) = b.served x (a.onward.keeps x m)

  pub ends : (left : ℕ) (s t : State) → Good g s → spreading g left s ≡ goes t → Ends left s t
  ends zero s t G h = go (spreading_went g 0 s t h)
    where
      go : Spread g 0 s t → Ends 0 s t
      go (over q e) = ends_over 0 s t G q e
      go (pops e w n u q l a b) = absurd (omega arith)
  ends (suc left) s t G h = go (λ u. ends left u t) (spreading_went g (suc left) s t h)
    where
      go : ((u : State) → Good g u → spreading g left u ≡ goes t → Ends left u t) → Spread g (suc left) s t → Ends (suc left) s t
      go later (over q e) = ends_over (suc left) s t G q e
      go later (pops e w n u q l a b) =
          let same : n ≡ left = omega arith in
          ends_pops left e w s u t G q a (λ U. later u U (subst (λ (i : ℕ). spreading g i u ≡ goes t) same b))
