-- The states of a run from the end of seeding on: what is true of each, that the run's end is one of them, and that in a run that is
-- Done whatever a cell names in one of them has been offered to all the cells around at the end. The idea: what a cell names waits as
-- an entry or has been offered around, and at the end nothing waits. Assumes nothing but what `Fair` asks of the input.
use Prim.Native.Nat.{ℕ, zero, suc, ◌≤◌, ◌<◌}
use native.Mathlib.Omega.{arith}
use mathlib.Core.Path.{◌≡◌, sym, ap, ◌∙◌, subst}
use mathlib.Core.Logic.{◌⊎◌, inl, inr}
use mathlib.Core.List.{List, ◌∷◌}
use lib.ListN.{length, get_or}
use Rattle.lists.specs.Turns.{goes, turns}
use Rattle.lists.proofs.Made.{goes_same}
use Rattle.queue.specs.declared.Entry.{Entry}
use Rattle.run.specs.Run.{RunInput, State, named, seeding, queue_cell, queueing, taken, spread_around, spreading, run}
use Rattle.run.specs.Good.{Waits, Good}
use Rattle.run.proofs.Values.{Fair}
use Rattle.run.proofs.Offers.{Spread, over, pops, spreading_went, Popped, spreading_pops, run_went}
use Rattle.run.proofs.Waiting.{apart_at, good_taken, WaitsFor, waits_for_on}
use Rattle.run.proofs.Seeding.{seeding_good, seeding_empty}
use Rattle.run.proofs.Queueing.{QueuedTo, queued_to, queueing_to}
use Rattle.run.proofs.Spreading.{Led, Served, first_lead, rest_lead, around_leads, ends}
use Rattle.demand_3.specs.States.{first_offers, BeforePop, after_queueing, after_pop, Since, end_of_seeding, in_queueing, before_pop, in_pop}

module _ (g : RunInput) (F : Fair g) where
  -- ---- the run's end is one of them

  end_is_one : (left : ℕ) (s t : State) → BeforePop g s → spreading g left s ≡ goes t → BeforePop g t
  end_is_one zero s t B h = go (spreading_went g 0 s t h)
    where
      go : Spread g 0 s t → BeforePop g t
      go (over q e) = subst (BeforePop g) (sym e) B
      go (pops e w n u q l a b) = absurd (omega arith)
  end_is_one (suc left) s t B h = go (λ u. end_is_one left u t) (spreading_went g (suc left) s t h)
    where
      go : ((u : State) → BeforePop g u → spreading g left u ≡ goes t → BeforePop g t) → Spread g (suc left) s t → BeforePop g t
      go later (over q e) = subst (BeforePop g) (sym e) B
      go later (pops e w n u q l a b) =
          let same : n ≡ left = omega arith in
          later u (after_pop B q a) (subst (λ (i : ℕ). spreading g i u ≡ goes t) same b)

  pub end_since : (t : State) → run g ≡ goes t → Since g t
  end_since t h =
      let r = run_went g t h in
      before_pop (end_is_one g.limit r.queued_all t (after_queueing r.by_seeding r.by_queueing) r.by_spreading)

  -- ---- every state is good

  pub queueing_good : (s t : State) (i : ℕ) → seeding g ≡ goes s → i ≤ g.cells → turns (queue_cell g) i s ≡ goes t → QueuedTo g s i t
  queueing_good s t i p l h = queued_to g F s i t (seeding_good g F s p) (seeding_empty g F s p) l h

  pub queueing_all : (s t : State) → seeding g ≡ goes s → queueing g s ≡ goes t → QueuedTo g s g.cells t
  queueing_all s t p h = queueing_to g F s t (seeding_good g F s p) (seeding_empty g F s p) h

  -- an entry that is taken leads on
  pop_leads : (e : Entry) (w : List Entry) (s t : State) → Good g s → s.waiting ≡ e ∷ w → spread_around g e (taken w s) ≡ goes t → Led g (taken w s) t
  pop_leads e w s t G q h =
      let T = good_taken g e w s G q in
      around_leads g F e T.1.cell_on_lem T.1.triangle_is (taken w s) t T.0 h

  offers_lead : (e : Entry) (w : List Entry) (j : ℕ) (s t : State) → Good g s → s.waiting ≡ e ∷ w → first_offers g e j (taken w s) ≡ goes t → Led g (taken w s) t
  offers_lead e w j s t G q h =
      let T = good_taken g e w s G q in
      first_lead g F e T.1.cell_on_lem T.1.triangle_is j (taken w s) t T.0 h

  pub before_pop_good : (s : State) → BeforePop g s → Good g s
  before_pop_good t (after_queueing {s} p h) = (queueing_all s t p h).good
  before_pop_good t (after_pop {s} {e = e} {w = w} B q h) = (pop_leads e w s t (before_pop_good s B) q h).good

  pub since_good : (s : State) → Since g s → Good g s
  since_good s (end_of_seeding p) = seeding_good g F s p
  since_good t (in_queueing {s} {i = i} p l h) = (queueing_good s t i p l h).good
  since_good s (before_pop B) = before_pop_good s B
  since_good t (in_pop {s} {e = e} {w = w} {j = j} B q l h) = (offers_lead e w j s t (before_pop_good s B) q h).good

  -- "Two waiting entries never agree in both distance and cell": two at different places of what waits differ in one of the two
  pub never_agree : (s : State) → Since g s → (none : Entry) (i j : ℕ) → i < j → j < length s.waiting
      → (get_or s.waiting i none).distance ≡ (get_or s.waiting j none).distance → (get_or s.waiting i none).cell ≡ (get_or s.waiting j none).cell → ⊥
  never_agree s S none i j l m = apart_at s.waiting none i j (since_good s S).apart l m

  -- ---- what a cell names is offered around before the run is Done

  module _ (f : State) (D : run g ≡ goes f) where
    -- from s the run goes on to its end f, where whatever a cell names in s has been offered around
    pub record ToEnd (s : State) : Type 0 where
      pub left : ℕ
      pub goes_on : spreading g left s ≡ goes f
      pub served : (c : ℕ) → c < g.cells → named s c < g.triangles → Served g f c (named s c)

    -- an entry that waits is offered around
    waits_served : (left : ℕ) (s : State) (c k : ℕ) → Good g s → spreading g left s ≡ goes f → WaitsFor s c k → Served g f c k
    waits_served left s c k G h w =
        let x = w.waiting_entry in
        subst (λ (i : ℕ). Served g f i k) w.of_cell_lem
        (subst (λ (n : ℕ). Served g f x.cell n) w.of_triangle
        ((ends g F left s f G h).served x w.waits))

    after_queueing_lem : (s t : State) → seeding g ≡ goes s → queueing g s ≡ goes t → ToEnd t
    after_queueing_lem s t p h =
        let r = run_went g f D in
        let a : r.seeded ≡ s = goes_same (sym r.by_seeding ∙ p) in
        let b : r.queued_all ≡ t = goes_same (sym r.by_queueing ∙ ap (queueing g) a ∙ h) in
        let on : spreading g g.limit t ≡ goes f = ap (spreading g g.limit) (sym b) ∙ r.by_spreading in
        let Q = queueing_all s t p h in
        record {
          left = g.limit;
          goes_on = on;
          served = λ c l n. waits_served g.limit t c (named t c) Q.good on (Q.each c l n);
        }

    after_pop_lem : (e : Entry) (w : List Entry) (s t : State) → Good g s → s.waiting ≡ e ∷ w → spread_around g e (taken w s) ≡ goes t → ToEnd s → ToEnd t
    after_pop_lem e w s t G q h E = record { left = P.left; goes_on = on; served = λ c l n. serve c l n (L.onward.names c) }
      where
        P : Popped g e w s f
        P = spreading_pops g E.left e w s f q E.goes_on

        on : spreading g P.left t ≡ goes f
        on = ap (spreading g P.left) (goes_same (sym h ∙ P.around)) ∙ P.later

        L : Led g (taken w s) t
        L = pop_leads e w s t G q h

        serve : (c : ℕ) → c < g.cells → named t c < g.triangles → (named t c ≡ named s c) ⊎ WaitsFor t c (named t c) → Served g f c (named t c)
        serve c l n (inl r) = rw r (E.served c l (rw r at n))
        serve c l n (inr v) = waits_served P.left t c (named t c) L.good on v

    pub before_pop_to_end : (s : State) → BeforePop g s → ToEnd s
    before_pop_to_end t (after_queueing {s} p h) = after_queueing_lem s t p h
    before_pop_to_end t (after_pop {s} {e = e} {w = w} B q h) = after_pop_lem e w s t (before_pop_good s B) q h (before_pop_to_end s B)

    -- the end of seeding has the names of the state after queueing
    seeded_served : (s : State) → seeding g ≡ goes s → (c : ℕ) → c < g.cells → named s c < g.triangles → Served g f c (named s c)
    seeded_served s p c l n =
        let r = run_went g f D in
        let a : r.seeded ≡ s = goes_same (sym r.by_seeding ∙ p) in
        let h : queueing g s ≡ goes r.queued_all = ap (queueing g) (sym a) ∙ r.by_queueing in
        let same : named r.queued_all c ≡ named s c = ap (λ (ns : List ℕ). get_or ns c 0) (queueing_all s r.queued_all p h).names_same in
        subst (Served g f c) same ((after_queueing_lem s r.queued_all p h).served c l (rw same n))

    in_pop_served : (e : Entry) (w : List Entry) (j : ℕ) (s t : State) → BeforePop g s → s.waiting ≡ e ∷ w → j ≤ 27 → first_offers g e j (taken w s) ≡ goes t
        → (c : ℕ) → c < g.cells → named t c < g.triangles → Served g f c (named t c)
    in_pop_served e w j s t B q jl h c l n = serve (L.onward.names c)
      where
        E : ToEnd s
        E = before_pop_to_end s B

        P : Popped g e w s f
        P = spreading_pops g E.left e w s f q E.goes_on

        T : Good g (taken w s) × Waits g s.field e
        T = good_taken g e w s (before_pop_good s B) q

        L : Led g (taken w s) t
        L = offers_lead e w j s t (before_pop_good s B) q h

        M : Led g t P.after
        M = rest_lead g F e T.1.cell_on_lem T.1.triangle_is j (taken w s) t P.after jl L.good h P.around

        serve : (named t c ≡ named s c) ⊎ WaitsFor t c (named t c) → Served g f c (named t c)
        serve (inl r) = rw r (E.served c l (rw r at n))
        serve (inr v) = waits_served P.left P.after c (named t c) M.good P.later (waits_for_on {s = t} {t = P.after} M.onward.keeps v)

    pub since_served : (s : State) → Since g s → (c : ℕ) → c < g.cells → named s c < g.triangles → Served g f c (named s c)
    since_served s (end_of_seeding p) c l n = seeded_served s p c l n
    since_served t (in_queueing {s} {i = i} p m h) c l n =
        let same : named t c ≡ named s c = ap (λ (ns : List ℕ). get_or ns c 0) (queueing_good s t i p m h).names_same in
        rw same (seeded_served s p c l (rw same at n))
    since_served s (before_pop B) c l n = (before_pop_to_end s B).served c l n
    since_served t (in_pop {s} {e = e} {w = w} {j = j} B q m h) c l n = in_pop_served e w j s t B q m h c l n
