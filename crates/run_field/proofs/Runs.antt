-- The three steps of a run, told one after another, are the run: seeding ends it or goes on from an empty queue, and queueing ends it
-- or goes on to spreading. Where it is not refused nothing waits at the end. Assumes nothing.
use Prim.Native.Nat.{ℕ, zero, suc}
use native.Mathlib.Omega.{arith}
use mathlib.Core.Path.{◌≡◌, refl, sym, ap, ◌∙◌, subst}
use mathlib.Core.List.{List, []}
use lib.ListN.{length, length-replicate}
use lib.Ieee.{Float}
use Rattle.float.specs.Arith.{f_max}
use Rattle.lists.specs.Turns.{Turn, goes, and_then, turns, told}
use Rattle.lists.proofs.Turns.{then_goes, then_refuses, told_goes, told_refuses}
use Rattle.terms.specs.declared.SignMethod.{SignMethod}
use Rattle.grid.specs.declared.Grid.{Grid}
use Rattle.grid.specs.Index.{total}
use Rattle.mesh.specs.Mesh.{Mesh, triangles_in}
use Rattle.queue.specs.declared.Entry.{Entry}
use Rattle.queue.specs.Keys.{by_keys}
use Rattle.queue.proofs.Uses.{none_waits, how_many_by}
use Rattle.run.specs.Run.{RunInput, State, none, at_first, seeding, queue_cell, queueing, spreading, run}
use Rattle.run.specs.Input.{run_input}
use Rattle.run.specs.Good.{Good}
use Rattle.run.specs.Keys.{keyed}
use Rattle.run.proofs.Offers.{Spread, over, pops, spreading_went, run_went}
use Rattle.run.proofs.Queueing.{queueing_to}
use Rattle.run.proofs.Seeding.{seeding_good}
use Rattle.run_seed_cells.specs.Parts.{seed_state, over_triangle}
use Rattle.run_seed.proofs.Whole.{seeding_is}
use Rattle.run_state.specs.declared.Progress.{Progress}
use Rattle.run_state.specs.Told.{order_in, state_of, Fit, Holds, GoodIn, Ran, Told, QueuedCells}
use Rattle.run_state.proofs.Counts.{queueing_counts}
use Rattle.run_state.proofs.Keys.{fair, queueing_told}
use Rattle.run_field.specs.Running.{Leaves, Fresh, before, seeded}

-- ---- of any input

-- spreading ends only where nothing waits
spreading_ends : (g : RunInput) (left : ℕ) (s t : State) → spreading g left s ≡ goes t → t.waiting ≡ []
spreading_ends g zero s t h = go (spreading_went g 0 s t h)
  where
    go : Spread g 0 s t → t.waiting ≡ []
    go (over q e) = ap (λ (x : State). x.waiting) e ∙ q
    go (pops e w n u q l a b) = absurd (omega arith)
spreading_ends g (suc left) s t h = go (λ u. spreading_ends g left u t) (spreading_went g (suc left) s t h)
  where
    go : ((u : State) → spreading g left u ≡ goes t → t.waiting ≡ []) → Spread g (suc left) s t → t.waiting ≡ []
    go later (over q e) = ap (λ (x : State). x.waiting) e ∙ q
    go later (pops e w n u q l a b) = let same : n ≡ left = omega arith in later u (subst (λ (i : ℕ). spreading g i u ≡ goes t) same b)

run_ends : (g : RunInput) (t : State) → run g ≡ goes t → t.waiting ≡ []
run_ends g t h = let r = run_went g t h in spreading_ends g g.limit r.queued_all t r.by_spreading

-- ---- of a job's

-- the state after seeding, over a queue in which nothing waits
begun : (m : Mesh) (field : List Float) (names ds cs ts : List ℕ) → seed_state field names ≡ seeded m field names ds cs ts
begun m field names ds cs ts =
    ap (λ (w : List Entry). record { field = field; names = names; waiting = w; pops = 0; peak = 0 }) (sym (none_waits (order_in m) ds cs ts))

-- what queueing and then spreading come to, from s
abbrev pub rest : Grid → Mesh → SignMethod → ℕ → ℕ → State → ℕ → Turn State
rest g m sign room limit s any = and_then (queueing (run_input g m sign room any) s) (spreading (run_input g m sign room any) limit)

pub fresh_field : {g : Grid} {field : List Float} {names ds cs ts : List ℕ} → Fresh g field names ds cs ts → length field ≡ total g
fresh_field {g} f = ap length f.field_bare ∙ length-replicate (total g) f_max

pub fresh_names : {g : Grid} {field : List Float} {names ds cs ts : List ℕ} → Fresh g field names ds cs ts → length names ≡ total g
fresh_names {g} f = ap length f.names_bare ∙ length-replicate (total g) none

module _ {g : Grid} {m : Mesh} where
  -- what spreading's functions tell, as a part of the run over an input with any limit
  pub as_left : {sign : SignMethod} {turn : RunInput → State → Turn State} {field field' : List Float} {names ds cs ts names' ds' cs' ts' : List ℕ} {at r : Progress}
      → Told g m sign turn field names ds cs ts at field' names' ds' cs' ts' r
      → Leaves g m (λ any. turn (run_input g m sign (length ds) any) (state_of (order_in m) field names ds cs ts at)) field' names' ds' cs' ts' r
  as_left h = record { holds = h.holds; is = h.is }

  -- ---- queueing, by keys
  module _ {sign : SignMethod} {field : List Float} {names ds cs ts ds' cs' ts' : List ℕ} {r : Progress} (fit : Fit g m) (states : GoodIn g m sign field names ds cs ts before)
      (q : QueuedCells field names ds cs ts before ds' cs' ts' r) where
    queueing_is : (any : ℕ) → queueing (run_input g m sign (length ds) any) (seeded m field names ds cs ts) ≡ told r.number (state_of (order_in m) field names ds' cs' ts' r)
    unfolding queueing run_input
    queueing_is any =
        queueing_told fit sign (length ds) any field names ds cs ts before (states.good any) field names ds' cs' ts' r refl
        (ap (λ (n : ℕ). turns (queue_cell (keyed (run_input g m sign (length ds) any))) n (state_of by_keys field names ds cs ts before)) (sym (states.good any).sound.field_long)
        ∙ q.is (keyed (run_input g m sign (length ds) any)) refl refl)

    pub cells_told : Told g m sign queueing field names ds cs ts before field names ds' cs' ts' r
    unfolding run_input
    cells_told =
        let s = (states.good 0).sound in
        record { holds = record { field_long = s.field_long; names_long = s.names_long; held = q.held }; is = queueing_is }

    -- where it goes on, from a good state
    pub queueing_states : length ds' ≡ length ds → r.number ≡ 0 → GoodIn g m sign field names ds' cs' ts' r
    queueing_states l z = record {
      good = λ any.
          subst (λ (n : ℕ). Good (run_input g m sign n any) (state_of (order_in m) field names ds' cs' ts' r)) (sym l)
          (queueing_to (run_input g m sign (length ds) any) (fair fit sign (length ds) any) (seeded m field names ds cs ts) _ (states.good any) (none_waits (order_in m) ds cs ts)
          (queueing_is any ∙ told_goes r.number _ z)).good;
    }

  -- ---- queueing, then spreading
  module _ (sign : SignMethod) (s : State) (room limit : ℕ) {field : List Float} {names ds cs ts : List ℕ} {p : Progress} (h : Leaves g m (λ any. queueing (run_input g m sign room any) s) field names ds cs ts p) where
    pub rest_stops : (p.number ≡ 0 → ⊥) → Leaves g m (rest g m sign room limit s) field names ds cs ts p
    rest_stops z =
        record {
          holds = h.holds;
          is = λ any. then_refuses (spreading (run_input g m sign room any) limit) (h.is any ∙ told_refuses p.number _ z) ∙ sym (told_refuses p.number _ z);
        }

    pub rest_begins : p.number ≡ 0 → s.pops ≡ 0 → p.pops ≡ 0
    rest_begins z e = queueing_counts (run_input g m sign room 0) s _ (h.is 0 ∙ told_goes p.number _ z) ∙ e

    pub rest_goes_on : {field' : List Float} {names' ds' cs' ts' : List ℕ} {r : Progress} → p.number ≡ 0 → length ds ≡ room
        → Leaves g m (λ any. spreading (run_input g m sign (length ds) any) limit (state_of (order_in m) field names ds cs ts p)) field' names' ds' cs' ts' r
        → Leaves g m (rest g m sign room limit s) field' names' ds' cs' ts' r
    rest_goes_on {r = r} z e w =
        record {
          holds = w.holds;
          is = λ any.
              then_goes (spreading (run_input g m sign room any) limit) (h.is any ∙ told_goes p.number _ z)
              ∙ ap (λ (k : ℕ). spreading (run_input g m sign k any) limit (state_of (order_in m) field names ds cs ts p)) (sym e)
              ∙ w.is any;
        }

  -- ---- seeding before them
  module _ (sign : SignMethod) {field : List Float} {names ds cs ts : List ℕ} (fit : Fit g m) (fresh : Fresh g field names ds cs ts) where
    module _ (field' : List Float) (names' : List ℕ) (n : ℕ)
        (h : turns (over_triangle g m sign) (length (triangles_in m)) (seed_state field names) ≡ told n (seed_state field' names')) where
      seeding_told : (room limit : ℕ) → seeding (run_input g m sign room limit) ≡ told n (seed_state field' names')
      unfolding at_first
      seeding_told room limit =
          sym (seeding_is g m sign room limit)
          ∙ sym (λ i. turns (over_triangle g m sign) (length (triangles_in m)) (seed_state (fresh.field_bare i) (fresh.names_bare i)))
          ∙ h

      pub seeding_stops : (room limit : ℕ) → length field' ≡ length field → length names' ≡ length names → (n ≡ 0 → ⊥)
          → Leaves g m (λ any. run (run_input g m sign room limit)) field' names' ds cs ts (record { number = n; waiting = 0; pops = 0; peak = 0 })
      unfolding run
      seeding_stops room limit e k z =
          record {
            holds = record {
              field_long = e ∙ fresh_field fresh;
              names_long = k ∙ fresh_names fresh;
              held = fresh.empty;
            };
            is = λ any.
                then_refuses _ (seeding_told room limit ∙ told_refuses n _ z) ∙ sym (told_refuses n _ z);
          }

      module _ (z : n ≡ 0) where
        went : (room limit : ℕ) → seeding (run_input g m sign room limit) ≡ goes (seed_state field' names')
        went room limit = seeding_told room limit ∙ told_goes n _ z

        pub seeding_states : GoodIn g m sign field' names' ds cs ts before
        seeding_states = record {
          good = λ any. subst (Good (run_input g m sign (length ds) any)) (begun m field' names' ds cs ts)
              (seeding_good (run_input g m sign (length ds) any) (fair fit sign (length ds) any) (seed_state field' names') (went (length ds) any));
        }

        pub seeding_holds : Holds g field' names' ds cs ts 0
        unfolding run_input
        seeding_holds =
            let s = (seeding_states.good 0).sound in
            record { field_long = s.field_long; names_long = s.names_long; held = fresh.empty }

        pub seeding_goes_on : {field'' : List Float} {names'' ds'' cs'' ts'' : List ℕ} {r : Progress} (room limit : ℕ)
            → Leaves g m (rest g m sign room limit (seeded m field' names' ds cs ts)) field'' names'' ds'' cs'' ts'' r
            → Leaves g m (λ any. run (run_input g m sign room limit)) field'' names'' ds'' cs'' ts'' r
        unfolding run run_input
        seeding_goes_on room limit w =
            record {
              holds = w.holds;
              is = λ any. then_goes _ (went room limit ∙ ap goes (begun m field' names' ds cs ts)) ∙ w.is limit;
            }

  -- ---- at the end
  pub run_over : {field : List Float} {names ds cs ts : List ℕ} {p : Progress} (sign : SignMethod) (room limit : ℕ) → Leaves g m (λ any. run (run_input g m sign room limit)) field names ds cs ts p → Ran g field names ds cs ts p
  run_over {field} {names} {ds} {cs} {ts} {p} sign room limit h =
      record {
        holds = h.holds;
        over = λ z.
            sym (how_many_by (order_in m) ds cs ts p.waiting h.holds.held)
            ∙ ap length (run_ends (run_input g m sign room limit) (state_of (order_in m) field names ds cs ts p) (h.is 0 ∙ told_goes p.number _ z));
      }
