-- The loop of pops. What is left to spread after a pop is the whole of spreading: that is the loop's invariant. Assumes nothing.
use Prim.Native.Nat.{ℕ, zero, suc, ◌+◌, ◌-◌, ◌≤◌, ◌<◌}
use native.Mathlib.Nat.{not-suc-le-zero}
use native.Mathlib.Omega.{arith}
use mathlib.Core.Path.{◌≡◌, refl, sym, ap, ◌∙◌, subst}
use mathlib.Core.List.{List, [], ◌∷◌}
use lib.ListN.{length}
use lib.Ieee.{Float}
use Rattle.lists.specs.Turns.{goes, refuses, and_then, told}
use Rattle.lists.proofs.Turns.{then_goes, then_refuses, told_goes, told_refuses}
use Rattle.terms.specs.declared.SignMethod.{SignMethod}
use Rattle.grid.specs.declared.Grid.{Grid}
use Rattle.mesh.specs.Mesh.{Mesh}
use Rattle.queue.specs.declared.Entry.{Entry}
use Rattle.queue.specs.Queue.{waiting}
use Rattle.queue.proofs.Uses.{how_many_by, none_waits}
use Rattle.run.specs.Run.{RunInput, State, taken, spread_around, take_first, limit_reached, spreading}
use Rattle.run.specs.Input.{run_input}
use Rattle.run.specs.Good.{Good}
use Rattle.run.proofs.Spreading.{pop_good}
use Rattle.run_state.specs.declared.Progress.{Progress}
use Rattle.run_state.specs.Told.{refused_by, order_in, state_of, Fit, Holds, GoodIn, Told}
use Rattle.run_state.proofs.Counts.{pop_counts}
use Rattle.run_state.proofs.Keys.{fair}
use Rattle.run_pop.proofs.Pops.{then_then}

-- a pop, and the pops after it
next_pop : (g : RunInput) (left : ℕ) (w : List Entry) (s : State) → 0 < length w
    → take_first g (spreading g left) w s ≡ and_then (take_first g goes w s) (spreading g left)
unfolding take_first
next_pop g left [] s h = absurd (not-suc-le-zero h)
next_pop g left (e ∷ w) s h = sym (then_then (spread_around g e (taken w s)) (spreading g left))

must_stop : (w : List Entry) (s : State) → 0 < length w → limit_reached w s ≡ refuses 8
unfolding limit_reached
must_stop [] s h = absurd (not-suc-le-zero h)
must_stop (e ∷ w) s h = refl

none_left : (g : RunInput) (left : ℕ) (s : State) → s.waiting ≡ [] → spreading g left s ≡ goes s
unfolding spreading limit_reached take_first
none_left g zero s h = ap (λ (w : List Entry). limit_reached w s) h
none_left g (suc left) s h = ap (λ (w : List Entry). take_first g (spreading g left) w s) h

-- The slices, which held field₀ to ts₀ and r₀, hold a state after some pops, and what is left to spread comes to all of it. `any` is
-- the input's limit, `limit` the caller's.
module _ (g : Grid) (m : Mesh) (sign : SignMethod) (limit : ℕ) where
  pub record Spreads (field₀ : List Float) (names₀ ds₀ cs₀ ts₀ : List ℕ) (r₀ : Progress) (field : List Float) (names ds cs ts : List ℕ) (r : Progress) : Type 0 where
    pub fine : r.number ≡ 0
    pub long : length ds ≡ length ds₀
    pub within : r.pops ≤ limit
    pub holds : Holds g field names ds cs ts r.waiting
    pub states : GoodIn g m sign field names ds cs ts r
    pub is : (any : ℕ)
        → spreading (run_input g m sign (length ds₀) any) (limit - r.pops) (state_of (order_in m) field names ds cs ts r)
        ≡ spreading (run_input g m sign (length ds₀) any) limit (state_of (order_in m) field₀ names₀ ds₀ cs₀ ts₀ r₀)

-- no pops, at first
pub spread_begins : {g : Grid} {m : Mesh} {sign : SignMethod} {limit : ℕ} {field : List Float} {names ds cs ts : List ℕ} {r : Progress} → r.number ≡ 0 → r.pops ≡ 0
    → Holds g field names ds cs ts r.waiting → GoodIn g m sign field names ds cs ts r → Spreads g m sign limit field names ds cs ts r field names ds cs ts r
spread_begins {g} {m} {sign} {limit} {field} {names} {ds} {cs} {ts} {r} z p h good =
    record {
      fine = z;
      long = refl;
      within = omega arith;
      holds = h;
      states = good;
      is = λ any. ap (λ (k : ℕ). spreading (run_input g m sign (length ds) any) k (state_of (order_in m) field names ds cs ts r)) all;
    }
  where
    all : limit - r.pops ≡ limit
    all = omega (arith, p)

module _ {g : Grid} {m : Mesh} {sign : SignMethod} {limit : ℕ} {field₀ field : List Float} {names₀ ds₀ cs₀ ts₀ names ds cs ts : List ℕ} {r₀ r : Progress} where
  -- nothing waits
  pub spread_ends : Spreads g m sign limit field₀ names₀ ds₀ cs₀ ts₀ r₀ field names ds cs ts r → r.waiting ≤ 0
      → Told g m sign (λ G. spreading G limit) field₀ names₀ ds₀ cs₀ ts₀ r₀ field names ds cs ts r
  spread_ends a z =
      let s = state_of (order_in m) field names ds cs ts r in
      let n : r.waiting ≡ 0 = omega arith in
      record {
        holds = a.holds;
        is = λ any.
            sym (a.is any)
            ∙ none_left (run_input g m sign (length ds₀) any) (limit - r.pops) s (ap (waiting (order_in m) ds cs ts) n ∙ none_waits (order_in m) ds cs ts)
            ∙ sym (told_goes r.number s a.fine);
      }

  -- some wait
  some : Spreads g m sign limit field₀ names₀ ds₀ cs₀ ts₀ r₀ field names ds cs ts r → 0 < r.waiting → 0 < length (waiting (order_in m) ds cs ts r.waiting)
  some a l = subst (λ (k : ℕ). 0 < k) (sym (how_many_by (order_in m) ds cs ts r.waiting a.holds.held)) l

  -- the pops are spent
  pub spread_spent : Spreads g m sign limit field₀ names₀ ds₀ cs₀ ts₀ r₀ field names ds cs ts r → 0 < r.waiting → r.pops ≡ limit
      → Told g m sign (λ G. spreading G limit) field₀ names₀ ds₀ cs₀ ts₀ r₀ field names ds cs ts (refused_by 8 r)
  unfolding spreading told
  spread_spent a l e =
      let s = state_of (order_in m) field names ds cs ts r in
      let n : limit - r.pops ≡ 0 = omega arith in
      record {
        holds = a.holds;
        is = λ any. sym (a.is any) ∙ ap (λ (k : ℕ). spreading (run_input g m sign (length ds₀) any) k s) n ∙ must_stop s.waiting s (some a l);
      }

  module _ {field' : List Float} {names' ds' cs' ts' : List ℕ} {r' : Progress}
      (a : Spreads g m sign limit field₀ names₀ ds₀ cs₀ ts₀ r₀ field names ds cs ts r) (l : 0 < r.waiting)
      (t : Told g m sign (λ G s. take_first G goes s.waiting s) field names ds cs ts r field' names' ds' cs' ts' r') where
    -- it is one pop
    pub counted : r'.number ≡ 0 → r'.pops ≡ r.pops + 1
    counted z =
        let s = state_of (order_in m) field names ds cs ts r in
        let s' = state_of (order_in m) field' names' ds' cs' ts' r' in
        pop_counts (run_input g m sign (length ds) 0) s.waiting s (some a l) s' (t.is 0 ∙ told_goes r'.number s' z)

    -- one pop, and then the others
    one : (any : ℕ) → r.pops < limit
        → spreading (run_input g m sign (length ds₀) any) limit (state_of (order_in m) field₀ names₀ ds₀ cs₀ ts₀ r₀)
        ≡ and_then (told r'.number (state_of (order_in m) field' names' ds' cs' ts' r')) (spreading (run_input g m sign (length ds₀) any) (limit - (r.pops + 1)))
    unfolding spreading
    one any b =
        let s = state_of (order_in m) field names ds cs ts r in
        let G = run_input g m sign (length ds₀) any in
        let left : limit - r.pops ≡ suc (limit - (r.pops + 1)) = omega arith in
        sym (a.is any)
        ∙ ap (λ (k : ℕ). spreading G k s) left
        ∙ next_pop G (limit - (r.pops + 1)) s.waiting s (some a l)
        ∙ ap (λ (k : ℕ). and_then (take_first (run_input g m sign k any) goes s.waiting s) (spreading G (limit - (r.pops + 1)))) (sym a.long)
        ∙ ap (λ o. and_then o (spreading G (limit - (r.pops + 1)))) (t.is any)

    -- and its state is good
    good_on : Fit g m → length ds' ≡ length ds → r'.number ≡ 0 → GoodIn g m sign field' names' ds' cs' ts' r'
    good_on fit k z =
        let s = state_of (order_in m) field names ds cs ts r in
        let s' = state_of (order_in m) field' names' ds' cs' ts' r' in
        record {
          good = λ any.
              subst (λ (n : ℕ). Good (run_input g m sign n any) s') (sym k)
              (pop_good (run_input g m sign (length ds) any) (fair fit sign (length ds) any) s.waiting s s' (a.states.good any) refl
              (t.is any ∙ told_goes r'.number s' z));
        }

    pub spread_on : Fit g m → r.pops < limit → length ds' ≡ length ds → r'.number ≡ 0 → Spreads g m sign limit field₀ names₀ ds₀ cs₀ ts₀ r₀ field' names' ds' cs' ts' r'
    spread_on fit b k z =
        let s' = state_of (order_in m) field' names' ds' cs' ts' r' in
        let p : r'.pops ≡ r.pops + 1 = counted z in
        record {
          fine = z;
          long = k ∙ a.long;
          within = omega arith;
          holds = t.holds;
          states = good_on fit k z;
          is = λ any.
              ap (λ (j : ℕ). spreading (run_input g m sign (length ds₀) any) (limit - j) s') p
              ∙ sym (one any b ∙ then_goes (spreading (run_input g m sign (length ds₀) any) (limit - (r.pops + 1))) (told_goes r'.number s' z));
        }

    pub spread_stops : r.pops < limit → (r'.number ≡ 0 → ⊥) → Told g m sign (λ G. spreading G limit) field₀ names₀ ds₀ cs₀ ts₀ r₀ field' names' ds' cs' ts' r'
    spread_stops b z =
        let s' = state_of (order_in m) field' names' ds' cs' ts' r' in
        record {
          holds = t.holds;
          is = λ any.
              one any b
              ∙ then_refuses (spreading (run_input g m sign (length ds₀) any) (limit - (r.pops + 1))) (told_refuses r'.number s' z)
              ∙ sym (told_refuses r'.number s' z);
        }
