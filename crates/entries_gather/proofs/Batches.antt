-- Offers first and queueing afterwards come to the same as each queueing at its offer: queueing looks at no field and no name, so it may wait
-- until all offers are made. Assumes nothing.
use Rattle.std.specs.Prelude.{if◌then◌else◌}
use Prim.Native.Nat.{ℕ, zero, suc, ◌+◌, ◌<◌}
use native.Mathlib.Numerals.{add-one}
use native.Mathlib.Omega.{arith}
use mathlib.Core.Path.{◌≡◌, refl, sym, ap, ◌∙◌}
use mathlib.Core.Bool.{Bool, true, false}
use mathlib.Core.List.{List}
use lib.Dec.{ltb}
use lib.ListN.{length, get_or}
use lib.Ieee.{Float, nan}
use Rattle.float_shortcut.specs.Shown.{signed_root}
use Rattle.lists.specs.Turns.{Turn, goes, refuses, and_then, turns}
use Rattle.lists.proofs.Turns.{then_nothing, then_alike, turns_same, turns_refused}
use Rattle.queue.specs.declared.Entry.{Entry}
use Rattle.run.specs.Run.{RunInput, State, queue, queued}
use Rattle.run_around.specs.Around.{place_of, offer_place}
use Rattle.entries_batch.specs.Batch.{stop_at, over}

-- ---- queueing over another field and other names

-- the state that a turn leaves, changed
abbrev after : (State → State) → Turn State → Turn State
after f (goes s) = goes (f s)
after f (refuses n) = refuses n

then_after : (f : State → State) (t : Turn State) (k h : State → Turn State) → ((s : State) → k (f s) ≡ after f (h s)) → and_then (after f t) k ≡ after f (and_then t h)
unfolding and_then
then_after f (goes s) k h e = e s
then_after f (refuses n) k h e = refl

then_same : (t : Turn State) (k h : State → Turn State) → ((s : State) → k s ≡ h s) → and_then t k ≡ and_then t h
then_same t k h e = then_alike t k h (λ s w. e s)

then_from : (f : State → State) (t : Turn State) (k : State → Turn State) → and_then (after f t) k ≡ and_then t (λ s. k (f s))
unfolding and_then
then_from f (goes s) k = refl
then_from f (refuses n) k = refl

module _ (g : RunInput) (field : List Float) (names : List ℕ) where
  queue_over : (e : Entry) (s : State) → queue g e (over field names s) ≡ after (over field names) (queue g e s)
  unfolding queue
  queue_over e s = go (ltb (length s.waiting) g.room)
    where
      go : (t : Bool) → (if t then goes (queued g e (over field names s)) else refuses 7) ≡ after (over field names) (if t then goes (queued g e s) else refuses 7)
      go true = refl
      go false = refl

  turns_over : (f : ℕ → Entry) (n : ℕ) (s : State) → turns (λ j. queue g (f j)) n (over field names s) ≡ after (over field names) (turns (λ j. queue g (f j)) n s)
  unfolding turns
  turns_over f zero s = refl
  turns_over f (suc n) s =
      ap (λ (t : Turn State). and_then t (queue g (f n))) (turns_over f n s)
      ∙ then_after (over field names) (turns (λ j. queue g (f j)) n s) (queue g (f n)) (queue g (f n)) (queue_over (f n))

  -- what follows the queueing sees the field and the names
  under : (f : ℕ → Entry) (n : ℕ) (s : State) (k : State → Turn State) → and_then (turns (λ j. queue g (f j)) n (over field names s)) k ≡ and_then (turns (λ j. queue g (f j)) n s) (λ u. k (over field names u))
  under f n s k = ap (λ (t : Turn State). and_then t k) (turns_over f n s) ∙ then_from (over field names) (turns (λ j. queue g (f j)) n s) k

turns_next : (f : ℕ → State → Turn State) (k : ℕ) (s : State) → turns f (k + 1) s ≡ and_then (turns f k s) (f k)
unfolding turns
turns_next f k s = ap (λ (n : ℕ). turns f n s) (add-one k)

-- ---- the offers of a pop

module _ (k : ℕ) (to : List ℕ) (squares : List Float) (field₀ : List Float) (names₀ : List ℕ) where
  abbrev offered : (Entry → State → Turn State) → ℕ → State → Turn State
  offered also j = offer_place also k (place_of (get_or to j 0)) (signed_root (get_or squares j nan))

  abbrev step : RunInput → ℕ → State → Turn State
  step g = offered (queue g)

  -- after j offers the field, the names and the first n entries of f are such that queueing these comes to the same
  pub record Gathers (j : ℕ) (field : List Float) (names : List ℕ) (f : ℕ → Entry) (n : ℕ) : Type 0 where
    pub is : (g : RunInput) (s : State) → turns (step g) j (over field₀ names₀ s) ≡ turns (λ i. queue g (f i)) n (over field names s)

  pub none_yet : (f : ℕ → Entry) → Gathers 0 field₀ names₀ f 0
  unfolding turns
  none_yet f = record { is = λ g s. refl }

  module _ (j : ℕ) {field : List Float} {names : List ℕ} {f : ℕ → Entry} {n : ℕ} (h : Gathers j field names f n) where
    -- one offer more, whatever it comes to
    next : (g : RunInput) (s : State) → turns (step g) (j + 1) (over field₀ names₀ s) ≡ and_then (turns (λ i. queue g (f i)) n s) (λ u. step g j (over field names u))
    next g s = turns_next (step g) j (over field₀ names₀ s) ∙ ap (λ (t : Turn State). and_then t (step g j)) (h.is g s) ∙ under g field names f n s (step g j)

    -- the cell does not take it
    pub passes : {field' : List Float} {names' : List ℕ} {f' : ℕ → Entry} → ((g : RunInput) (s : State) → step g j (over field names s) ≡ goes (over field' names' s)) → ((i : ℕ) → i < n → f i ≡ f' i)
        → Gathers (j + 1) field' names' f' n
    passes {field'} {names'} {f'} e same = record {
      is = λ g s.
          next g s
          ∙ then_same (turns (λ i. queue g (f i)) n s) _ (λ u. goes (over field' names' u)) (e g)
          ∙ sym (under g field' names' f n s goes)
          ∙ then_nothing (turns (λ i. queue g (f i)) n (over field' names' s))
          ∙ turns_same (λ i. queue g (f i)) (λ i. queue g (f' i)) n (over field' names' s) (λ i t w. ap (λ (y : Entry). queue g y t) (same i w));
    }

    -- the cell takes it: one entry more
    pub takes_it_lem : {field' : List Float} {names' : List ℕ} {f' : ℕ → Entry} {x : Entry} → ((g : RunInput) (s : State) → step g j (over field names s) ≡ queue g x (over field' names' s))
        → ((i : ℕ) → i < n → f i ≡ f' i) → f' n ≡ x → Gathers (j + 1) field' names' f' (n + 1)
    takes_it_lem {field'} {names'} {f'} {x} e same new = record {
      is = λ g s.
          next g s
          ∙ then_same (turns (λ i. queue g (f i)) n s) _ (λ u. queue g x (over field' names' u)) (e g)
          ∙ sym (under g field' names' f n s (queue g x))
          ∙ ap (λ (t : Turn State). and_then t (queue g x)) (turns_same (λ i. queue g (f i)) (λ i. queue g (f' i)) n (over field' names' s) (λ i t w. ap (λ (y : Entry). queue g y t) (same i w)))
          ∙ ap (λ (y : Entry). and_then (turns (λ i. queue g (f' i)) n (over field' names' s)) (queue g y)) (sym new)
          ∙ sym (turns_next (λ i. queue g (f' i)) n (over field' names' s));
    }

    -- it is refused: so are all 27
    refused_here : (r : ℕ) (end : ℕ) → j < end → ((g : RunInput) (s : State) → step g j (over field names s) ≡ refuses r) → (r ≡ 0 → ⊥)
        → (g : RunInput) (s : State) → turns (step g) end (over field₀ names₀ s) ≡ and_then (turns (λ i. queue g (f i)) n (over field names s)) (stop_at r)
    unfolding stop_at and_then
    refused_here r end l e z g s =
        stays (turns (λ i. queue g (f i)) n s) refl
        ∙ sym (then_same (turns (λ i. queue g (f i)) n s) (λ u. stop_at r (over field names u)) (λ u. refuses r) (λ u. stops r z (over field names u)))
        ∙ sym (under g field names f n s (stop_at r))
      where
        stops : (r : ℕ) → (r ≡ 0 → ⊥) → (u : State) → stop_at r u ≡ refuses r
        stops zero z u = absurd (z refl)
        stops (suc r) z u = refl

        once : turns (step g) (j + 1) (over field₀ names₀ s) ≡ and_then (turns (λ i. queue g (f i)) n s) (λ u. refuses r)
        once = next g s ∙ then_same (turns (λ i. queue g (f i)) n s) _ (λ u. refuses r) (e g)

        stays : (t : Turn State) → turns (λ i. queue g (f i)) n s ≡ t → turns (step g) end (over field₀ names₀ s) ≡ and_then (turns (λ i. queue g (f i)) n s) (λ u. refuses r)
        stays (goes u) w = turns_refused (step g) (j + 1) end (over field₀ names₀ s) (once ∙ ap (λ (t : Turn State). and_then t (λ u. refuses r)) w) (omega (arith, l)) ∙ sym (ap (λ (t : Turn State). and_then t (λ u. refuses r)) w)
        stays (refuses q) w = turns_refused (step g) (j + 1) end (over field₀ names₀ s) (once ∙ ap (λ (t : Turn State). and_then t (λ u. refuses r)) w) (omega (arith, l)) ∙ sym (ap (λ (t : Turn State). and_then t (λ u. refuses r)) w)

    -- and so do the entries so far, queued and then refused
    pub stops_here : (field' : List Float) (names' : List ℕ) (number : ℕ) (end : ℕ) → j < end → ((g : RunInput) (s : State) → step g j (over field names s) ≡ refuses number) → (number ≡ 0 → ⊥)
        → (g : RunInput) (s : State) → turns (step g) end (over field₀ names₀ s) ≡ and_then (turns (λ i. queue g (f i)) n (over field' names' s)) (stop_at number)
    unfolding stop_at
    stops_here field' names' number end l e z g s =
        refused_here number end l e z g s
        ∙ under g field names f n s (stop_at number)
        ∙ then_same (turns (λ i. queue g (f i)) n s) _ (λ u. stop_at number (over field' names' u)) (λ u. stopped number z (over field names u) (over field' names' u))
        ∙ sym (under g field' names' f n s (stop_at number))
      where
        stopped : (r : ℕ) → (r ≡ 0 → ⊥) → (u v : State) → stop_at r u ≡ stop_at r v
        stopped zero z u v = absurd (z refl)
        stopped (suc r) z u v = refl

  -- after all
  pub all_made : {j end : ℕ} {field : List Float} {names : List ℕ} {f : ℕ → Entry} {n : ℕ} → j ≡ end → Gathers j field names f n
      → (g : RunInput) (s : State) → turns (step g) end (over field₀ names₀ s) ≡ and_then (turns (λ i. queue g (f i)) n (over field names s)) (stop_at 0)
  unfolding stop_at
  all_made {j} {end} {field} {names} {f} {n} e h g s =
      ap (λ (i : ℕ). turns (step g) i (over field₀ names₀ s)) (sym e) ∙ h.is g s ∙ sym (then_nothing (turns (λ i. queue g (f i)) n (over field names s)))
