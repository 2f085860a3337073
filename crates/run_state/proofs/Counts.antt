-- Only the taking of an entry changes the count of pops: the offers and queueings that follow leave it. Assumes nothing.
use Prim.Native.Nat.{ℕ, ◌+◌, ◌<◌}
use native.Mathlib.Nat.{not-suc-le-zero}
use native.Mathlib.Omega.{arith}
use mathlib.Core.Path.{◌≡◌, refl, sym, ap, ◌∙◌}
use mathlib.Core.Bool.{Bool, true, false, cond}
use mathlib.Core.List.{List, [], ◌∷◌}
use lib.Dec.{ltb}
use lib.ListN.{length}
use lib.Ieee.{is_nan}
use Rattle.float.specs.Arith.{◌≺◌, f_max}
use Rattle.float_order.specs.Nearer.{nearer}
use Rattle.lists.specs.Turns.{Turn, goes, refuses}
use Rattle.lists.proofs.Turns.{turns_keep, then_went}
use Rattle.queue.specs.declared.Entry.{Entry}
use Rattle.run.specs.Run.{RunInput, State, Place, off, at, held, takes, queue, queue_cell, queueing, offer_at, offer, spread_to, spread_around, taken, take_first}

-- where the turn goes on, so many pops were taken
abbrev Counts : ℕ → Turn State → Type 0
Counts n o = (t : State) → o ≡ goes t → t.pops ≡ n

same : {s t : State} → goes s ≡ goes t → s ≡ t
same e = cc

if_goes : {n : ℕ} (s : State) → s.pops ≡ n → Counts n (goes s)
if_goes s p t h = ap (λ (u : State). u.pops) (sym (same h)) ∙ p

if_refuses : {n : ℕ} (k : ℕ) → Counts n (refuses k)
if_refuses k t h = absurd (let z : ◌≡◌ {A = ℕ} 0 1 = cc in omega arith)

either : {n : ℕ} (b : Bool) (x y : Turn State) → Counts n x → Counts n y → Counts n (cond b x y)
either true x y p q = p
either false x y p q = q

queue_counts : (g : RunInput) (e : Entry) (s : State) → Counts s.pops (queue g e s)
unfolding queue
queue_counts g e s = either (ltb (length s.waiting) g.room) _ _ (if_goes _ refl) (if_refuses 7)

cell_counts : (g : RunInput) (c : ℕ) (s : State) → Counts s.pops (queue_cell g c s)
unfolding queue_cell
cell_counts g c s = either (held s c ≺ f_max) _ _ (queue_counts g _ s) (if_goes s refl)

-- queueing takes nothing
pub queueing_counts : (g : RunInput) (s : State) → Counts s.pops (queueing g s)
unfolding queueing
queueing_counts g s t h = turns_keep (queue_cell g) (λ i u. u.pops ≡ s.pops) g.cells s t refl (λ i u v l p w. cell_counts g i u v w ∙ p) h

to_counts : (g : RunInput) (e : Entry) (p : Place) (s : State) → Counts s.pops (spread_to g e p s)
unfolding spread_to offer offer_at
to_counts g e off s = if_goes s refl
to_counts g e (at c) s =
    let d = g.distance e.triangle c in
    either (is_nan d) _ _ (if_refuses 6) (either (nearer d (held s c)) _ _ (queue_counts g _ (takes c e.triangle d s)) (if_goes s refl))

around_counts : (g : RunInput) (e : Entry) (s : State) → Counts s.pops (spread_around g e s)
unfolding spread_around
around_counts g e s t h =
    turns_keep (λ j. spread_to g e (g.around e.cell j)) (λ i u. u.pops ≡ s.pops) 27 s t refl
    (λ i u v l p w. to_counts g e (g.around e.cell i) u v w ∙ p) h

-- a pop is one pop
pub pop_counts : (g : RunInput) (w : List Entry) (s : State) → 0 < length w → Counts (s.pops + 1) (take_first g goes w s)
unfolding take_first
pop_counts g [] s l t h = absurd (not-suc-le-zero l)
pop_counts g (e ∷ w) s l t h =
    let o = then_went (spread_around g e (taken w s)) goes t h in
    around_counts g e (taken w s) t (o.1 ∙ o.2)
