-- What a turn of the run did where it went on: an offer, a queueing, and the taking of the first that waits. Each is the definition
-- read backwards. Assumes nothing.
use Prim.Native.Nat.{ℕ, zero, suc, ◌<◌}
use mathlib.Core.Path.{◌≡◌, refl, sym}
use mathlib.Core.Bool.{Bool, true, false, cond}
use mathlib.Core.List.{List, [], ◌∷◌}
use lib.Dec.{ltb}
use lib.ListN.{length}
use lib.Ieee.{Float, is_nan}
use borrow.Author.Tests.{ltb-true}
use native.Mathlib.Omega.{arith}
use Rattle.float.specs.Arith.{◌≺◌, f_max}
use Rattle.float_order.specs.Nearer.{nearer}
use Rattle.lists.specs.Turns.{Turn, goes, refuses, and_then}
use Rattle.lists.proofs.Turns.{then_went}
use Rattle.lists.proofs.Made.{goes_same}
use Rattle.queue.specs.declared.Entry.{Entry}
use Rattle.run.specs.Run.{RunInput, State, held, named, entry, takes, offer_at, offer, queued, queue, queue_cell, taken, spread_around, take_first, limit_reached, spreading, seeding, queueing, run}

refused : {S : Type 0} {n : ℕ} {s : S} → refuses n ≡ goes s → ⊥
refused e = let z : ◌≡◌ {A = ℕ} 0 1 = cc in omega arith

-- ---- an offer

-- triangle k, d away, was offered to cell c, and the turn went on from s to t
pub data Offer (also : Entry → State → Turn State) (k c : ℕ) (d : Float) (s t : State) : Type 0 where
  passes : is_nan d ≡ false → nearer d (held s c) ≡ false → t ≡ s → Offer also k c d s t
  takes_it : is_nan d ≡ false → nearer d (held s c) ≡ true → also (entry d c k) (takes c k d s) ≡ goes t → Offer also k c d s t

pub offer_went : (g : RunInput) (also : Entry → State → Turn State) (k c : ℕ) (s t : State) → offer g also k c s ≡ goes t → Offer also k c (g.distance k c) s t
unfolding offer offer_at
offer_went g also k c s t h = number (is_nan d) refl h
  where
    d : Float
    d = g.distance k c

    less : (b : Bool) → is_nan d ≡ false → nearer d (held s c) ≡ b → cond b (also (entry d c k) (takes c k d s)) (goes s) ≡ goes t → Offer also k c d s t
    less true n e w = takes_it n e w
    less false n e w = passes n e (sym (goes_same w))

    number : (b : Bool) → is_nan d ≡ b → cond b (refuses 6) (cond (nearer d (held s c)) (also (entry d c k) (takes c k d s)) (goes s)) ≡ goes t → Offer also k c d s t
    number true e w = absurd (refused w)
    number false e w = less (nearer d (held s c)) e refl w

-- ---- a queueing

pub record Queued (g : RunInput) (e : Entry) (s t : State) : Type 0 where
  pub room : length s.waiting < g.room
  pub is : t ≡ queued g e s

pub queue_went : (g : RunInput) (e : Entry) (s t : State) → queue g e s ≡ goes t → Queued g e s t
unfolding queue
queue_went g e s t h = go (ltb (length s.waiting) g.room) refl h
  where
    go : (b : Bool) → ltb (length s.waiting) g.room ≡ b → cond b (goes (queued g e s)) (refuses 7) ≡ goes t → Queued g e s t
    go true l w = record { room = ltb-true (length s.waiting) g.room l; is = sym (goes_same w) }
    go false l w = absurd (refused w)

pub data QueuedCell (g : RunInput) (c : ℕ) (s t : State) : Type 0 where
  not_below : (held s c ≺ f_max) ≡ false → t ≡ s → QueuedCell g c s t
  below : (held s c ≺ f_max) ≡ true → Queued g (entry (held s c) c (named s c)) s t → QueuedCell g c s t

pub queue_cell_went : (g : RunInput) (c : ℕ) (s t : State) → queue_cell g c s ≡ goes t → QueuedCell g c s t
unfolding queue_cell
queue_cell_went g c s t h = go (held s c ≺ f_max) refl h
  where
    go : (b : Bool) → (held s c ≺ f_max) ≡ b → cond b (queue g (entry (held s c) c (named s c)) s) (goes s) ≡ goes t → QueuedCell g c s t
    go true e w = below e (queue_went g (entry (held s c) c (named s c)) s t w)
    go false e w = not_below e (sym (goes_same w))

-- ---- a pop

-- with so many pops left, the run went on from s to its end t: nothing waits, or the first was taken and went round
pub data Spread (g : RunInput) (left : ℕ) (s t : State) : Type 0 where
  over : s.waiting ≡ [] → t ≡ s → Spread g left s t
  pops : (e : Entry) (w : List Entry) (n : ℕ) (u : State) → s.waiting ≡ e ∷ w → left ≡ suc n → spread_around g e (taken w s) ≡ goes u → spreading g n u ≡ goes t → Spread g left s t

pub spreading_went : (g : RunInput) (left : ℕ) (s t : State) → spreading g left s ≡ goes t → Spread g left s t
unfolding spreading take_first limit_reached
spreading_went g zero s t h = go s.waiting refl h
  where
    go : (l : List Entry) → s.waiting ≡ l → limit_reached l s ≡ goes t → Spread g 0 s t
    go [] e w = over e (sym (goes_same w))
    go (x ∷ l) e w = absurd (refused w)
spreading_went g (suc n) s t h = go s.waiting refl h
  where
    go : (l : List Entry) → s.waiting ≡ l → take_first g (spreading g n) l s ≡ goes t → Spread g (suc n) s t
    go [] e w = over e (sym (goes_same w))
    go (x ∷ l) e w =
        let p = then_went (spread_around g x (taken l s)) (spreading g n) t w in
        pops x l n p.0 e refl p.1 p.2

-- where an entry waits the run went on by taking the first
pub record Popped (g : RunInput) (e : Entry) (w : List Entry) (s t : State) : Type 0 where
  pub left : ℕ
  pub after : State
  pub around : spread_around g e (taken w s) ≡ goes after
  pub later : spreading g left after ≡ goes t

pub spreading_pops : (g : RunInput) (left : ℕ) (e : Entry) (w : List Entry) (s t : State) → s.waiting ≡ e ∷ w → spreading g left s ≡ goes t → Popped g e w s t
unfolding spreading take_first limit_reached
spreading_pops g zero e w s t q h = absurd (refused (rw q at h))
spreading_pops g (suc n) e w s t q h =
    let p = then_went (spread_around g e (taken w s)) (spreading g n) t (rw q at h) in
    record { left = n; after = p.0; around = p.1; later = p.2 }

-- ---- the whole run

pub record Ran (g : RunInput) (t : State) : Type 0 where
  pub seeded : State
  pub queued_all : State
  pub by_seeding : seeding g ≡ goes seeded
  pub by_queueing : queueing g seeded ≡ goes queued_all
  pub by_spreading : spreading g g.limit queued_all ≡ goes t

pub run_went : (g : RunInput) (t : State) → run g ≡ goes t → Ran g t
unfolding run
run_went g t h =
    let a = then_went (seeding g) (λ s. and_then (queueing g s) (spreading g g.limit)) t h in
    let b = then_went (queueing g a.0) (spreading g g.limit) t a.2 in
    record { seeded = a.0; queued_all = b.0; by_seeding = a.1; by_queueing = b.1; by_spreading = b.2 }
