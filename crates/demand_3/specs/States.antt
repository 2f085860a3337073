-- The states of a run from the end of seeding on, which demand 3 speaks of: "at the end of seeding or later". They are read off the
-- definition of the run, step by step. The pop limit is not named: it only ends a run, and a run that is Done did not end by it.
-- Definitions only; proofs/States.antt shows that a run's end is one of them (`end_since`).
use Rattle.std.specs.Prelude.{ℕ, ◌≤◌, ◌≡◌, List, ◌∷◌}
use Rattle.lists.specs.Turns.{Turn, goes, turns}
use Rattle.queue.specs.declared.Entry.{Entry}
use Rattle.run.specs.Run.{RunInput, State, seeding, queue_cell, queueing, taken, spread_to, spread_around}

-- the first j of the 27 offers of an entry that is taken
abbrev pub first_offers : RunInput → Entry → ℕ → State → Turn State
first_offers g e j s = turns (λ i. spread_to g e (g.around e.cell i)) j s

-- s is a state before a pop, or the last: after queueing, or after the first entry e was taken, w were left, and its triangle was
-- offered to all the cells around
pub data BeforePop (g : RunInput) : State → Type 0 where
  after_queueing : {s t : State} → seeding g ≡ goes s → queueing g s ≡ goes t → BeforePop g t
  after_pop : {s t : State} {e : Entry} {w : List Entry} → BeforePop g s → s.waiting ≡ e ∷ w → spread_around g e (taken w s) ≡ goes t → BeforePop g t

-- s is a state of the run from the end of seeding on
pub data Since (g : RunInput) : State → Type 0 where
  -- the end of seeding
  end_of_seeding : {s : State} → seeding g ≡ goes s → Since g s
  -- in queueing, after i cells
  in_queueing : {s t : State} {i : ℕ} → seeding g ≡ goes s → i ≤ g.cells → turns (queue_cell g) i s ≡ goes t → Since g t
  -- after queueing, and after each pop
  before_pop : {s : State} → BeforePop g s → Since g s
  -- in a pop, after entry e is taken (j is 0) and after each of its 27 offers
  in_pop : {s t : State} {e : Entry} {w : List Entry} {j : ℕ} → BeforePop g s → s.waiting ≡ e ∷ w → j ≤ 27 → first_offers g e j (taken w s) ≡ goes t → Since g t
