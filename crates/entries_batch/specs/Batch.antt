-- A batch of entries: what an offer, or a cell, comes to once it is made over the field and the names alone, with the queueing left for later.
-- Definitions only.
use Rattle.std.specs.Prelude.{ℕ, zero, suc, ◌+◌, ◌<◌, max, ◌≡◌, List, ltb, get_or, Float, if◌then◌else◌}
use Rattle.lists.specs.Turns.{Turn, goes, refuses, and_then, turns}
use Rattle.queue.specs.declared.Entry.{Entry}
use Rattle.run.specs.Run.{RunInput, State, queue, queue_cell}
use Rattle.run_state.specs.declared.Progress.{Progress}
use Rattle.entries_batch.specs.declared.Batch.{Batch}

-- ---- a batch

-- entry j of it
abbrev pub entry_in_lem : Batch → ℕ → Entry
entry_in_lem b j = record { distance = get_or b.distances j 0; cell = get_or b.cells j 0; triangle = b.triangle }

-- by 0 the run goes on, by another number it is refused
unfoldable pub stop_at : ℕ → State → Turn State
stop_at zero s = goes s
stop_at (suc n) s = refuses (suc n)

-- its entries are queued one after another, and then the run stops where the batch says so
abbrev pub queue_all : RunInput → Batch → State → Turn State
queue_all g b s = and_then (turns (λ j. queue g (entry_in_lem b j)) b.count s) (stop_at b.number)

-- a state with another field and other names
abbrev pub over : List Float → List ℕ → State → State
over field names s = record { field = field; names = names; waiting = s.waiting; pops = s.pops; peak = s.peak }

-- a cell that is queued in step 2
pub record Cell (field : List Float) (names : List ℕ) (c : ℕ) (b : Batch) : Type 0 where
  pub few : b.count < 28
  pub is : (g : RunInput) (s : State) → queue_cell g c (over field names s) ≡ queue_all g b (over field names s)

-- ---- the counts

-- one more waits, or the room is full
abbrev pub queued_by : ℕ → Progress → Progress
queued_by room p =
    if ltb p.waiting room
    then record { number = 0; waiting = p.waiting + 1; pops = p.pops; peak = max p.peak (p.waiting + 1) }
    else record { number = 7; waiting = p.waiting; pops = p.pops; peak = p.peak }
