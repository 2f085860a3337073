-- What a cell queues in step 2, by its test; and the counts, by theirs. Assumes nothing.
use Rattle.std.specs.Prelude.{if◌then◌else◌}
use Prim.Native.Nat.{ℕ, ◌<◌, ◌≤◌, ◌+◌, max}
use native.Mathlib.Omega.{arith}
use mathlib.Core.Path.{◌≡◌, sym, ap, ◌∙◌}
use mathlib.Core.Bool.{Bool, true, false}
use mathlib.Core.List.{List}
use lib.ListN.{get_or}
use lib.Ieee.{Float, nan}
use borrow.Author.Tests.{lt-ltb, le-ltb}
use Rattle.float.specs.Arith.{◌≺◌, f_max}
use Rattle.lists.specs.Turns.{goes, and_then, turns}
use Rattle.lists.proofs.Turns.{then_nothing}
use Rattle.queue.specs.declared.Entry.{Entry}
use Rattle.queue.specs.Keys.{by_keys}
use Rattle.run.specs.Run.{entry, queue, queue_cell}
use Rattle.run_state.specs.declared.Progress.{Progress}
use Rattle.run_state.specs.Told.{state_of, ToldByKeys}
use Rattle.entries_batch.specs.declared.Batch.{Batch}
use Rattle.entries_batch.specs.Batch.{entry_in_lem, stop_at, queue_all, over, Cell, queued_by}

-- ---- a cell of step 2

module _ (field : List Float) (names : List ℕ) (c : ℕ) (b : Batch) (z : b.number ≡ 0) where
  pub cell_none : (get_or field c nan ≺ f_max) ≡ false → b.count ≡ 0 → Cell field names c b
  unfolding queue_cell turns and_then stop_at
  cell_none t n = record {
    few = omega (arith, n);
    is = λ g s.
        ap (λ (y : Bool). if y then queue g (entry (get_or field c nan) c (get_or names c 0)) (over field names s) else goes (over field names s)) t
        ∙ λ i. and_then (turns (λ j. queue g (entry_in_lem b j)) (sym n i) (over field names s)) (stop_at (sym z i));
  }

  pub cell_one : (get_or field c nan ≺ f_max) ≡ true → b.count ≡ 1 → entry_in_lem b 0 ≡ entry (get_or field c nan) c (get_or names c 0) → Cell field names c b
  unfolding queue_cell turns and_then stop_at
  cell_one t n e = record {
    few = omega (arith, n);
    is = λ g s.
        ap (λ (y : Bool). if y then queue g (entry (get_or field c nan) c (get_or names c 0)) (over field names s) else goes (over field names s)) t
        ∙ ap (λ (x : Entry). queue g x (over field names s)) (sym e)
        ∙ sym (then_nothing (queue g (entry_in_lem b 0) (over field names s)))
        ∙ λ i. and_then (turns (λ j. queue g (entry_in_lem b j)) (sym n i) (over field names s)) (stop_at (sym z i));
  }

-- it is queued as its batch is
pub cell_queued : {field : List Float} {names ds cs ts ds' cs' ts' : List ℕ} {c : ℕ} {b : Batch} {p r : Progress} → Cell field names c b
    → ToldByKeys (λ g. queue_all g b) field names ds cs ts p field names ds' cs' ts' r → ToldByKeys (λ g. queue_cell g c) field names ds cs ts p field names ds' cs' ts' r
cell_queued {field} {names} {ds} {cs} {ts} {p = p} cell all =
    record { held = all.held; is = λ g o w. cell.is g (state_of by_keys field names ds cs ts p) ∙ all.is g o w }

-- ---- the counts

pub room_left : (p : Progress) (room peak : ℕ) → p.waiting < room → peak ≡ max p.peak (p.waiting + 1)
    → ◌≡◌ {A = Progress} (record { number = 0; waiting = p.waiting + 1; pops = p.pops; peak = peak }) (queued_by room p)
room_left p room peak l m =
    ap (λ (k : ℕ). record { number = 0; waiting = p.waiting + 1; pops = p.pops; peak = k }) m
    ∙ ap (λ (t : Bool). if t then record { number = 0; waiting = p.waiting + 1; pops = p.pops; peak = max p.peak (p.waiting + 1) } else record { number = 7; waiting = p.waiting; pops = p.pops; peak = p.peak }) (sym (lt-ltb p.waiting room l))

pub room_full : (p : Progress) (room : ℕ) → room ≤ p.waiting → ◌≡◌ {A = Progress} (record { number = 7; waiting = p.waiting; pops = p.pops; peak = p.peak }) (queued_by room p)
room_full p room l =
    ap (λ (t : Bool). if t then record { number = 0; waiting = p.waiting + 1; pops = p.pops; peak = max p.peak (p.waiting + 1) } else record { number = 7; waiting = p.waiting; pops = p.pops; peak = p.peak }) (sym (le-ltb p.waiting room l))
