-- A batch is queued: each entry is put in or finds no room, by the test of the counts; and then the batch's own number is told. Assumes nothing.
use Prim.Native.Nat.{ℕ, zero, suc, ◌≤◌, ◌<◌}
use native.Mathlib.Omega.{arith}
use native.Mathlib.Decide.{ℕ_discrete}
use mathlib.Core.Path.{◌≡◌, refl, sym, ap, ◌∙◌}
use mathlib.Core.List.{List}
use lib.ListN.{length}
use lib.Ieee.{Float}
use Rattle.lists.specs.Turns.{Turn, told, turns}
use Rattle.lists.proofs.Turns.{then_goes, then_refuses, told_goes, told_refuses}
use Rattle.queue.specs.declared.Entry.{Entry}
use Rattle.queue.specs.Keys.{by_keys}
use Rattle.run.specs.Run.{RunInput, State, queue}
use Rattle.run_state.specs.declared.Progress.{Progress}
use Rattle.run_state.specs.Told.{ToldByKeys}
use Rattle.run_queue.proofs.Queues.{full, put_in}
use Rattle.entries.specs.Row.{HeldRow, PushedRow}
use Rattle.entries.proofs.Projections.{long_row}
use Rattle.entries_batch.specs.declared.Batch.{Batch}
use Rattle.entries_batch.specs.Batch.{entry_in_lem, stop_at, queue_all, queued_by}
use Rattle.entries_batch.proofs.Cells.{room_left, room_full}
use Rattle.entries_state.specs.Records.{stopped_by, ToldByKeysRow}
use Rattle.entries_state.proofs.Counts.{was_stopped, stops_now}
use Rattle.entries_state.proofs.Loops.{AfterRow}

-- entry j of a batch is queued
abbrev pub queues : Batch → RunInput → ℕ → State → Turn State
queues b g j = queue g (entry_in_lem b j)

-- after j entries the row is q and the counts are p, whatever the field and the names are
abbrev pub Pushing : Batch → List Entry → Progress → ℕ → List Entry → Progress → Type 0
Pushing b row at j q p = (field : List Float) (names : List ℕ) → AfterRow (queues b) field names row at j q p

-- ---- an entry

module _ (room : ℕ) (p : Progress) {p' : Progress} (is : p' ≡ queued_by room p) where
  -- by the counts there was room, or there was none
  pub had_room : p'.number ≡ 0 → p.waiting < room
  had_room z =
      let some : (room ≤ p.waiting → ⊥) = λ l. let w : ◌≡◌ {A = ℕ} 7 0 = ap (λ (r : Progress). r.number) (room_full p room l ∙ sym is) ∙ z in omega (arith, w) in
      omega (arith, some)

  no_room : (p'.number ≡ 0 → ⊥) → room ≤ p.waiting
  no_room z =
      let none : (p.waiting < room → ⊥) = λ l. z (ap (λ (r : Progress). r.number) (is ∙ sym (room_left p room _ l refl))) in
      omega (arith, none)

  module _ (q : List Entry) (h : HeldRow by_keys q p.waiting) (long : room ≡ length q) (b : Batch) (j : ℕ) (field : List Float) (names : List ℕ) where
    pub goes_in : (q' : List Entry) → p'.number ≡ 0 → PushedRow by_keys (entry_in_lem b j) q q' p.waiting → ToldByKeysRow (λ g. queues b g j) field names q p field names q' p'
    goes_in q' z w =
        let l = had_room z in
        rw (is ∙ sym (room_left p room _ l refl)) (put_in (entry_in_lem b j) h (omega (arith, l, long, long_row q)) w refl field names)

    pub stays_out : (p'.number ≡ 0 → ⊥) → ToldByKeysRow (λ g. queues b g j) field names q p field names q p'
    stays_out z =
        let l = no_room z in
        rw (is ∙ sym (room_full p room l)) (full (entry_in_lem b j) h (omega (arith, l, long, long_row q)) field names)

-- ---- and then

stops : (n : ℕ) (s : State) → stop_at n s ≡ told n s
unfolding stop_at told
stops zero s = refl
stops (suc n) s = refl

-- the batch's own number is told where none was
pub then_stopped : (b : Batch) {field : List Float} {names ds cs ts ds' cs' ts' : List ℕ} {at p : Progress}
    → ToldByKeys (λ g. turns (queues b g) b.count) field names ds cs ts at field names ds' cs' ts' p
    → ToldByKeys (λ g. queue_all g b) field names ds cs ts at field names ds' cs' ts' (stopped_by b.number p)
then_stopped b {field} {names} {ds} {cs} {ts} {ds'} {cs'} {ts'} {at} {p} t = go (ℕ_discrete p.number 0)
  where
    go : Dec (p.number ≡ 0) → ToldByKeys (λ g. queue_all g b) field names ds cs ts at field names ds' cs' ts' (stopped_by b.number p)
    go (yes z) =
        rw (sym (stops_now b.number p z)) (record {
          held = t.held;
          is = λ g o r. then_goes (stop_at b.number) (t.is g o r ∙ told_goes p.number _ z) ∙ stops b.number _;
        })
    go (no z) =
        rw (sym (was_stopped b.number p z)) (record {
          held = t.held;
          is = λ g o r. then_refuses (stop_at b.number) (t.is g o r ∙ told_refuses p.number _ z) ∙ sym (told_refuses p.number _ z);
        })
