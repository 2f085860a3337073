-- `entries_push_all::push_all`: an entry is put in where the counts found room for it; what was done is told with the batch's own number. Assumes nothing.
use native.Mathlib.Omega.{arith}
use mathlib.Core.Path.{refl, sym, subst}
use mathlib.Core.List.{[]}
use lib.ListN.{length}
use Rattle.lists.specs.Turns.{turns}
use Rattle.queue.specs.declared.Entry.{Entry}
use Rattle.queue.specs.Keys.{by_keys}
use Rattle.run_state.specs.declared.Progress.{Progress}
use Rattle.run_state.proofs.Loops.{begins, goes_on, stops, ends}
use Rattle.entries.specs.Row.{PushedRow}
use Rattle.entries.proofs.Projections.{held_in, same_room}
use Rattle.entries_batch.specs.Batch.{queue_all}
use Rattle.entries_state.specs.Records.{ToldByKeysRow}
use Rattle.entries_push_all.proofs.Pushing.{queues, had_room, goes_in, stays_out, then_stopped}
use Rattle.entries_push_all.proofs.push_all.Goals as goal
use Rattle.entries_push_all.proofs.push_all.Goals.{else-loop-j-test, then-loop-j-test+then-reached-ne0}

pub loop-j-init : goal.loop-j-init
loop-j-init c = λ field names. begins (queues c.args.b) c.requires.1 c.requires.0

pub queued-reached-requires : goal.queued-reached-requires
queued-reached-requires c = held_in c.loop-j.row c.loop-j.reached.waiting (c.loop-j.invariant [] []).held

pub push-requires : goal.push-requires
push-requires c =
    ((c.loop-j.invariant [] []).held, had_room (length c.loop-j.row) c.loop-j.reached c.queued-reached.ensures c.if-reached-ne0.false)

pub loop-j-preserved : goal.loop-j-preserved
loop-j-preserved c =
    let b = c.args.b in
    let q = c.loop-j.row in
    let q' = c.push.new.row in
    let p = c.loop-j.reached in
    let in_it = subst (λ (e : Entry). PushedRow by_keys e q q' p.waiting) c.entry_in-e.ensures c.push.ensures in
    λ field names. goes_on (queues b) (c.loop-j.invariant field names)
    (goes_in (length q) p c.queued-reached.ensures q (c.loop-j.invariant field names).held refl b c.loop-j.j field names q' c.if-reached-ne0.false in_it)
    refl refl (same_room q q' c.push.auto.row) c.if-reached-ne0.false

pub returns : goal.returns
returns c = λ field names.
    let b = c.args.b in
    let q = c.loop-j.row in
    let p = c.loop-j.reached in
    let a = c.loop-j.invariant field names in
    let told = λ (r : Progress). ToldByKeysRow (λ g. turns (queues b g) b.count) field names c.args.row.now c.args.at field names q r in
    subst (λ (r : Progress). ToldByKeysRow (λ g. queue_all g b) field names c.args.row.now c.args.at field names q r) (sym c.stopped.ensures)
    (then_stopped b (elim c.loop-j-test.branch [
      | else-loop-j-test w ↦ subst told (sym w.reached-is) (ends (queues b) b.count a (omega arith))
      | then-loop-j-test+then-reached-ne0 w ↦ subst told (sym w.reached-is)
          (stops (queues b) a (stays_out (length q) p w.queued-reached.ensures q a.held refl b c.loop-j.j field names w.if-reached-ne0.true) b.count w.if-reached-ne0.true w.loop-j-test.true)
    ]))
