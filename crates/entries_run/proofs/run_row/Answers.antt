-- `entries_run::run_row`: seeding may have been refused; else the cells are queued, and what waits is spread. Each way out is a law of Rows.antt, at the counts
-- that `begun` gave. Assumes nothing.
use mathlib.Core.Path.{◌≡◌, sym, ap, subst, ◌∙◌}
use lib.ListN.{length}
use Rattle.refusals.specs.Numbers.{refusal_number}
use Rattle.mesh.specs.Mesh.{mesh_of}
use Rattle.queue.specs.Keys.{by_keys}
use Rattle.run_seed_cells.proofs.Told.{never_none}
use Rattle.run_state.specs.declared.Progress.{Progress}
use Rattle.entries.specs.Row.{HeldRow}
use Rattle.entries_state.specs.Records.{QueuedCellsRow}
use Rattle.entries_run.specs.Seeded.{begun_by}
use Rattle.entries_run.proofs.Rows.{LeavesRow, cells_few, seeding_refused, queueing_refused, queueing_holds, queueing_good, none_taken, spreading_ends}
use Rattle.mesh.specs.Lent.{mesh_in}
use Rattle.entries_run.proofs.run_row.Goals as goal
use Rattle.entries_run.proofs.run_row.Goals.{After-queue_cells-queued}

-- seeding went on
went_on : (c : After-queue_cells-queued) → refusal_number c.args.seeded ≡ 0
went_on c = ap refusal_number c.in_default.is

-- and what was queued began from what it came to
queued : (c : After-queue_cells-queued) → QueuedCellsRow c.args.field.now c.args.names.now c.args.row.now (begun_by (refusal_number c.args.seeded)) c.queue_cells-queued.new.row c.queue_cells-queued.result
queued c =
    let a = c.args in
    let q = c.queue_cells-queued in
    subst (λ (r : Progress). QueuedCellsRow a.field.now a.names.now a.row.now r q.new.row q.result) (c.begun-at.ensures ∙ ap begun_by (sym (went_on c))) q.ensures

pub returns-in-Err : goal.returns-in-Err
returns-in-Err c =
    let a = c.args in
    let number = ap refusal_number c.in-Err.is in
    subst (λ (r : Progress). LeavesRow a.grid (mesh_in a.mesh) a.terms.sign (length a.row.now) a.terms.limit a.field.now a.names.now a.row.now r)
    (sym (c.begun.ensures ∙ ap begun_by (c.number.ensures ∙ sym number)))
    (seeding_refused c.requires.0 c.requires.1 a.terms.limit (λ z. never_none _ (sym number ∙ z)))

pub queue_cells-queued-requires : goal.queue_cells-queued-requires
queue_cells-queued-requires c =
    let s = c.requires.1 in (
      subst (λ (r : Progress). HeldRow by_keys c.args.row.now r.waiting) (sym c.begun-at.ensures) s.empty,
      ap (λ (r : Progress). r.number) c.begun-at.ensures,
      s.names_long ∙ sym s.field_long,
      cells_few c.requires.0 s,
    )

pub returns-then-queued-ne0 : goal.returns-then-queued-ne0
returns-then-queued-ne0 c =
    let at = (goal.at.returns-then-queued-ne0 c).After-queue_cells-queued in
    queueing_refused c.requires.0 c.requires.1 (went_on at) c.queue_cells-queued.new.row (queued at) c.args.terms.limit c.if-queued-ne0.true

pub spread-requires : goal.spread-requires
spread-requires c =
    let at = (goal.at.spread-requires c).After-queue_cells-queued in
    let fit = c.requires.0 in
    let s = c.requires.1 in
    let q = c.queue_cells-queued in
    let y = c.if-queued-ne0.false in (
      fit,
      queueing_holds fit s (went_on at) q.new.row (queued at),
      queueing_good fit s (went_on at) q.new.row (queued at) q.auto.row y,
      y,
      none_taken fit s (went_on at) q.new.row (queued at) q.auto.row y,
    )

pub returns : goal.returns
returns c =
    let at = (goal.at.returns c).After-queue_cells-queued in
    let q = c.queue_cells-queued in
    let new = c.spread.new in
    spreading_ends c.requires.0 c.requires.1 (went_on at) q.new.row (queued at) q.auto.row c.if-queued-ne0.false c.args.terms.limit new.field new.names new.row c.spread.result c.spread.ensures
