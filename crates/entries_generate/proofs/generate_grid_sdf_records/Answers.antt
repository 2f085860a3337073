-- `entries_generate::generate_grid_sdf_records`: the refusals that change nothing, or the row cleared, the run and what follows it; and the row cleared again
-- where the run was refused. Each is a law of Records.antt. Assumes nothing.
use mathlib.Core.Path.{sym, ap}
use Rattle.refusals.specs.Numbers.{refusal_number}
use Rattle.job_outcome.proofs.Numbers.{closed_told}
use Rattle.entries_generate.proofs.Records.{refused_first, fits, is_long, seeds, field_long, ends, done_with, cleared_after}
use Rattle.mesh.specs.Lent.{mesh_in}
use Rattle.entries_generate.proofs.generate_grid_sdf_records.Goals as goal

pub returns-in-Err : goal.returns-in-Err
returns-in-Err c =
    let a = c.args in
    let t = a.terms in
    let b = c.begin-begun in
    refused_first a.grid (mesh_in a.mesh) t.sign t.limit t.edition a.field.now a.names.now a.crossings.now a.rows.now a.queue.now
    b.new.field b.new.names b.result b.ensures c.in-Err.refusal (sym (ap refusal_number c.in-Err.is))

pub run_row-ran-requires : goal.run_row-ran-requires
run_row-ran-requires c =
    let a = c.args in
    let t = a.terms in
    let m = mesh_in a.mesh in
    let b = c.begin-begun in
    let z = c.in-Ok.is in
    let q = c.clear in (
      fits a.grid m t.sign t.limit t.edition a.field.now a.names.now a.crossings.now a.rows.now a.queue.now b.new.field b.new.names b.result b.ensures _ z,
      seeds a.grid m t.sign t.limit t.edition a.field.now a.names.now a.crossings.now a.rows.now a.queue.now b.new.field b.new.names b.result b.ensures _ z
          b.auto.field b.auto.names q.new.row q.auto.row q.ensures,
    )

pub close-told-requires : goal.close-told-requires
close-told-requires c =
    let a = c.args in
    let t = a.terms in
    let m = mesh_in a.mesh in
    let b = c.begin-begun in
    let z = c.in-Ok.is in
    let q = c.clear in
    let r = c.run_row-ran in (
      fits a.grid m t.sign t.limit t.edition a.field.now a.names.now a.crossings.now a.rows.now a.queue.now b.new.field b.new.names b.result b.ensures _ z,
      field_long a.grid m t.sign t.limit t.edition a.field.now a.names.now a.crossings.now a.rows.now a.queue.now b.new.field b.new.names b.result b.ensures _ z
          b.auto.field b.auto.names q.new.row q.auto.row q.ensures
          r.new.field r.new.names r.new.row r.result r.auto.field r.auto.names r.auto.row r.ensures,
      is_long a.grid m t.sign t.limit t.edition a.field.now a.names.now a.crossings.now a.rows.now a.queue.now b.new.field b.new.names b.result b.ensures _ z,
    )

-- the run's number is one that a run may end by
pub answer_of-answer-requires : goal.answer_of-answer-requires
answer_of-answer-requires c =
    let a = c.args in
    let t = a.terms in
    let m = mesh_in a.mesh in
    let b = c.begin-begun in
    let z = c.in-Ok.is in
    let q = c.clear in
    let r = c.run_row-ran in
    closed_told r.result c.close-told.result c.close-told.ensures
    (ends a.grid m t.sign t.limit t.edition a.field.now a.names.now a.crossings.now a.rows.now a.queue.now b.new.field b.new.names b.result b.ensures _ z
    b.auto.field b.auto.names q.new.row q.auto.row q.ensures
    r.new.field r.new.names r.new.row r.result r.auto.field r.auto.names r.auto.row r.ensures)

-- nothing waits
pub returns-then-ran-eq0 : goal.returns-then-ran-eq0
returns-then-ran-eq0 c =
    let a = c.args in
    let t = a.terms in
    let m = mesh_in a.mesh in
    let b = c.begin-begun in
    let z = c.in-Ok.is in
    let q = c.clear in
    let r = c.run_row-ran in
    let e = c.close-told in
    done_with a.grid m t.sign t.limit t.edition a.field.now a.names.now a.crossings.now a.rows.now a.queue.now b.new.field b.new.names b.result b.ensures _ z
    b.auto.field b.auto.names q.new.row q.auto.row q.ensures
    r.new.field r.new.names r.new.row r.result r.auto.field r.auto.names r.auto.row r.ensures
    e.new.field e.new.names e.new.crossings e.new.rows e.result e.ensures c.answer_of-answer.result c.answer_of-answer.ensures c.if-ran-eq0.true

-- the run was refused
pub returns : goal.returns
returns c =
    let a = c.args in
    let t = a.terms in
    let m = mesh_in a.mesh in
    let b = c.begin-begun in
    let z = c.in-Ok.is in
    let q = c.clear in
    let r = c.run_row-ran in
    let e = c.close-told in
    cleared_after a.grid m t.sign t.limit t.edition a.field.now a.names.now a.crossings.now a.rows.now a.queue.now b.new.field b.new.names b.result b.ensures _ z
    b.auto.field b.auto.names q.new.row q.auto.row q.ensures
    r.new.field r.new.names r.new.row r.result r.auto.field r.auto.names r.auto.row r.ensures
    e.new.field e.new.names e.new.crossings e.new.rows e.result e.ensures c.answer_of-answer.result c.answer_of-answer.ensures c.if-ran-eq0.false c.clear-2.new.row c.clear-2.ensures
