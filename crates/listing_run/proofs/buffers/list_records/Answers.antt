-- `listing_run::buffers::list_records` meets its contract: what the call gives can be listed, since the peak keeps to the room. Assumes nothing.
use Prim.Native.Nat.{ℕ}
use native.Mathlib.Omega.{arith}
use lib.ListN.{length-replicate}
use Rattle.job_checks.specs.Job.{Job, Lent}
use Rattle.job_outcome.specs.Outcome.{outcome}
use Rattle.entries_own.specs.Own.{GivesFour, lent_own}
use Rattle.listing_run.specs.Parts.{listed_of, held_job}
use Rattle.listing_run.proofs.Same.{peak_low, given_listed, can_be_listed}
use Rattle.listing_run.proofs.buffers.list_records.Goals as goal

pub run_records-answer-requires : goal.run_records-answer-requires
run_records-answer-requires c = c.requires.room_le_most_entries

pub put_listing-requires : goal.put_listing-requires
put_listing-requires c =
    let job : Job = held_job c.args.asked c.args.vertices.now c.args.indices.now in
    let lent : Lent = let a = c.args in lent_own a.field.now a.names.now a.crossings.now a.rows.now a.room in
    let gave : GivesFour (outcome (job) (lent)) c.run_records-answer.result c.run_records-answer.new.field c.run_records-answer.new.names c.run_records-answer.new.crossings c.run_records-answer.new.rows = rw (c.grid_of-grid.ensures, c.terms_of-terms.ensures) at c.run_records-answer.ensures in
    can_be_listed (gave) (omega (arith, peak_low (job) (lent), length-replicate {A = ℕ} c.args.room 0, c.requires.room_le_most_entries))
    c.requires.room_to_list c.run_records-answer.auto.field c.run_records-answer.auto.names c.run_records-answer.auto.rows

pub returns : goal.returns
unfolding listed_of
returns c =
    let job : Job = held_job c.args.asked c.args.vertices.now c.args.indices.now in
    let lent : Lent = let a = c.args in lent_own a.field.now a.names.now a.crossings.now a.rows.now a.room in
    let gave : GivesFour (outcome (job) (lent)) c.run_records-answer.result c.run_records-answer.new.field c.run_records-answer.new.names c.run_records-answer.new.crossings c.run_records-answer.new.rows = rw (c.grid_of-grid.ensures, c.terms_of-terms.ensures) at c.run_records-answer.ensures in
    given_listed (gave) c.put_listing.ensures
