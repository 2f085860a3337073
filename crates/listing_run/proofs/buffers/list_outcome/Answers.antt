-- `listing_run::buffers::list_outcome` meets its contract: what the call gives can be listed, since the peak keeps to the room. Assumes nothing.
use native.Mathlib.Omega.{arith}
use Rattle.job_checks.specs.Job.{Job, Lent, lent_of}
use Rattle.job_outcome.specs.Outcome.{outcome}
use Rattle.entries_own.specs.Own.{GivesFour}
use Rattle.listing_run.specs.Parts.{listed_of, held_job}
use Rattle.listing_run.proofs.Same.{peak_low, of_four, given_listed, can_be_listed}
use Rattle.listing_run.proofs.buffers.list_outcome.Goals as goal

pub put_listing-requires : goal.put_listing-requires
put_listing-requires c =
    let job : Job = held_job c.args.asked c.args.vertices.now c.args.indices.now in
    let lent : Lent =
    let a = c.args in
    lent_of a.field.now a.names.now a.crossings.now a.rows.now a.distances.now a.cells.now a.triangles.now in
    let gave : GivesFour (outcome (job) (lent)) c.generate_grid_sdf-answer.result c.generate_grid_sdf-answer.new.field c.generate_grid_sdf-answer.new.names c.generate_grid_sdf-answer.new.crossings c.generate_grid_sdf-answer.new.rows =
    of_four (rw (c.grid_of-grid.ensures, c.terms_of-terms.ensures) at c.generate_grid_sdf-answer.ensures) in
    can_be_listed (gave) (omega (arith, peak_low (job) (lent), c.requires.distances_len_bound)) c.requires.room_to_list c.generate_grid_sdf-answer.auto.field c.generate_grid_sdf-answer.auto.names c.generate_grid_sdf-answer.auto.rows

pub returns : goal.returns
unfolding listed_of
returns c =
    let job : Job = held_job c.args.asked c.args.vertices.now c.args.indices.now in
    let lent : Lent =
    let a = c.args in
    lent_of a.field.now a.names.now a.crossings.now a.rows.now a.distances.now a.cells.now a.triangles.now in
    let gave : GivesFour (outcome (job) (lent)) c.generate_grid_sdf-answer.result c.generate_grid_sdf-answer.new.field c.generate_grid_sdf-answer.new.names c.generate_grid_sdf-answer.new.crossings c.generate_grid_sdf-answer.new.rows =
    of_four (rw (c.grid_of-grid.ensures, c.terms_of-terms.ensures) at c.generate_grid_sdf-answer.ensures) in
    given_listed (gave) c.put_listing.ensures
