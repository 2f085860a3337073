-- `listing_run::buffers::put_listing` meets its contract: what can be written is. Assumes nothing.
use Rattle.listing_run.proofs.buffers.put_listing.Goals as goal

pub returns-in-Some : goal.returns-in-Some
returns-in-Some c =
    (rw c.in-Some.is at c.write_listing-written.ensures).1

pub returns-in-None : goal.returns-in-None
returns-in-None c =
    absurd ((rw c.in-None.is at c.write_listing-written.ensures).0 c.requires)
