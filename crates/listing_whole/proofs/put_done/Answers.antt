-- `listing_whole::put_done` meets its contract: its parts stand one after the other. Assumes nothing.
use native.Mathlib.Omega.{arith}
use Rattle.text.specs.Words.{line}
use Rattle.lists.proofs.Puts.{and_then}
use Rattle.listing.specs.Listing.{listed}
use Rattle.listing_whole.proofs.put_done.Goals as goal

-- what stands before the rows leaves room for them
pub put_rows-requires : goal.put_rows-requires
put_rows-requires c = record {
  rows_len_bound = c.requires.rows_few;
  rows_in_bounds = omega (
    arith,
    c.requires,
    c.put_cells-e.auto,
    c.put_cells-e.ensures.upper_bound,
    c.put_long_number-d.auto,
    c.put_long_number-d.ensures.upper_bound,
    c.put_number-c.auto,
    c.put_number-c.ensures.upper_bound,
    c.put_number-b.auto,
    c.put_number-b.ensures.upper_bound,
    c.put_number-a.auto,
    c.put_number-a.ensures.upper_bound,
  );
}

pub returns : goal.returns
unfolding listed line
returns c =
    and_then
    (and_then
    (and_then (and_then (and_then c.put_number-a.ensures.put c.put_number-b.ensures.put) c.put_number-c.ensures.put) c.put_long_number-d.ensures.put)
    c.put_cells-e.ensures.fact)
    c.put_rows.ensures.fact
