-- `listing::cells::put_rows` meets its contract: a line for each layer, one after the other. Assumes nothing.
use mathlib.Core.List.{[]}
use lib.ListN.{length}
use Rattle.lists.proofs.Puts.{Pieces}
use Rattle.listing.specs.Listing.{row_line}
use Rattle.listing.specs.Written.{shown}
use Rattle.listing.proofs.cells.put_rows.Given as goal

abbrev pub invariant-loop-layer : goal.invariant-loop-layer
invariant-loop-layer l = Pieces (row_line (shown [] [] l.rows)) 26 l.initial.out l.at (length l.rows) l.out l.layer l.next
