-- `listing::cells::put_cells` meets its contract: a line for each cell, one after the other. Assumes nothing.
use mathlib.Core.List.{[]}
use lib.ListN.{length}
use Rattle.lists.proofs.Puts.{Pieces}
use Rattle.listing.specs.Listing.{cell_line}
use Rattle.listing.specs.Written.{shown}
use Rattle.listing.proofs.cells.put_cells.Given as goal

abbrev pub invariant-loop-i : goal.invariant-loop-i
invariant-loop-i l = Pieces (cell_line (shown l.field l.names [])) 36 l.initial.out l.at (length l.field) l.out l.i l.next
