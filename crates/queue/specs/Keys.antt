-- Where the triple never decides: among entries of which no two agree in distance and cell, which is what waits in a run. Nothing here is part
-- of what a user must believe: it carries the promise of the step that takes an entry from the queue to the run. Definitions only.
use Rattle.std.specs.Prelude.{◌≡◌, Bool, leb}
use mathlib.Core.List.{List, [], ◌∷◌, Memᴰ}
use Rattle.queue.specs.declared.Entry.{Entry}
use Rattle.queue.specs.Order.{smaller, larger}

-- two entries that do not agree in both distance and cell
abbrev pub Differ : Entry → Entry → Type 0
Differ x y = x.distance ≡ y.distance → x.cell ≡ y.cell → ⊥

-- each differs from all behind it
abbrev pub Apart : List Entry → Type 0
Apart [] = Unit {0}
Apart (x ∷ l) = ((y : Entry) → Memᴰ y l → Differ x y) × Apart l

-- By what lies in the entries alone: the smaller distance, the larger cell, and then the smaller number of the triangle. The queue
-- compares by this. Of two entries that differ it says what `goes_first` says, whatever the triples are (proofs/Keys.antt).
unfoldable pub by_keys : Entry → Entry → Bool
by_keys x y = smaller x.distance y.distance (larger x.cell y.cell (leb x.triangle y.triangle))
