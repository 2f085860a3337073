-- `run_seed_four::offer_four`: the state is the one after i offers in a row, and these are the offers along the line. Assumes nothing.
use mathlib.Core.Path.{◌≡◌}
use lib.ListN.{length}
use Rattle.lists.specs.Turns.{goes, turns}
use Rattle.run_seed_cells.specs.Parts.{seed_state}
use Rattle.run_seed_four.proofs.Fours.{in_row}
use Rattle.run_seed_four.proofs.offer_four.Given as goal

abbrev pub invariant-loop-i : goal.invariant-loop-i
invariant-loop-i l =
    (length l.field ≡ length l.initial.field)
    × (length l.names ≡ length l.initial.names)
    × (turns (in_row l.k l.c l.squares) l.i (seed_state l.initial.field l.initial.names) ≡ goes (seed_state l.field l.names))
