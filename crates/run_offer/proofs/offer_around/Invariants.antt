-- `offer_around`: the loop's turns are the offers, one for each step. Assumes nothing.
use Prim.Native.Nat.{ℕ}
use mathlib.Core.List.{List}
use lib.ListN.{get_or}
use lib.Ieee.{Float, nan}
use Rattle.float_shortcut.specs.Shown.{signed_root}
use Rattle.lists.specs.Turns.{Turn}
use Rattle.run.specs.Run.{RunInput, State, queue}
use Rattle.run_around.specs.Around.{place_of, offer_place}
use Rattle.run_state.proofs.Loops.{After}
use Rattle.run_offer.proofs.offer_around.Given as goal

-- turn j
abbrev pub turn : ℕ → List ℕ → List Float → RunInput → ℕ → State → Turn State
turn k to squares g j = offer_place (queue g) k (place_of (get_or to j 0)) (signed_root (get_or squares j nan))

abbrev pub invariant-loop-j : goal.invariant-loop-j
invariant-loop-j l =
    After (turn l.k l.to l.squares) l.initial.field l.initial.names l.initial.distances l.initial.cells l.initial.triangles l.initial.reached l.j l.field l.names l.distances l.cells l.triangles l.reached
