-- `gather`: the invariant is that what was offered comes to the entries so far. Assumes nothing.
use Rattle.entries_gather.proofs.Gathering.{Gathering}
use Rattle.entries_gather.proofs.gather.Given as goal

abbrev pub invariant-loop-j : goal.invariant-loop-j
invariant-loop-j l =
    Gathering l.k l.to l.squares l.initial.field l.initial.names l.field l.names l.cells l.distances l.count l.j
