-- `geo_squares::give_each`: before the turn i each of the first i points has its value. Assumes nothing.
use Rattle.geo_squares.specs.Squares.{Alongside}
use Rattle.geo_squares.proofs.Loop.{Upto}
use Rattle.geo_squares.proofs.give_each.Given as goal

abbrev pub invariant-loop-i : goal.invariant-loop-i
invariant-loop-i g l = Alongside l.xs l.ys l.zs l.out × Upto (goal.F-post g l.value) l.xs l.ys l.zs l.i l.out
