-- `slices::add_each`: after i turns one was added at each of the first i places (`proofs/Steps.antt`). Assumes nothing.
use Prim.Native.Nat.{◌+◌, ◌*◌}
use native.Mathlib.Omega.{arith}
use Rattle.slices.proofs.Steps.{stepped_more, stepped_fresh}
use Rattle.slices.proofs.add_each.Goals as goal

pub overflow_add-s-in-loop-i : goal.overflow_add-s-in-loop-i
overflow_add-s-in-loop-i c =
    let a = c.args in
    let l = c.loop-i in
    let fresh = stepped_fresh a.start a.step l.i a.s.now l.s c.requires.step_nonzero l.invariant in
    omega (arith, c.requires.room (a.start + l.i * a.step))

pub loop-i-preserved : goal.loop-i-preserved
loop-i-preserved c =
    let a = c.args in
    let l = c.loop-i in
    let here = c.requires.places_below l.i c.loop-i-test.true in
    stepped_more a.start a.step l.i a.s.now l.s c.requires.step_nonzero (omega arith) l.invariant
