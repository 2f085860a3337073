-- `facet_stale::count_named`: n of the cells before this one name a triangle. Assumes nothing.
use Prim.Native.Nat.{ℕ}
use native.Mathlib.Omega.{arith}
use mathlib.Core.Path.{sym}
use mathlib.Core.Bool.{Bool}
use lib.ListN.{get_or}
use borrow.Author.Tests.{lt-ltb, le-ltb}
use Rattle.lists.proofs.Range.{count_none, count_passed, count_failed, count_le}
use Rattle.facet_stale.proofs.count_named.Invariants.{names_one}
use Rattle.facet_stale.proofs.count_named.Goals as goal
use Rattle.facet_stale.proofs.count_named.Goals.{then-name-triangles, else-name-triangles}

pub loop-name-init : goal.loop-name-init
loop-name-init c = sym (count_none (names_one c.args.triangles c.args.names.now))

pub overflow_add-n : goal.overflow_add-n
overflow_add-n c =
    omega (arith, c.loop-name.invariant, count_le (names_one c.args.triangles c.args.names.now) c.loop-name.name-index)

pub loop-name-preserved : goal.loop-name-preserved
loop-name-preserved c =
    let test : ℕ → Bool = names_one c.args.triangles c.args.names.now in
    let l = c.loop-name in
    let name = get_or c.args.names.now l.name-index 0 in
    elim c.if-name-triangles.branch [
      | then-name-triangles w ↦ omega (arith, l.invariant, count_passed test l.name-index (lt-ltb name c.args.triangles (omega arith)))
      | else-name-triangles w ↦ omega (arith, l.invariant, count_failed test l.name-index (le-ltb name c.args.triangles (omega arith)))
    ]
