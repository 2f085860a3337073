-- `run_seed_box::lowered`: by its one test. Assumes nothing.
use mathlib.Core.Path.{◌≡◌, refl}
use mathlib.Core.Bool.{Bool, true, false, ◌&&◌}
use Prim.Native.Nat.{ℕ, ◌<◌}
use native.Mathlib.Omega.{arith}
use lib.Dec.{ltb}
use borrow.Author.Tests.{ltb-true}
use Rattle.run_seed_box.proofs.lowered.Goals as goal

above : (i : ℕ) (b : Bool) → (ltb 0 i && b) ≡ true → 0 < i
above i b h = ltb-true 0 i (first (ltb 0 i) h)
  where
    first : (a : Bool) → (a && b) ≡ true → a ≡ true
    first true h = refl
    first false h = h

pub overflow_sub-result : goal.overflow_sub-result
overflow_sub-result c = let h = above c.args.i _ c.if-i-low.true in omega arith

pub returns-then-i-low : goal.returns-then-i-low
returns-then-i-low c = rw c.if-i-low.true

pub returns-else-i-low : goal.returns-else-i-low
returns-else-i-low c = rw c.if-i-low.false
