-- `run_cross_marks::mark_row`: the lines before v are marked, and while none is, none of them may be met (`crates/run_cross_lines/proofs/Marks.antt`). Assumes nothing.
use Prim.Native.Nat.{ℕ, ◌<◌}
use mathlib.Core.Path.{◌≡◌}
use mathlib.Core.Bool.{false}
use Rattle.run_cross_lines.specs.Pass.{parts_at, may_meet, Marked}
use Rattle.run_cross_marks.proofs.mark_row.Given as goal

abbrev pub invariant-loop-v : goal.invariant-loop-v
invariant-loop-v l =
    Marked l.z0 l.z1 l.z2 l.ys l.v l.flags × (l.any ≡ false → (i : ℕ) → i < l.v → may_meet (parts_at l.z0 l.z1 l.z2 i) l.ys ≡ false)
