-- `run_rows::count_run`: after j cells the sum is what they add. Assumes nothing.
use Prim.Native.Nat.{ℕ, ◌+◌}
use native.Mathlib.Omega.{arith}
use mathlib.Core.Path.{◌≡◌, sym, ap₂, ◌∙◌}
use mathlib.Core.List.{List}
use lib.ListN.{get_or}
use lib.Ieee.{Float, nan}
use Rattle.lists.proofs.Range.{sum_none, sum_more}
use Rattle.run.specs.Signs.{row_weight}
use Rattle.run_rows.specs.Block.{run_weight}
use Rattle.run_rows.proofs.Blocks.{run_few}
use Rattle.run_rows.proofs.count_run.Goals as goal

-- the sum with a cell more
summed : (w : Float → ℕ) (field : List Float) (at j : ℕ) {sum cell : ℕ} → sum ≡ run_weight w field at j → cell ≡ w (get_or field (at + j) nan)
    → sum + cell ≡ run_weight w field at (j + 1)
summed w field at j before counts =
    ap₂ (λ (m : ℕ) (n : ℕ). m + n) before counts ∙ sym (sum_more (λ k. w (get_or field (at + k) nan)) j)

pub loop-j-init : goal.loop-j-init
loop-j-init c = sym (sum_none _)

pub overflow_add-sum : goal.overflow_add-sum
overflow_add-sum c =
    let a = c.args in
    let l = c.loop-j in
    omega (arith, summed (row_weight a.edition) a.field.now a.at l.j l.invariant c.weight-sum.ensures, run_few a.edition a.field.now a.at (l.j + 1), c.requires.1)

pub loop-j-preserved : goal.loop-j-preserved
loop-j-preserved c =
    let a = c.args in
    let l = c.loop-j in
    summed (row_weight a.edition) a.field.now a.at l.j l.invariant c.weight-sum.ensures
