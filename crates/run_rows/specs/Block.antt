-- A block of cells added to the rows. proofs/Blocks.antt has that all blocks make the run's `rows`. Definitions only.
use Rattle.std.specs.Prelude.{ℕ, ◌+◌, ◌*◌, ◌<◌, ◌≡◌, List, length, get_or, Float}
use Rattle.std.specs.Float.{nan}
use Rattle.lists.specs.Range.{sum_below}

-- what `count` cells add that lie side by side from `at` on, each by the weight of its distance
abbrev pub run_weight : (Float → ℕ) → List Float → ℕ → ℕ → ℕ
run_weight w field at count = sum_below (λ j. w (get_or field (at + j) nan)) count

-- the block that begins at `start` has `step` cells of each layer side by side, layer after layer; each layer's are added to its row
pub record BlockAdded (w : Float → ℕ) (field : List Float) (start step : ℕ) (old new : List ℕ) : Type 0 where
  pub long : length new ≡ length old
  pub each : (n : ℕ) → n < length old → get_or new n 0 ≡ get_or old n 0 + run_weight w field (start + n * step) step
