-- What a row means, by either method of the signs and either edition of the table (document 02, §2, §8 and §11). In edition 1 it counts the cells
-- whose sign bit is set; in edition 2 it is in half cells. By rays "a cell counts as inside when at least two of its crossing counts are odd, which is when
-- its sign bit is set": of each cell and of each row. And "the rows sum to the total over all cells", shown once over both editions and all three upright
-- axes. So it is of every job that is done, and of the lent buffers after a call. Definitions only; proofs/Theorem.antt shows that they hold
-- (`rows_mean`, `rows_after_a_call`, `rows_after_a_call_from_c`).
use Rattle.std.specs.Prelude.{ℕ, ◌+◌, ◌*◌, ◌<◌, ◌≡◌, Bool, ◌&&◌, ◌⊎◌, List, leb, eqb, length, get_or, Float, Ok}
use Rattle.std.specs.Float.{nan}
use Rattle.float.specs.Arith.{◌≺◌, ◌≐◌, f0}
use Rattle.float.specs.Steps.{abs_of, sign_bit}
use Rattle.lists.specs.Range.{count_below, sum_below}
use Rattle.terms.specs.declared.SignMethod.{SignMethod}
use Rattle.terms.specs.declared.SignMethod.TheVariants.{Raycast}
use Rattle.point.specs.declared.Axis.{Axis}
use Rattle.grid.specs.declared.Grid.{Grid}
use Rattle.grid.specs.Index.{cell_at, total}
use Rattle.grid.specs.Layers.{layers, layer_of}
use Rattle.mesh.specs.Mesh.{Mesh}
use Rattle.run.specs.Signs.{crossings, row_weight}
use Rattle.job_checks.specs.Job.{Job, Lent}
use Rattle.refusals.specs.Numbers.{given}
use Rattle.job_outcome.specs.declared.Tally.{Tally}
use Rattle.job_outcome.specs.Outcome.{Answer, Gives, outcome}
use Rattle.c_job.specs.declared.SdfJobAnswer.{SdfJobAnswer}
use Rattle.c_job.specs.Job.{GivesC}
use Rattle.demand_3.specs.Meaning.{count_left, odd_ones}

-- "at least two of its crossing counts are odd", of the cell of index i, by the counts in the lent crossings
abbrev pub two_or_more_odd : List ℕ → ℕ → Bool
two_or_more_odd counts i = leb 2 (odd_ones (count_left counts i))

-- how many cells of layer n pass the test
abbrev pub in_layer : Grid → ℕ → (ℕ → Bool) → ℕ
in_layer grid n test = count_below (λ i. eqb (layer_of grid i) n && test i) (total grid)

-- of the distance that a lent field holds for the cell of index i: its sign bit, "a magnitude above zero", "magnitude zero with either sign"
abbrev pub is_set : Lent → ℕ → Bool
is_set left i = sign_bit (get_or left.field i nan)

abbrev pub above_zero : Lent → ℕ → Bool
above_zero left i = f0 ≺ abs_of (get_or left.field i nan)

abbrev pub at_zero : Lent → ℕ → Bool
at_zero left i = abs_of (get_or left.field i nan) ≐ f0

-- Row n, where a test tells the cells that are inside. Edition 1: how many of its layer's cells are.
abbrev pub whole_row : Grid → ℕ → (ℕ → Bool) → ℕ
whole_row grid n within = in_layer grid n within

-- Edition 2, in half cells: "2 for a set sign bit and a magnitude above zero, 1 for magnitude zero with either sign, 0 otherwise"
abbrev pub half_row : Grid → Lent → ℕ → (ℕ → Bool) → ℕ
half_row grid left n within = 2 * in_layer grid n (λ i. within i && above_zero left i) + in_layer grid n (at_zero left)

-- the rows of the edition, where that test tells which cells are inside
pub record RowsBy (edition : ℕ) (grid : Grid) (left : Lent) (within : ℕ → Bool) : Type 0 where
  pub edition_1 : edition ≡ 1 → (n : ℕ) → n < layers grid → get_or left.rows n 0 ≡ whole_row grid n within
  pub edition_2 : edition ≡ 2 → (n : ℕ) → n < layers grid → get_or left.rows n 0 ≡ half_row grid left n within

-- what the buffers hold after the call, where rays give the signs
pub record ByRays (edition : ℕ) (grid : Grid) (mesh : Mesh) (left : Lent) : Type 0 where
  -- a cell's sign bit is set exactly when at least two of its counts are odd, and these are the counts of the definition
  pub cell : (i : ℕ) → i < total grid → is_set left i ≡ two_or_more_odd left.crossings i
  pub counts : (i : ℕ) → i < total grid → (axis : Axis) → count_left left.crossings i axis ≡ crossings grid mesh axis (cell_at grid i)
  -- so the cells of a row that are inside are those with two or more odd counts
  pub row_counts_inside : RowsBy edition grid left (two_or_more_odd left.crossings)

-- the sum of all rows
abbrev pub all_rows : List ℕ → ℕ
all_rows rows = sum_below (λ n. get_or rows n 0) (length rows)

-- the sum of what all cells of the grid weigh, whatever their layer
abbrev pub all_cells : (Float → ℕ) → Grid → List Float → ℕ
all_cells w grid field = sum_below (λ i. w (get_or field i nan)) (total grid)

-- By either method there is a row for each layer, by the sign bits of its cells; the edition is one of the two; and the rows sum to the total over
-- all cells.
pub record RowsMean (sign : SignMethod) (edition : ℕ) (grid : Grid) (mesh : Mesh) (left : Lent) : Type 0 where
  pub row_each : length left.rows ≡ layers grid
  pub row_by_sign : RowsBy edition grid left (is_set left)
  pub one_or_two : (edition ≡ 1) ⊎ (edition ≡ 2)
  pub rows_sum : all_rows left.rows ≡ all_cells (row_weight edition) grid left.field
  pub by_rays : sign ≡ Raycast → ByRays edition grid mesh left

-- of the outcome that the public job's contract names
abbrev pub RowsOfOutcome : Job → Lent → Type 0
RowsOfOutcome j b = (t : Tally) → (outcome j b).answer ≡ given t → RowsMean j.sign j.edition j.grid j.mesh (outcome j b).left

-- of a call of the public function, by its contract: it was given the job j and lent the buffers b, and it answered and left this
abbrev pub RowsAfterCall : Job → Lent → Answer → Lent → Type 0
RowsAfterCall j b answer left = Gives (outcome j b) answer left → (t : Tally) → answer ≡ Ok t → RowsMean j.sign j.edition j.grid j.mesh left

-- the same of a call from C, which sees its number
abbrev pub RowsAfterCallFromC : Job → Lent → SdfJobAnswer → Lent → Type 0
RowsAfterCallFromC j b answer left = GivesC (outcome j b) answer left → answer.number ≡ 0 → RowsMean j.sign j.edition j.grid j.mesh left
