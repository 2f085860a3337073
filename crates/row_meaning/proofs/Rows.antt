-- A magnitude has no sign bit, so the value has one exactly where it was negated. A row, a sum of weights that are 1 or 0, counts the cells that
-- have one; where the weights are 2, 1 or 0 it is two counts. And each cell is in one layer, so all rows together are all cells. Assumes nothing.
use Rattle.std.specs.Prelude.{if◌then◌else◌}
use Prim.Native.Nat.{ℕ, ◌+◌, ◌*◌, ◌<◌}
use mathlib.Core.Path.{◌≡◌, refl, sym, ap, ap₂, ◌∙◌}
use mathlib.Core.Bool.{Bool, true, false, ◌&&◌, cond, true≢false}
use mathlib.Core.List.{List}
use lib.Dec.{eqb}
use lib.ListN.{length, get_or}
use lib.Ieee.{Float, nan, inf, fin, neg}
use Rattle.float.specs.Steps.{sign_bit}
use Rattle.float.specs.Distance.{unsigned}
use Rattle.lists.specs.Range.{sum_below}
use Rattle.lists.proofs.Range.{count_same, count_sum, sum_same, sum_plus, sum_times, sum_by}
use Rattle.lists.proofs.Table.{length_table, table_at}
use Rattle.grid.specs.declared.Grid.{Grid}
use Rattle.point.specs.declared.Axis.TheVariants.{Y, Z}
use Rattle.grid.specs.Axes.{count_on}
use Rattle.grid.specs.Index.{index_of, cell_at, total}
use Rattle.grid.specs.Layers.{upright_of, layers, layer_of}
use Rattle.grid.proofs.Laws.{index_of_cell, cell_within}
use Rattle.grid.proofs.Facts.{inside_on}
use Rattle.mesh.specs.Mesh.{Mesh}
use Rattle.run.specs.Run.{RunInput}
use Rattle.run.specs.Signs.{row_weight, row_below, rows_by, rows}
use Rattle.job_checks.specs.Job.{Lent}
use Rattle.demand_3.specs.Meaning.{count_left, RaycastMeans}
use Rattle.row_meaning.specs.Rows.{two_or_more_odd, in_layer, is_set, above_zero, at_zero, RowsBy, ByRays, all_rows, all_cells}
use Rattle.row_meaning.proofs.Weights.{half_as_two}

-- ---- a cell

-- a value that had no sign bit has one exactly where it was negated
negated : (magnitude : Float) (b : Bool) → unsigned magnitude ≡ true → sign_bit (if b then neg magnitude else magnitude) ≡ b
unfolding neg
negated nan b h = absurd (true≢false (sym h))
negated (inf true) b h = absurd (true≢false (sym h))
negated (inf false) true h = refl
negated (inf false) false h = refl
negated (fin true m e) b h = absurd (true≢false (sym h))
negated (fin false m e) true h = refl
negated (fin false m e) false h = refl

-- ---- a row

-- a count of two tests, as a sum
both : (a b : Bool) → ◌≡◌ {A = ℕ} (cond (a && b) 1 0) (cond a (cond b 1 0) 0)
both true b = refl
both false b = refl

in_layer_sum : (g : Grid) (n : ℕ) (test : ℕ → Bool) → in_layer g n test ≡ sum_below (λ i. cond (eqb (layer_of g i) n) (cond (test i) 1 0) 0) (total g)
in_layer_sum g n test =
    count_sum (λ i. eqb (layer_of g i) n && test i) (total g)
    ∙ sum_same _ _ (total g) (λ i h. both (eqb (layer_of g i) n) (test i))

-- the same test of every cell, the same count
in_layer_same : (g : Grid) (n : ℕ) (p q : ℕ → Bool) → ((i : ℕ) → i < total g → p i ≡ q i) → in_layer g n p ≡ in_layer g n q
in_layer_same g n p q h =
    count_same (λ i. eqb (layer_of g i) n && p i) (λ i. eqb (layer_of g i) n && q i) (total g) (λ i l. ap (λ (b : Bool). eqb (layer_of g i) n && b) (h i l))

-- a row of a weight that is one for what passes a test; and of one that is two for what passes a test, and one for what passes another
row_whole : (g : Grid) (field : List Float) (w : Float → ℕ) (test : ℕ → Bool) → ((i : ℕ) → w (get_or field i nan) ≡ cond (test i) 1 0)
    → (n : ℕ) → row_below w g field n (total g) ≡ in_layer g n test
unfolding row_below
row_whole g field w test h n =
    sum_same _ _ (total g) (λ i l. ap (λ (k : ℕ). cond (eqb (layer_of g i) n) k 0) (h i)) ∙ sym (in_layer_sum g n test)

row_half : (g : Grid) (field : List Float) (w : Float → ℕ) (twice once : ℕ → Bool)
    → ((i : ℕ) → w (get_or field i nan) ≡ 2 * cond (twice i) 1 0 + cond (once i) 1 0)
    → (n : ℕ) → row_below w g field n (total g) ≡ 2 * in_layer g n twice + in_layer g n once
unfolding row_below
row_half g field w twice once h n =
    sum_same _ _ (total g) (λ i l. ap (λ (k : ℕ). cond (eqb (layer_of g i) n) k 0) (h i) ∙ apart (eqb (layer_of g i) n) (cond (twice i) 1 0) (cond (once i) 1 0))
    ∙ sum_plus (λ i. 2 * part twice i) (part once) (total g)
    ∙ ap (λ (k : ℕ). k + sum_below (part once) (total g)) (sum_times 2 (part twice) (total g))
    ∙ sym (ap₂ (λ (k : ℕ) (l : ℕ). 2 * k + l) (in_layer_sum g n twice) (in_layer_sum g n once))
  where
    part : (ℕ → Bool) → ℕ → ℕ
    part test i = cond (eqb (layer_of g i) n) (cond (test i) 1 0) 0

    apart : (b : Bool) (k l : ℕ) → cond b (2 * k + l) 0 ≡ 2 * cond b k 0 + cond b l 0
    apart true k l = refl
    apart false k l = refl

-- ---- the rows of the field that is left

module _ (edition : ℕ) (g : Grid) (left : Lent) (rows_left : left.rows ≡ rows edition g left.field) where
  pub row_for_each : length left.rows ≡ layers g
  unfolding rows_by
  row_for_each = ap length rows_left ∙ length_table (λ n. row_below (row_weight edition) g left.field n (total g)) (layers g)

  row_at : (n : ℕ) → n < layers g → get_or left.rows n 0 ≡ row_below (row_weight edition) g left.field n (total g)
  unfolding rows_by
  row_at n l = ap (λ (r : List ℕ). get_or r n 0) rows_left ∙ table_at (λ z. row_below (row_weight edition) g left.field z (total g)) (layers g) n 0 l

  weight_at : {e : ℕ} → edition ≡ e → (d : Float) → row_weight edition d ≡ row_weight e d
  weight_at is d = ap (λ (e : ℕ). row_weight e d) is

  pub rows_by_sign : RowsBy edition g left (is_set left)
  rows_by_sign =
      record {
        edition_1 = λ is n l. row_at n l ∙ row_whole g left.field (row_weight edition) (is_set left) (λ i. weight_at is (get_or left.field i nan)) n;
        edition_2 = λ is n l.
            row_at n l
            ∙ row_half g left.field (row_weight edition) (λ i. is_set left i && above_zero left i) (at_zero left)
            (λ i. weight_at is (get_or left.field i nan) ∙ half_as_two (get_or left.field i nan)) n;
      }

  -- where another test of the cells says what the sign bit says
  pub rows_by_test : (within : ℕ → Bool) → ((i : ℕ) → i < total g → is_set left i ≡ within i) → RowsBy edition g left within
  rows_by_test within same =
      record {
        edition_1 = λ is n l. rows_by_sign.edition_1 is n l ∙ in_layer_same g n (is_set left) within same;
        edition_2 = λ is n l.
            rows_by_sign.edition_2 is n l
            ∙ ap (λ (k : ℕ). 2 * k + in_layer g n (at_zero left))
            (in_layer_same g n (λ i. is_set left i && above_zero left i) (λ i. within i && above_zero left i) (λ i h. ap (λ (b : Bool). b && above_zero left i) (same i h)));
      }

  -- ---- and their sum: each cell is in one layer, whichever axis is upright and whatever the edition

  rows_are : (n : ℕ) → n < layers g → get_or left.rows n 0 ≡ sum_below (λ i. cond (eqb (layer_of g i) n) (row_weight edition (get_or left.field i nan)) 0) (total g)
  unfolding row_below
  rows_are n l = row_at n l

  pub rows_add_up : all_rows left.rows ≡ all_cells (row_weight edition) g left.field
  rows_add_up =
      ap (sum_below (λ n. get_or left.rows n 0)) row_for_each
      ∙ sum_same _ _ (layers g) rows_are
      ∙ sum_by (layer_of g) (λ i. row_weight edition (get_or left.field i nan)) (layers g) (total g) (λ i h. inside_on g (cell_within h) (upright_of g))

-- ---- and where its cells mean what demand 3 says of rays

module _ (edition : ℕ) (g : Grid) (m : Mesh) (told : RunInput) (left : Lent)
    (means : (i : ℕ) → i < total g → RaycastMeans g m told left.field left.names left.crossings (cell_at g i))
    (rows_left : left.rows ≡ rows edition g left.field) where
  same : (i : ℕ) → index_of g (cell_at g i) ≡ i
  same i = index_of_cell (count_on Y g) (count_on Z g) i

  sign_set : (i : ℕ) → i < total g → is_set left i ≡ two_or_more_odd left.crossings i
  sign_set i h =
      let c = means i h in
      ap (λ (k : ℕ). sign_bit (get_or left.field k nan)) (sym (same i)) ∙ ap sign_bit c.sign
      ∙ negated c.magnitude (two_or_more_odd left.crossings (index_of g (cell_at g i))) c.no_sign
      ∙ ap (two_or_more_odd left.crossings) (same i)

  pub rows_by_rays : ByRays edition g m left
  rows_by_rays =
      record {
        cell = sign_set;
        counts = λ i h axis. ap (λ (k : ℕ). count_left left.crossings k axis) (sym (same i)) ∙ (means i h).counts axis;
        row_counts_inside = rows_by_test edition g left rows_left (two_or_more_odd left.crossings) sign_set;
      }
