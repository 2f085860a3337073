-- The rows, a block of cells at a time, once over the upright axis and the weight of a cell. A block has `step` cells of each layer side by side, so what it adds to a layer is the sum
-- over these. Assumes nothing.
use Prim.Native.Nat.{ℕ, zero, suc, ◌+◌, ◌*◌, ◌/◌, ◌%◌, ◌^◌, ◌≤◌, ◌<◌}
use native.Mathlib.Nat.{add-zero, zero-add, add-mul, zero-mul, one-mul, mul-one, mul_assoc, mul-pos, mul-le-mul_right}
use native.Mathlib.Decide.{dec_lt, ℕ_discrete}
use native.Mathlib.Omega.{arith}
use mathlib.Core.Path.{◌≡◌, refl, sym, ap, ap₂, ◌∙◌}
use mathlib.Core.Bool.{Bool, true, false, ◌&&◌, cond}
use mathlib.Core.List.{List}
use lib.Dec.{ltb, eqb, lit<}
use lib.ListN.{length, get_or, replicate, length-replicate, get_or-replicate, get_or-eq_default}
use lib.Ieee.{Float, nan}
use borrow.Author.Tests.{lt-ltb, le-ltb, eq-eqb, ne_eqb}
use Rattle.point.specs.declared.Axis.{Axis}
use Rattle.point.specs.declared.Axis.TheVariants.{X, Y, Z}
use Rattle.grid.specs.declared.Grid.{Grid}
use Rattle.grid.specs.Axes.{count_on}
use Rattle.grid.specs.Index.{total, stride_on}
use Rattle.grid.specs.Layers.{upright_of, layers}
use Rattle.grid.specs.Bounds.{in_bounds}
use Rattle.grid.proofs.Laws.{front, behind}
use Rattle.grid.proofs.Facts.{bounds_of, number_on}
use Rattle.lists.specs.Range.{sum_below}
use Rattle.lists.proofs.Range.{sum_none, sum_more, sum_le, sum_same, sum_apart, sum_zeros}
use Rattle.lists.proofs.Table.{is_table}
use Rattle.float.specs.Arith.{◌≺◌, ◌≐◌, f0}
use Rattle.float.specs.Steps.{abs_of, sign_bit}
use Rattle.run.specs.Signs.{row_weight, row_below, rows_by, rows}
use Rattle.slices.specs.Counts.{Room}
use Rattle.run_rows.specs.Block.{run_weight, BlockAdded}

pub one_more : (b n : ℕ) → (b + 1) * n ≡ b * n + n
one_more b n = omega arith

-- by either edition a weight is at most 2
pub weight_few : (edition : ℕ) (d : Float) → row_weight edition d ≤ 2
weight_few edition d = go (eqb edition 2) (sign_bit d && (f0 ≺ abs_of d)) (abs_of d ≐ f0) (sign_bit d)
  where
    go : (halves inside none set : Bool) → cond halves (cond inside 2 (cond none 1 0)) (cond set 1 0) ≤ 2
    go true true none set = omega arith
    go true false true set = omega arith
    go true false false set = omega arith
    go false inside none true = omega arith
    go false inside none false = omega arith

-- so what a run adds is at most twice its length
pub run_few : (edition : ℕ) (field : List Float) (at count : ℕ) → run_weight (row_weight edition) field at count ≤ 2 * count
run_few edition field at count =
    omega (arith, sum_le (λ j. row_weight edition (get_or field (at + j) nan)) 2 count (λ j l. weight_few edition (get_or field (at + j) nan)))

-- a run of one cell
pub run_of_one : (w : Float → ℕ) (field : List Float) (start n : ℕ) → run_weight w field (start + n * 1) 1 ≡ w (get_or field (start + n) nan)
run_of_one w field start n = sum_more (λ j. w (get_or field (start + n * 1 + j) nan)) 0 ∙ ap₂ (λ (k : ℕ) (i : ℕ). k + w (get_or field i nan)) (sum_none _) (place start n) ∙ zero-add _
  where
    place : (start n : ℕ) → start + n * 1 + 0 ≡ start + n
    place start n = omega arith

-- what row n is to hold when a block is added
abbrev pub more : (Float → ℕ) → List Float → ℕ → ℕ → List ℕ → ℕ → ℕ
more w field start step rows n = get_or rows n 0 + run_weight w field (start + n * step) step

-- layer n of a block lies in it
pub run_within : (start step height size n : ℕ) → n < height → start + height * step ≤ size → start + n * step + step ≤ size
run_within start step height size n l room =
    let more : n + 1 ≤ height = omega arith in
    omega (arith, mul-le-mul_right step more, one_more n step)

-- ---- a block

-- of blocks of `height` times `step` numbers, where the numbers of layer m are `step` side by side: the weight of those of layer n, in the block
-- that begins at `start`, as far as its first m layers go
block : (height step start n : ℕ) (layer weigh : ℕ → ℕ) → ((m j : ℕ) → m < height → j < step → layer (start + m * step + j) ≡ m) → (m : ℕ) → m ≤ height
    → sum_below (λ i. cond (eqb (layer i) n) (weigh i) 0) (start + m * step)
    ≡ sum_below (λ i. cond (eqb (layer i) n) (weigh i) 0) start + cond (ltb n m) (sum_below (λ j. weigh (start + n * step + j)) step) 0
block height step start n layer weigh h zero l = rw (zero-mul step, add-zero start, le-ltb n 0 (omega arith)) (omega arith)
block height step start n layer weigh h (suc m) l =
    ap (sum_below q) (next start m step) ∙ sum_apart q (start + m * step) step ∙ ap₂ (λ (x : ℕ) (y : ℕ). x + y) (block height step start n layer weigh h m (omega arith)) (of_layer ∙ chosen (eqb m n)) ∙ last (ℕ_discrete n m) (dec_lt n m)
  where
    q : ℕ → ℕ
    q i = cond (eqb (layer i) n) (weigh i) 0

    of : ℕ → ℕ
    of k = sum_below (λ j. weigh (start + k * step + j)) step

    next : (start m step : ℕ) → start + suc m * step ≡ start + m * step + step
    next start m step = omega arith

    of_layer : sum_below (λ j. q (start + m * step + j)) step ≡ sum_below (λ j. cond (eqb m n) (weigh (start + m * step + j)) 0) step
    of_layer =
        sum_same (λ j. q (start + m * step + j)) (λ j. cond (eqb m n) (weigh (start + m * step + j)) 0) step
        (λ j w. ap (λ (k : ℕ). cond (eqb k n) (weigh (start + m * step + j)) 0) (h m j l w))

    chosen : (b : Bool) → sum_below (λ j. cond b (weigh (start + m * step + j)) 0) step ≡ cond b (of m) 0
    chosen true = refl
    chosen false = sum_zeros step

    last : Dec (n ≡ m) → Dec (n < m) → sum_below q start + cond (ltb n m) (of n) 0 + cond (eqb m n) (of m) 0 ≡ sum_below q start + cond (ltb n (suc m)) (of n) 0
    last (yes e) d = rw (le-ltb n m (omega arith), lt-ltb n (suc m) (omega arith), eq-eqb m n (sym e), e) (omega arith)
    last (no e) (yes d) = rw (lt-ltb n m d, lt-ltb n (suc m) (omega arith), ne_eqb m n (λ i. e (sym i))) (omega arith)
    last (no e) (no d) = rw (le-ltb n m (omega arith), le-ltb n (suc m) (omega (arith, above n m e d)), ne_eqb m n (λ i. e (sym i))) (omega arith)
      where
        above : (n m : ℕ) → (n ≡ m → ⊥) → (n < m → ⊥) → m < n
        above n m e d = omega arith

-- what the cells below c add to layer n, where a layer has `step` cells side by side, and `height` layers make a block
abbrev pub layer_below : (Float → ℕ) → ℕ → ℕ → List Float → ℕ → ℕ → ℕ
layer_below w height step field n c = sum_below (λ i. cond (eqb (i / step % height) n) (w (get_or field i nan)) 0) c

-- the layers of a block that begins behind b others
layer_in : (height step b m j : ℕ) → m < height → j < step → (b * (height * step) + m * step + j) / step % height ≡ m
layer_in height step b m j h l =
    ap (λ (i : ℕ). i / step % height) (digits b height step m j) ∙ ap (λ (i : ℕ). i % height) (front (b * height + m) l) ∙ behind b h
  where
    digits : (b height step m j : ℕ) → b * (height * step) + m * step + j ≡ (b * height + m) * step + j
    digits b height step m j = rw (← mul_assoc, add-mul)

-- ---- blocks one after another

-- the rows when the blocks before `start` are added: each has what is counted of the cells before
pub record Rowed (w : Float → ℕ) (height step : ℕ) (field : List Float) (start : ℕ) (l : List ℕ) : Type 0 where
  pub long : length l ≡ height
  pub blocks : ℕ
  pub begun : start ≡ blocks * (height * step)
  pub each : (n : ℕ) → n < height → get_or l n 0 ≡ layer_below w height step field n start

pub rowed_none : (w : Float → ℕ) (height step : ℕ) (field : List Float) (l : List ℕ) → l ≡ replicate height 0 → Rowed w height step field 0 l
rowed_none w height step field l e =
    record {
      long = ap length e ∙ length-replicate height 0;
      blocks = 0;
      begun = sym (zero-mul (height * step));
      each = λ n h. ap (λ (s : List ℕ). get_or s n 0) e ∙ get_or-replicate height n 0 0 h ∙ sym (sum_none _);
    }

pub rowed_more : (w : Float → ℕ) (height step : ℕ) (field : List Float) (start : ℕ) {l m : List ℕ}
    → Rowed w height step field start l → BlockAdded w field start step l m → Rowed w height step field (start + height * step) m
rowed_more w height step field start {l} {m} s t =
    record {
      long = t.long ∙ s.long;
      blocks = s.blocks + 1;
      begun = ap (λ (k : ℕ). k + height * step) s.begun ∙ sym (one_more s.blocks (height * step));
      each = λ n h.
          t.each n (omega (arith, s.long))
          ∙ ap (λ (k : ℕ). k + run_weight w field (start + n * step) step) (s.each n h)
          ∙ sym (added n h);
    }
  where
    in_layer_lem : (k j : ℕ) → k < height → j < step → (start + k * step + j) / step % height ≡ k
    in_layer_lem k j h l = ap (λ (i : ℕ). (i + k * step + j) / step % height) s.begun ∙ layer_in height step s.blocks k j h l

    added : (n : ℕ) → n < height → layer_below w height step field n (start + height * step) ≡ layer_below w height step field n start + run_weight w field (start + n * step) step
    added n h =
        block height step start n (λ i. i / step % height) (λ i. w (get_or field i nan)) in_layer_lem height (omega arith)
        ∙ ap (λ (b : Bool). layer_below w height step field n start + cond b (run_weight w field (start + n * step) step) 0) (lt-ltb n height h)

-- a row is at most twice the number of cells
pub rowed_room : (edition height step : ℕ) (field : List Float) (start : ℕ) (l : List ℕ)
    → start + step ≤ 2097152 → Rowed (row_weight edition) height step field start l → Room (2 * step) l
rowed_room edition height step field start l h s n = go (dec_lt n height)
  where
    weight : (b : Bool) (d : Float) → cond b (row_weight edition d) 0 ≤ 2
    weight true d = weight_few edition d
    weight false d = omega arith

    go : Dec (n < height) → get_or l n 0 + 2 * step < 2 ^ 32
    go (yes m) =
        omega (arith, s.each n m, sum_le (λ i. cond (eqb (i / step % height) n) (row_weight edition (get_or field i nan)) 0) 2 start (λ i b. weight (eqb (i / step % height) n) (get_or field i nan)))
    go (no m) =
        let past : length l ≤ n = omega (arith, s.long) in
        let none : get_or l n 0 ≡ 0 = get_or-eq_default l 0 past in
        omega arith

-- ---- the blocks of a grid

-- how many blocks there are along an axis
abbrev pub blocks_on : Axis → Grid → ℕ
blocks_on X g = 1
blocks_on Y g = count_on X g
blocks_on Z g = count_on X g * count_on Y g

pub total_blocks : (a : Axis) (g : Grid) → total g ≡ blocks_on a g * (count_on a g * stride_on g a)
total_blocks X g = rw (one-mul, ← mul_assoc)
total_blocks Y g = rw (← mul_assoc)
total_blocks Z g = rw mul-one

pub some_blocks : (a : Axis) (g : Grid) → in_bounds g ≡ true → 0 < blocks_on a g
some_blocks X g h = lit< tt
some_blocks Y g h = (bounds_of g h).on_x.some
some_blocks Z g h = mul-pos (bounds_of g h).on_x.some (bounds_of g h).on_y.some

-- the block that begins before the end lies before the end
pub whole_block : {w : Float → ℕ} (height step : ℕ) {field : List Float} {start : ℕ} {l : List ℕ} (blocks : ℕ)
    → Rowed w height step field start l → start < blocks * (height * step) → start + height * step ≤ blocks * (height * step)
whole_block height step {field} {start} {l} blocks s h = go (dec_lt s.blocks blocks)
  where
    go : Dec (s.blocks < blocks) → start + height * step ≤ blocks * (height * step)
    go (yes w) =
        let more : s.blocks + 1 ≤ blocks = omega arith in
        omega (arith, s.begun, mul-le-mul_right (height * step) more, one_more s.blocks (height * step))
    go (no w) =
        let past : blocks ≤ s.blocks = omega arith in
        absurd (omega (arith, s.begun, mul-le-mul_right (height * step) past))

-- when all are added, the rows are the run's
rowed_end : (edition : ℕ) (g : Grid) (field : List Float) (l : List ℕ) → Rowed (row_weight edition) (layers g) (stride_on g (upright_of g)) field (total g) l → l ≡ rows edition g field
unfolding rows_by row_below
rowed_end edition g field l s =
    is_table 0 (λ n. row_below (row_weight edition) g field n (total g)) (layers g) l s.long
    (λ n h.
    s.each n h
    ∙ sum_same _ _ (total g) (λ i w. ap (λ (k : ℕ). cond (eqb k n) (row_weight edition (get_or field i nan)) 0) (sym (number_on g (upright_of g) w))))

pub rowed_all : (edition : ℕ) (g : Grid) (field : List Float) (l : List ℕ) {height step start : ℕ} → height ≡ layers g → step ≡ stride_on g (upright_of g) → start ≡ total g
    → Rowed (row_weight edition) height step field start l → l ≡ rows edition g field
rowed_all edition g field l tall stepped ended s = rowed_end edition g field l (rw (tall, stepped, ended) at s)
