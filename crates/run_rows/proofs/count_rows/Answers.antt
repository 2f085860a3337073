-- `run_rows::count_rows`: after each block every row has what is counted of the cells before (`proofs/Blocks.antt`), and the blocks are
-- those of the grid. Assumes nothing.
use Prim.Native.Nat.{ℕ, ◌+◌, ◌*◌, ◌≤◌, ◌<◌}
use native.Mathlib.Nat.{mul-pos, mul-le-mul_right}
use native.Mathlib.Omega.{arith}
use mathlib.Core.Path.{◌≡◌, sym, ap, ap₂, ◌∙◌}
use mathlib.Core.Bool.{true}
use mathlib.Core.List.{List}
use lib.ListN.{length, replicate}
use lib.Ieee.{Float}
use Rattle.point.specs.declared.Axis.{Axis}
use Rattle.grid.specs.declared.Grid.{Grid}
use Rattle.grid.specs.Index.{total, stride_on}
use Rattle.grid.specs.Layers.{upright_of, layers}
use Rattle.grid.specs.Bounds.{in_bounds}
use Rattle.grid.proofs.Facts.{bounds_of, on_axis, stride_pos}
use Rattle.run.specs.Signs.{row_weight}
use Rattle.run_rows.proofs.Blocks.{Rowed, rowed_none, rowed_more, rowed_room, rowed_all, blocks_on, total_blocks, whole_block}
use Rattle.run_rows.proofs.count_rows.Goals as goal

-- some times a number is not below the number
le_mul : (h s : ℕ) → 0 < h → s ≤ h * s
le_mul h s w = let more : 1 ≤ h = w in omega (arith, mul-le-mul_right s more)

-- a grid's cells are so many blocks, and no block is empty
record Blocked (g : Grid) (cells height step : ℕ) : Type 0 where
  sized : cells ≡ blocks_on (upright_of g) g * (height * step)
  few : cells ≤ 1048576
  some : 0 < height * step
  high : step ≤ height * step

blocked : (g : Grid) (cells height step : ℕ) → in_bounds g ≡ true → cells ≡ total g → height ≡ layers g → step ≡ stride_on g (upright_of g) → Blocked g cells height step
blocked g cells height step ok all tall stepped =
    record {
      sized = sized;
      few = rw all (bounds_of g ok).total_few;
      some = mul-pos some_layers (rw stepped (stride_pos g ok a));
      high = le_mul height step some_layers;
    }
  where
    a : Axis
    a = upright_of g

    some_layers : 0 < height
    some_layers = rw tall (on_axis (bounds_of g ok) a).some

    sized : cells ≡ blocks_on a g * (height * step)
    sized = all ∙ total_blocks a g ∙ sym (ap₂ (λ (h : ℕ) (s : ℕ). blocks_on a g * (h * s)) tall stepped)

-- a block that begins in the field ends in it
within : {w : Float → ℕ} (g : Grid) {field : List Float} {height step start : ℕ} {rows : List ℕ} → Blocked g (length field) height step
    → Rowed w height step field start rows → start < length field → start + height * step ≤ length field
within g {field} {height} {step} b r l =
    let n = blocks_on (upright_of g) g in
    omega (arith, b.sized, whole_block height step n r (omega (arith, b.sized)))

pub nonzero_div-block : goal.nonzero_div-block
nonzero_div-block c =
    let tall = c.fill.ensures.len ∙ c.requires.rows_len in
    let stepped = c.stride_on-step.ensures ∙ ap (stride_on c.args.grid) c.upright_axis-upright.ensures in
    (blocked c.args.grid _ _ _ c.requires.grid_value c.requires.field_len tall stepped).some

pub loop-start-init : goal.loop-start-init
loop-start-init c =
    let zeros = c.fill.ensures.after (λ y e. e) ∙ ap (λ (n : ℕ). replicate n 0) (sym c.fill.ensures.len) in
    (omega arith, rowed_none (row_weight c.args.edition) _ c.stride_on-step.result c.args.field.now c.fill.new.self zeros)

pub add_block-requires : goal.add_block-requires
add_block-requires c =
    let tall = c.fill.ensures.len ∙ c.requires.rows_len in
    let stepped = c.stride_on-step.ensures ∙ ap (stride_on c.args.grid) c.upright_axis-upright.ensures in
    let b = blocked c.args.grid _ _ _ c.requires.grid_value c.requires.field_len tall stepped in
    let l = c.loop-start in
    let ends = within c.args.grid b l.invariant.1 (omega arith) in
    record {
      step_in_bounds = rw l.invariant.1.long ends;
      room = rowed_room c.args.edition _ c.stride_on-step.result c.args.field.now l.start l.rows (omega (arith, ends, b.few, b.high)) l.invariant.1;
    }

pub loop-start-preserved : goal.loop-start-preserved
loop-start-preserved c =
    let tall = c.fill.ensures.len ∙ c.requires.rows_len in
    let stepped = c.stride_on-step.ensures ∙ ap (stride_on c.args.grid) c.upright_axis-upright.ensures in
    let b = blocked c.args.grid _ _ _ c.requires.grid_value c.requires.field_len tall stepped in
    let l = c.loop-start in
    (within c.args.grid b l.invariant.1 (omega arith), rowed_more (row_weight c.args.edition) _ c.stride_on-step.result c.args.field.now l.start l.invariant.1 c.add_block.ensures)

-- the search for a block finds none
pub returns : goal.returns
returns c =
    let tall = c.fill.ensures.len ∙ c.requires.rows_len in
    let stepped = c.stride_on-step.ensures ∙ ap (stride_on c.args.grid) c.upright_axis-upright.ensures in
    let l = c.loop-start in
    rowed_all c.args.edition c.args.grid c.args.field.now l.rows tall stepped (omega (arith, c.requires.field_len)) l.invariant.1

-- the last block ends where the field does
pub returns-2 : goal.returns-2
returns-2 c =
    let tall = c.fill.ensures.len ∙ c.requires.rows_len in
    let stepped = c.stride_on-step.ensures ∙ ap (stride_on c.args.grid) c.upright_axis-upright.ensures in
    let b = blocked c.args.grid _ _ _ c.requires.grid_value c.requires.field_len tall stepped in
    let l = c.loop-start in
    let ends = within c.args.grid b l.invariant.1 (omega arith) in
    rowed_all c.args.edition c.args.grid c.args.field.now c.add_block.new.rows tall stepped (omega (arith, c.requires.field_len))
    (rowed_more (row_weight c.args.edition) _ c.stride_on-step.result c.args.field.now l.start l.invariant.1 c.add_block.ensures)
