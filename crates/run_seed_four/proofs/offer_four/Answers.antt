-- `run_seed_four::offer_four`: the state is the one after i offers in a row, and these are the offers along the line. Assumes nothing.
use Prim.Native.Nat.{ℕ, ◌+◌, ◌-◌, ◌≤◌, ◌<◌}
use native.Mathlib.Omega.{arith}
use mathlib.Core.Path.{◌≡◌, refl, ◌∙◌}
use Rattle.std.proofs.lemmas.Result.{err_from_is_err_and}
use Rattle.lists.specs.Turns.{turns}
use Rattle.lists.proofs.Turns.{turns_none, turns_on, turns_stop, turns_end}
use Rattle.grid.specs.declared.Grid.{Grid}
use Rattle.grid.specs.declared.Cell.{Cell}
use Rattle.grid.specs.Axes.{cell_numbered}
use Rattle.grid.specs.Index.{Inside, total}
use Rattle.grid.proofs.Laws.{index_below}
use Rattle.run_seed_cells.specs.Parts.{seed_state, along_line}
use Rattle.run_seed_cells.proofs.Told.{never_none}
use Rattle.run_seed_four.proofs.Fours.{in_row, index_behind, inside_behind, row_is_line}
use Rattle.run_seed_four.proofs.offer_four.Goals as goal
use Rattle.run_seed_four.proofs.offer_four.Goals.{After-offer-arg-in-loop-i-1, At-loop-i}

-- the first cell is on the grid where the last is
inside_at : (g : Grid) (at : Cell) (last : ℕ) → Inside g (cell_numbered at.x at.y last) → at.z ≤ last → Inside g at
inside_at g at last h l = record { x_below = h.x_below; y_below = h.y_below; z_below = omega (arith, h.z_below, l) }

-- the cell that turn i offers to is on the grid, and has its index
below : (c : After-offer-arg-in-loop-i-1) → c.get_cell_idx-c.result + c.loop-i.i < total c.args.grid
below c =
    let a = c.args in
    let e = index_behind a.grid a.at _ c.loop-i.i c.get_cell_idx-c.ensures in
    let behind : a.at.z + c.loop-i.i ≤ a.last = omega (arith, c.loop-i-test.true, c.requires.grid_value.2) in
    omega (arith, e, index_below (inside_behind a.grid a.sign a.f a.at a.last c.requires.grid_value.1 _ c.squares_from-squares.ensures c.loop-i.i behind))

few : (c : After-offer-arg-in-loop-i-1) → c.loop-i.i < 4
few c = omega (arith, c.loop-i-test.true, c.requires.grid_value.2, c.requires.grid_value.3)

-- the offers in a row are those along the line
line : (l : At-loop-i) → let a = l.args in let state = seed_state a.field.now a.names.now in
    along_line a.grid a.sign a.f a.k a.at.x a.at.y a.at.z a.last state
    ≡ turns (in_row a.k l.get_cell_idx-c.result l.squares_from-squares.result) (a.last - a.at.z + 1) state
line l =
    let a = l.args in
    row_is_line a.grid a.sign a.f a.at a.last l.requires.grid_value.1 _ l.squares_from-squares.ensures a.k _ _ _ l.get_cell_idx-c.ensures refl
    l.requires.grid_value.2 l.requires.grid_value.3

pub squares_from-squares-requires : goal.squares_from-squares-requires
squares_from-squares-requires c =
    (c.requires.grid_value.0, inside_at c.args.grid c.args.at c.args.last c.requires.grid_value.1 c.requires.grid_value.2)

pub get_cell_idx-c-requires : goal.get_cell_idx-c-requires
get_cell_idx-c-requires c =
    (c.requires.grid_value.0, inside_at c.args.grid c.args.at c.args.last c.requires.grid_value.1 c.requires.grid_value.2)

pub loop-i-init : goal.loop-i-init
loop-i-init c = (refl, refl, turns_none _ _)

pub overflow_add-c : goal.overflow_add-c
overflow_add-c c = omega (arith, below c)

pub offset_bounds-squares-i : goal.offset_bounds-squares-i
offset_bounds-squares-i c = omega (arith, few c)

pub bounds-squares-i : goal.bounds-squares-i
bounds-squares-i c = few c

pub offer-requires : goal.offer-requires
offer-requires c =
    (omega (arith, below c, c.loop-i.invariant.0, c.requires.field_len.0), omega (arith, below c, c.loop-i.invariant.1, c.requires.field_len.1))

pub returns-in_err-offer : goal.returns-in_err-offer
returns-in_err-offer c =
    let p = err_from_is_err_and c.from_residual.result c.from_residual.ensures.1 in
    rw (p.1, p.2) (line (search) ∙ turns_stop _ _ _ _ _ _ _ _ c.loop-i.invariant.2 c.in_err-offer.ensures (never_none _) (omega arith))

pub loop-i-preserved : goal.loop-i-preserved
loop-i-preserved c = (omega arith, omega arith, turns_on _ _ _ _ _ _ c.loop-i.invariant.2 c.in_ok-offer.ensures refl)

pub returns : goal.returns
returns c = line (search) ∙ turns_end _ _ _ _ _ c.loop-i.invariant.2 (omega arith)
