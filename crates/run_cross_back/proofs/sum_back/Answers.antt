-- `run_cross_back::sum_back`: the entries from number `at` on are summed, and the others as they were, whatever the list was at the beginning; each
-- of the three loops carries that on. A cell's three entries follow each other, so that one turn sums one after the
-- other (`proofs/Back.antt`). Assumes nothing.
use Prim.Native.Nat.{ℕ, ◌+◌, ◌-◌, ◌*◌, ◌^◌, ◌<◌}
use native.Mathlib.Omega.{arith}
use mathlib.Core.Path.{◌≡◌, refl, sym, ap, ◌∙◌, subst}
use mathlib.Core.Bool.{Bool, true}
use mathlib.Core.List.{List}
use lib.Dec.{ltb}
use lib.ListN.{length}
use Rattle.point.specs.declared.Axis.{Axis}
use Rattle.point.specs.declared.Axis.TheVariants.{X, Y, Z}
use Rattle.grid.specs.declared.Cell.{Cell}
use Rattle.grid.specs.Axes.{count_on, cell_numbered}
use Rattle.grid.specs.Index.{Inside, index}
use Rattle.run_cross_lines.specs.Lines.{entry_of}
use Rattle.run_cross_back.specs.Back.{SummedFrom, with_next, next_added}
use Rattle.run_cross_back.proofs.Falling.{layer_less, none, entry_x, entry_y, entry_z}
use Rattle.run_cross_back.proofs.Back.{OnLine, next_fits, summed_more, summed_none, summed_all}
use Rattle.run_cross_back.proofs.sum_back.Goals as goal
use Rattle.run_cross_back.proofs.sum_back.Goals.{After-add_next-arg-1, After-loop-x, After-struct_known-1, After-struct_known-in-loop-z-1, After-struct_known-in-loop-z-2-1, In-loop-z}

-- the cell of a turn
abbrev cell : In-loop-z → Cell
cell t = cell_numbered (t.loop-x.x - 1) (t.loop-y.y - 1) (t.loop-z.z - 1)

inside : (t : In-loop-z) → Inside t.args.grid (cell t)
inside t =
    let lx = t.loop-x.auto.x in
    let ly = t.loop-y.auto.y in
    let lz = t.loop-z.auto.z in
    record {
      x_below = omega (arith, lx, t.loop-x-test.true);
      y_below = omega (arith, ly, t.loop-y-test.true);
      z_below = omega (arith, lz, t.loop-z-test.true);
    }

-- where a turn begins, from the cell's index
begins : (t : In-loop-z) → let c = cell t in let g = t.args.grid in t.loop-z.at ≡ 3 * index (count_on Y g) (count_on Z g) c + 3
unfolding index
begins t = let h = t.loop-z in omega (arith, h.invariant.0, t.loop-z-test.true)

on_z : (t : After-struct_known-1) → let g = t.args.grid in let c = cell (search) in
    OnLine g Z c (t.loop-z.at - 3 + 2) t.step-far_z.result (ltb (c.z + 1) g.count_z)
on_z t = record { entered = omega (arith, begins (search), entry_z t.args.grid (cell (search)) _ refl); step = t.step-far_z.ensures; told = refl }

on_y : (t : After-struct_known-in-loop-z-1) → let g = t.args.grid in let c = cell (search) in
    OnLine g Y c (t.loop-z.at - 3 + 1) t.step-far_y.result (ltb (c.y + 1) g.count_y)
on_y t = record { entered = omega (arith, begins (search), entry_y t.args.grid (cell (search)) _ refl); step = t.step-far_y.ensures; told = refl }

on_x : (t : After-struct_known-in-loop-z-2-1) → let g = t.args.grid in let c = cell (search) in
    OnLine g X c (t.loop-z.at - 3) t.step-far_x.result (ltb (c.x + 1) g.count_x)
on_x t = record { entered = omega (arith, begins (search), entry_x t.args.grid (cell (search)) _ refl); step = t.step-far_x.ensures; told = refl }

-- what a turn finds, of the list as it was at the function's entry
found : (t : After-struct_known-1) → let a = t.args in SummedFrom a.grid a.crossings.now t.loop-z.at t.loop-z.crossings
found t =
    let a = t.args in
    let old = a.crossings.now in
    t.loop-z.invariant.1 old (t.loop-y.invariant.1 old (t.loop-x.invariant.1 old (summed_none a.grid old _ (ap (λ (k : ℕ). 3 * k) t.get_total_cell_count.ensures))))

-- so a list of which the same is found has as many entries
long : (t : After-struct_known-in-loop-z-1) (old : List ℕ) → SummedFrom t.args.grid old t.loop-z.at t.loop-z.crossings → length old ≡ length t.args.crossings.now
long t old s = sym s.long ∙ (found (search)).long

-- the entries behind that of the axis are summed, of a list that was `old` once
abbrev Behind : After-struct_known-1 → Axis → List ℕ → List ℕ → Type 0
Behind t axis old l = let g = t.args.grid in SummedFrom g old (entry_of g axis (cell (search)) + 1) l

-- what a call asks for then, of the list at the function's entry, and what it leaves
asks : (t : After-struct_known-1) (axis : Axis) {at apart : ℕ} {more : Bool} (l : List ℕ) → OnLine t.args.grid axis (cell (search)) at apart more
    → Behind t axis t.args.crossings.now l → more ≡ true → (at + apart < length l) × (with_next at apart l < 2 ^ 32)
asks t axis {at} {apart} {more} l o s =
    next_fits t.args.grid t.requires.grid_value t.args.crossings.now axis (cell (search)) at apart more l o (inside (search)) t.requires.crossings_len t.requires.sums_fit s

-- what a turn finds, of a list that was `old` once
abbrev Finds : After-struct_known-1 → List ℕ → Type 0
Finds t old = SummedFrom t.args.grid old t.loop-z.at t.loop-z.crossings

leaves : (t : After-struct_known-in-loop-z-1) (axis : Axis) {at apart : ℕ} {more : Bool} (old l m : List ℕ) → Finds (search) old → OnLine t.args.grid axis (cell (search)) at apart more
    → Behind (search) axis old l → m ≡ next_added at apart more l → SummedFrom t.args.grid old at m
leaves t axis {at} {apart} {more} old l m f o s e =
    subst (λ (n : ℕ). SummedFrom t.args.grid old n m) (sym o.entered)
    (summed_more t.args.grid t.requires.grid_value old axis (cell (search)) at apart more l m o (inside (search)) (long t old f ∙ t.requires.crossings_len) s e)

-- the same list, and another name of the entry
named : (t : After-struct_known-1) {e f : ℕ} (old l : List ℕ) → e ≡ f → SummedFrom t.args.grid old e l → SummedFrom t.args.grid old f l
named t old l q s = subst (λ (n : ℕ). SummedFrom t.args.grid old n l) q s

behind_z : (t : After-struct_known-1) (old : List ℕ) → Finds t old → Behind t Z old t.loop-z.crossings
behind_z t old f = named t old t.loop-z.crossings (omega (arith, begins (search), (on_z t).entered)) f

behind_y : (z : After-struct_known-in-loop-z-1) (old : List ℕ) → Finds (search) old → Behind (search) Y old z.add_next.new.numbers
behind_y z old f =
    let m = z.add_next.new.numbers in
    named (search) old m (omega (arith, begins (search), (on_y z).entered)) (leaves z Z old z.loop-z.crossings m f (on_z (search)) (behind_z (search) old f) z.add_next.ensures)

behind_x : (y : After-struct_known-in-loop-z-2-1) (old : List ℕ) → Finds (search) old → Behind (search) X old y.add_next-in-loop-z.new.numbers
behind_x y old f =
    let m = y.add_next-in-loop-z.new.numbers in
    named (search) old m (omega (arith, begins (search), (on_x y).entered)) (leaves (search) Y old y.add_next.new.numbers m f (on_y (search)) (behind_y (search) old f) y.add_next-in-loop-z.ensures)

-- and the loop over the layers, from the function's entry
carried : (c : After-loop-x) → let a = c.args in
    SummedFrom a.grid a.crossings.now c.loop-x.at c.loop-x.crossings
carried c =
    let a = c.args in
    c.loop-x.invariant.1 a.crossings.now (summed_none a.grid a.crossings.now _ (ap (λ (k : ℕ). 3 * k) c.get_total_cell_count.ensures))

pub loop-y-init : goal.loop-y-init
loop-y-init c =
    let g = c.args.grid in
    let x = c.loop-x.x in
    (c.loop-x.invariant.0 ∙ ap (λ (k : ℕ). 3 * k) (layer_less x (x - 1) (count_on Y g) (count_on Z g) (omega (arith, c.loop-x-test.true))), (λ old s. s))

pub add_next-requires : goal.add_next-requires
add_next-requires c = asks c Z c.loop-z.crossings (on_z c) (behind_z c _ (found c))

pub add_next-requires-in-loop-z : goal.add_next-requires-in-loop-z
add_next-requires-in-loop-z c = asks (search) Y c.add_next.new.numbers (on_y c) (behind_y c _ (found (search)))

pub add_next-requires-in-loop-z-2 : goal.add_next-requires-in-loop-z-2
add_next-requires-in-loop-z-2 c = asks (search) X c.add_next-in-loop-z.new.numbers (on_x c) (behind_x c _ (found (search)))

pub loop-z-preserved : goal.loop-z-preserved
loop-z-preserved c =
    let h = c.loop-z in (
      omega (arith, h.invariant.0, c.loop-z-test.true),
      (λ old s. let f = h.invariant.1 old s in leaves (search) X old c.add_next-in-loop-z.new.numbers c.add_next-in-loop-z-2.new.numbers f (on_x (search)) (behind_x (search) old f) c.add_next-in-loop-z-2.ensures),
    )

pub returns : goal.returns
returns c =
    let h = c.loop-x in
    let a = c.args in
    let layers = none h.x (count_on Y a.grid) c.loop-x-test.false in
    let rows = none (h.x * count_on Y a.grid) (count_on Z a.grid) (omega (arith, layers)) in
    summed_all a.grid a.crossings.now h.crossings h.at (omega (arith, h.invariant.0, rows)) (carried c)
