-- The table of steps in numbers says what `steps` says, and a step from a cell of the grid leads to the place that `step_from` names.
-- The table's rule is one law over any list of steps. Assumes nothing.
use Rattle.std.specs.Prelude.{if◌then◌else◌}
use Prim.Native.Nat.{ℕ, zero, suc, ◌+◌, ◌*◌, ◌/◌, ◌%◌, ◌^◌, ◌≤◌, ◌<◌}
use native.Mathlib.Nat.{not-suc-le-zero, le_of_suc-le-suc}
use native.Mathlib.Omega.{arith}
use mathlib.Core.Path.{◌≡◌, refl, sym, ap, ◌∙◌, subst}
use mathlib.Core.Bool.{Bool, true, false}
use mathlib.Core.List.{List, [], ◌∷◌}
use lib.ListN.{length, get_or}
use lib.Ieee.{Float, nan}
use borrow.Author.Tests.{ltb-true, eq-eqb, ne_eqb}
use Rattle.float_shortcut.specs.Shown.{signed_root}
use Rattle.terms.specs.declared.SignMethod.{SignMethod}
use Rattle.point.specs.declared.Axis.TheVariants.{X, Y, Z}
use Rattle.lists.proofs.Table.{length_table, table_at}
use Rattle.grid.specs.declared.Grid.{Grid}
use Rattle.grid.specs.declared.Cell.{Cell}
use Rattle.grid.specs.Axes.{count_on, cell_on, cell_by, on_every}
use Rattle.grid.specs.Index.{Inside, index_of, cell_at, total}
use Rattle.grid.specs.Bounds.{in_bounds}
use Rattle.grid.specs.Place.{centre_of}
use Rattle.grid.proofs.Laws.{index_below, cell_of_index, cell_within}
use Rattle.grid.proofs.Facts.{each, bounds_of}
use Rattle.geo_closest.specs.declared.Facet.{Facet}
use Rattle.geo_closest.specs.Closest.{facet_of}
use Rattle.geo_squares.specs.Squares.{Values}
use Rattle.geo_measure.specs.Measured.{measured, squared_by}
use Rattle.geo_measure.proofs.Laws.{measured_root}
use Rattle.mesh.specs.Mesh.{Mesh, triangles_in, corners_at}
use Rattle.queue.specs.declared.Entry.{Entry}
use Rattle.run.specs.Run.{off, at, none}
use Rattle.run.specs.Input.{distance_from}
use Rattle.run.specs.Steps.{Shift, back, stay, ahead, Step, shift_on, steps, step_at, shifted, stays_on, step_from, around_cell}
use Rattle.run_around.specs.declared.Spot.{Spot}
use Rattle.run_state.specs.Told.{Known}
use Rattle.run_around.specs.Around.{shift_digit, code_of, shift_of, step_of, codes, place_of, spot_of, Gathered, Around}

-- ---- the table's rule

-- three digits, each of which can be read
digit_small : (s : Shift) → shift_digit s ≤ 2
digit_small back = omega arith
digit_small stay = omega arith
digit_small ahead = omega arith

shift_digit_lem : (s : Shift) → shift_of (shift_digit s) ≡ s
shift_digit_lem back = refl
shift_digit_lem stay = refl
shift_digit_lem ahead = refl

x_digit : (x y z : ℕ) → y ≤ 2 → z ≤ 2 → (x * 256 + y * 16 + z) / 256 ≡ x
x_digit x y z b c = omega arith

y_digit : (x y z : ℕ) → y ≤ 2 → z ≤ 2 → (x * 256 + y * 16 + z) / 16 % 16 ≡ y
y_digit x y z b c = omega arith

z_digit : (x y z : ℕ) → z ≤ 2 → (x * 256 + y * 16 + z) % 16 ≡ z
z_digit x y z c = omega arith

-- a step in numbers, and back
step_code : (s : Step) → step_of (code_of s) ≡ s
step_code s =
    let a = shift_digit s.x in
    let b = shift_digit s.y in
    let c = shift_digit s.z in
    λ i. record {
      x = (ap shift_of (x_digit a b c (digit_small s.y) (digit_small s.z)) ∙ shift_digit_lem s.x) i;
      y = (ap shift_of (y_digit a b c (digit_small s.y) (digit_small s.z)) ∙ shift_digit_lem s.y) i;
      z = (ap shift_of (z_digit a b c (digit_small s.z)) ∙ shift_digit_lem s.z) i;
    }

read_codes : (l : List Step) (d : Step) (j : ℕ) → j < length l → step_of (get_or (codes l) j 0) ≡ get_or l j d
read_codes [] d j h = absurd (not-suc-le-zero h)
read_codes (s ∷ l) d zero h = step_code s
read_codes (s ∷ l) d (suc j) h = read_codes l d j (le_of_suc-le-suc h)

-- of the table as it is lent
pub table_step : (t : List ℕ) (j : ℕ) → t ≡ codes steps → j < 27 → step_of (get_or t j 0) ≡ step_at j
table_step t j e h = ap (λ (l : List ℕ). step_of (get_or l j 0)) e ∙ read_codes steps (record { x = stay; y = stay; z = stay }) j h

pub table_long : (t : List ℕ) → t ≡ codes steps → length t ≡ 27
table_long t e = ap length e

-- a number that is neither 0 nor 1
pub shift_ahead : (n : ℕ) → (n ≡ 0 → ⊥) → (n ≡ 1 → ⊥) → shift_of n ≡ ahead
shift_ahead zero a b = absurd (a refl)
shift_ahead (suc zero) a b = absurd (b refl)
shift_ahead (suc (suc n)) a b = refl

-- ---- a step from a cell of the grid

shifted_below : (count : ℕ) (s : Shift) (i : ℕ) → i < count → stays_on count s i ≡ true → shifted s i < count
shifted_below count back i l t = omega arith
shifted_below count stay i l t = l
shifted_below count ahead i l t = ltb-true (i + 1) count t

-- the test of a step, and the cell that it leads to
abbrev pub stays : Grid → Cell → Step → Bool
stays g c s = on_every (λ a. stays_on (count_on a g) (shift_on a s) (cell_on a c))

abbrev pub next : Cell → Step → Cell
next c s = cell_by (λ a. shifted (shift_on a s) (cell_on a c))

pub next_inside : (g : Grid) (c : Cell) (s : Step) → Inside g c → stays g c s ≡ true → Inside g (next c s)
next_inside g c s w t =
    let on = each (λ a. stays_on (count_on a g) (shift_on a s) (cell_on a c)) t in
    record {
      x_below = shifted_below (count_on X g) s.x c.x w.x_below (on X);
      y_below = shifted_below (count_on Y g) s.y c.y w.y_below (on Y);
      z_below = shifted_below (count_on Z g) s.z c.z w.z_below (on Z);
    }

-- where a test picks a spot
abbrev spot : Bool → Grid → Cell → Step → Spot
spot t g c s = if t then record { index = index_of g (next c s); cell = next c s } else record { index = none; cell = c }

pub spot_on : (g : Grid) (c : Cell) (s : Step) → stays g c s ≡ true → spot_of g c s ≡ record { index = index_of g (next c s); cell = next c s }
unfolding spot_of
spot_on g c s h = ap (λ (t : Bool). spot t g c s) h

pub spot_off : (g : Grid) (c : Cell) (s : Step) → stays g c s ≡ false → spot_of g c s ≡ record { index = none; cell = c }
unfolding spot_of
spot_off g c s h = ap (λ (t : Bool). spot t g c s) h

pub spot_inside : (g : Grid) (c : Cell) (s : Step) → Inside g c → Inside g (spot_of g c s).cell
unfolding spot_of
spot_inside g c s w = go (stays g c s) (next_inside g c s w)
  where
    go : (t : Bool) → (t ≡ true → Inside g (next c s)) → Inside g (spot t g c s).cell
    go true h = h refl
    go false h = w

-- a cell of the grid has numbers that its centre's question takes
pub near_enough : (g : Grid) (c : Cell) → in_bounds g ≡ true → Inside g c → (c.x < 2 ^ 16) × (c.y < 2 ^ 16) × (c.z < 2 ^ 16)
near_enough g c b w =
    let n = bounds_of g b in
    (omega (arith, n.on_x.few, w.x_below), omega (arith, n.on_y.few, w.y_below), omega (arith, n.on_z.few, w.z_below))

-- an index of the grid is a place
index_place : (g : Grid) (i : ℕ) → in_bounds g ≡ true → i < total g → place_of i ≡ at i
index_place g i b l = ap (λ (t : Bool). if t then off else at i) (ne_eqb i none (λ e. over e (bounds_of g b).total_few))
  where
    over : i ≡ none → total g ≤ 1048576 → ⊥
    over e f = omega arith

none_place : place_of none ≡ off
none_place = ap (λ (t : Bool). if t then off else at none) (eq-eqb none none refl)

pub spot_place : (g : Grid) (c : Cell) (s : Step) → in_bounds g ≡ true → Inside g c → place_of (spot_of g c s).index ≡ step_from g c s
unfolding spot_of step_from
spot_place g c s b w = go (stays g c s) (next_inside g c s w)
  where
    go : (t : Bool) → (t ≡ true → Inside g (next c s)) → place_of (spot t g c s).index ≡ (if t then at (index_of g (next c s)) else off)
    go true h = index_place g (index_of g (next c s)) b (index_below (h refl))
    go false h = none_place

-- the cell of the place
pub record Reached (g : Grid) (c : Cell) (s : Step) (i : ℕ) : Type 0 where
  pub below : i < total g
  pub cell_is : cell_at g i ≡ (spot_of g c s).cell

pub spot_cell : (g : Grid) (c : Cell) (s : Step) (i : ℕ) → in_bounds g ≡ true → Inside g c → place_of (spot_of g c s).index ≡ at i → Reached g c s i
unfolding spot_of
spot_cell g c s i b w e = record { below = found.0; cell_is = found.1 }
  where
    same : {j k : ℕ} → at j ≡ at k → k ≡ j
    same h = cc

    never : {k : ℕ} → off ≡ at k → ⊥
    never h = let z : ◌≡◌ {A = ℕ} 0 1 = cc in omega arith

    go : (t : Bool) → (t ≡ true → Inside g (next c s)) → place_of (spot t g c s).index ≡ at i → (i < total g) × (cell_at g i ≡ (spot t g c s).cell)
    go true h p =
        let n = h refl in
        let j : i ≡ index_of g (next c s) = same (sym (index_place g (index_of g (next c s)) b (index_below n)) ∙ p) in
        (subst (λ (k : ℕ). k < total g) (sym j) (index_below n), ap (cell_at g) j ∙ cell_of_index n)
    go false h p = absurd (never (sym none_place ∙ p))

    found : (i < total g) × (cell_at g i ≡ (spot_of g c s).cell)
    found = go (stays g c s) (next_inside g c s w) e

-- ---- the signed squares

-- what is gathered is 27 long
pub gathered_long : {g : Grid} {c : Cell} {to : List ℕ} {xs ys zs : List Float} → Gathered g c to xs ys zs → (length xs ≡ 27) × (length ys ≡ 27) × (length zs ≡ 27)
gathered_long p = (ap length p.on_x ∙ length_table _ 27, ap length p.on_y ∙ length_table _ 27, ap length p.on_z ∙ length_table _ 27)

-- what is gathered, and the squares of it
pub looked : (g : Grid) (m : Mesh) (sign : SignMethod) (e : Entry) {d : Cell} {to : List ℕ} {xs ys zs out : List Float} {f : Facet} → in_bounds g ≡ true → Known (total g) (length (triangles_in m)) e
    → f ≡ facet_of (corners_at m e.triangle).a (corners_at m e.triangle).b (corners_at m e.triangle).c
    → d ≡ cell_at g e.cell → Gathered g d to xs ys zs → Values (squared_by sign f) xs ys zs out → Around g m sign e to out
unfolding around_cell distance_from
looked g m sign e {d} {to} {xs} {ys} {zs} {out} {f} b k w z p₀ q =
    record {
      to_long = ap length p.leads ∙ length_table (λ j. (spot_of g c (step_at j)).index) 27;
      squares_long = q.long ∙ long;
      leads = λ j h. ap place_of (index j h) ∙ spot_place g c (step_at j) b inside;
      near = λ j h.
          record {
            below = λ i l. (found j h i l).below;
            root = λ i l.
                ap signed_root (square j h)
                ∙ measured_root sign f (centre_of g (spot_of g c (step_at j)).cell)
                ∙ ap (λ (d : Cell). measured sign f (centre_of g d)) (sym (found j h i l).cell_is)
                ∙ ap (λ (v : Facet). measured sign v (centre_of g (cell_at g i))) w;
          };
    }
  where
    c : Cell
    c = cell_at g e.cell

    p : Gathered g c to xs ys zs
    p = subst (λ (v : Cell). Gathered g v to xs ys zs) z p₀

    inside : Inside g c
    inside = cell_within k.cell_below

    long : length xs ≡ 27
    long = ap length p.on_x ∙ length_table (λ j. (centre_of g (spot_of g c (step_at j)).cell).x) 27

    index : (j : ℕ) → j < 27 → get_or to j 0 ≡ (spot_of g c (step_at j)).index
    index j h = ap (λ (l : List ℕ). get_or l j 0) p.leads ∙ table_at (λ j. (spot_of g c (step_at j)).index) 27 j 0 h

    found : (j : ℕ) → j < 27 → (i : ℕ) → place_of (get_or to j 0) ≡ at i → Reached g c (step_at j) i
    found j h i l = spot_cell g c (step_at j) i b inside (ap place_of (sym (index j h)) ∙ l)

    x_at : (j : ℕ) → j < 27 → get_or xs j nan ≡ (centre_of g (spot_of g c (step_at j)).cell).x
    x_at j h = ap (λ (l : List Float). get_or l j nan) p.on_x ∙ table_at (λ j. (centre_of g (spot_of g c (step_at j)).cell).x) 27 j nan h

    y_at : (j : ℕ) → j < 27 → get_or ys j nan ≡ (centre_of g (spot_of g c (step_at j)).cell).y
    y_at j h = ap (λ (l : List Float). get_or l j nan) p.on_y ∙ table_at (λ j. (centre_of g (spot_of g c (step_at j)).cell).y) 27 j nan h

    z_at : (j : ℕ) → j < 27 → get_or zs j nan ≡ (centre_of g (spot_of g c (step_at j)).cell).z
    z_at j h = ap (λ (l : List Float). get_or l j nan) p.on_z ∙ table_at (λ j. (centre_of g (spot_of g c (step_at j)).cell).z) 27 j nan h

    square : (j : ℕ) → j < 27 → get_or out j nan ≡ squared_by sign f (centre_of g (spot_of g c (step_at j)).cell)
    square j h = q.each j (subst (λ (n : ℕ). j < n) (sym long) h) ∙ λ i. squared_by sign f (record { x = x_at j h i; y = y_at j h i; z = z_at j h i })
