-- What the buffers hold for a cell once a run of a grid and a mesh has gone to its end: by rays the magnitude and the name that the run
-- leaves, the crossing counts of the definition, and the value with its sign; by triangles the value and the name. Assumes nothing.
use Rattle.std.specs.Prelude.{if◌then◌else◌}
use Prim.Native.Nat.{ℕ, ◌+◌, ◌*◌, ◌/◌, ◌%◌, ◌≤◌, ◌<◌}
use native.Mathlib.Decide.{dec_lt}
use native.Mathlib.Omega.{arith}
use mathlib.Core.Path.{◌≡◌, refl, ◌∙◌}
use mathlib.Core.Logic.{◌⊎◌, inl, inr}
use mathlib.Core.Bool.{Bool, true, false}
use mathlib.Core.List.{List}
use lib.Dec.{T, leb}
use lib.ListN.{length, get_or, replicate, get_or-replicate}
use lib.Ieee.{Float, nan, neg}
use borrow.Author.Tests.{eq-eqb, ne_eqb}
use Rattle.float.proofs.Order.{distance_unsigned as Unsigned-of}
use Rattle.lists.specs.Turns.{goes}
use Rattle.terms.specs.declared.SignMethod.{SignMethod}
use Rattle.terms.specs.declared.SignMethod.TheVariants.{Raycast, Normal}
use Rattle.lists.proofs.Table.{table_at}
use Rattle.point.specs.declared.Axis.{Axis}
use Rattle.point.specs.declared.Axis.TheVariants.{X, Y, Z}
use Rattle.grid.specs.declared.Grid.{Grid}
use Rattle.grid.specs.declared.Cell.{Cell}
use Rattle.grid.specs.Axes.{count_on}
use Rattle.grid.specs.Index.{index_of, cell_at, total, Inside}
use Rattle.grid.proofs.Laws.{index_below, cell_of_index}
use Rattle.mesh.specs.Mesh.{Mesh, triangles_in, corners_at}
use Rattle.run.specs.Run.{State, none, held, named, run}
use Rattle.run.specs.Input.{run_input}
use Rattle.run.specs.Signs.{crossings, axis_at, crossings_at, all_crossings, two_odd, inside, signed, signed_field}
use Rattle.run.specs.Good.{CellHolds, is_bare, has}
use Rattle.run.specs.Method.{field_by, crossings_by}
use Rattle.run.proofs.Inputs.{box_inside, distance_unsigned, fair_input}
use Rattle.demand_3.specs.Meaning.{count_left, odd_ones, Valued, none_named, of_named, CellMeans}
use Rattle.demand_3.proofs.Values.{Unsigned, FairOn, holds, named_offered, none_nearer, magnitude_distance, least, names}

-- ---- the counts and the sign of a cell

-- "x, y, z of each cell in turn"
axis_x : (i : ℕ) → axis_at (3 * i) ≡ X
axis_x i = let e : 3 * i % 3 ≡ 0 = omega arith in rw (eq-eqb (3 * i % 3) 0 e)

axis_y : (i : ℕ) → axis_at (3 * i + 1) ≡ Y
axis_y i =
    let e : (3 * i + 1) % 3 ≡ 1 = omega arith in
    rw (ne_eqb ((3 * i + 1) % 3) 0 (λ z. omega arith), eq-eqb ((3 * i + 1) % 3) 1 e)

axis_z : (i : ℕ) → axis_at (3 * i + 2) ≡ Z
axis_z i =
    let e : (3 * i + 2) % 3 ≡ 2 = omega arith in
    rw (ne_eqb ((3 * i + 2) % 3) 0 (λ z. omega arith), ne_eqb ((3 * i + 2) % 3) 1 (λ z. omega arith))

-- two of three are odd where their remainders by 2 add up to 2 or 3
two_odd_lem : (x y z : ℕ) → two_odd x y z ≡ leb 2 (x % 2 + y % 2 + z % 2)
two_odd_lem x y z = go (remainder x) (remainder y) (remainder z)
  where
    remainder : (n : ℕ) → (n % 2 ≡ 0) ⊎ (n % 2 ≡ 1)
    remainder n = of (dec_lt (n % 2) 1)
      where
        of : Dec (n % 2 < 1) → (n % 2 ≡ 0) ⊎ (n % 2 ≡ 1)
        of (yes h) = inl (omega arith)
        of (no h) = inr (omega arith)

    go : (x % 2 ≡ 0) ⊎ (x % 2 ≡ 1) → (y % 2 ≡ 0) ⊎ (y % 2 ≡ 1) → (z % 2 ≡ 0) ⊎ (z % 2 ≡ 1) → two_odd x y z ≡ leb 2 (x % 2 + y % 2 + z % 2)
    go (inl p) (inl q) (inl r) = rw (p, q, r)
    go (inl p) (inl q) (inr r) = rw (p, q, r)
    go (inl p) (inr q) (inl r) = rw (p, q, r)
    go (inl p) (inr q) (inr r) = rw (p, q, r)
    go (inr p) (inl q) (inl r) = rw (p, q, r)
    go (inr p) (inl q) (inr r) = rw (p, q, r)
    go (inr p) (inr q) (inl r) = rw (p, q, r)
    go (inr p) (inr q) (inr r) = rw (p, q, r)

module _ (g : Grid) (m : Mesh) (c : Cell) (v : Inside g c) where
  crossings_at_lem : (a : Axis) (n : ℕ) → n < 3 * total g → axis_at n ≡ a → n / 3 ≡ index_of g c → get_or (all_crossings g m) n 0 ≡ crossings g m a c
  unfolding all_crossings crossings_at
  crossings_at_lem a n l e q = table_at (crossings_at g m) (3 * total g) n 0 l ∙ rw (e, q, cell_of_index v)

  counts_left : (a : Axis) → count_left (all_crossings g m) (index_of g c) a ≡ crossings g m a c
  counts_left X = crossings_at_lem X (3 * index_of g c) (omega (arith, index_below v)) (axis_x (index_of g c)) (omega arith)
  counts_left Y = crossings_at_lem Y (3 * index_of g c + 1) (omega (arith, index_below v)) (axis_y (index_of g c)) (omega arith)
  counts_left Z = crossings_at_lem Z (3 * index_of g c + 2) (omega (arith, index_below v)) (axis_z (index_of g c)) (omega arith)

  signed_at_lem : (field : List Float) → get_or (signed_field g m field) (index_of g c) nan
      ≡ (if leb 2 (odd_ones (count_left (all_crossings g m) (index_of g c))) then neg (get_or field (index_of g c) nan) else get_or field (index_of g c) nan)
  unfolding signed_field signed inside
  signed_at_lem field =
      table_at (signed g m field) (total g) (index_of g c) nan (index_below v)
      ∙ rw (cell_of_index v, counts_left X, counts_left Y, counts_left Z, two_odd_lem (crossings g m X c) (crossings g m Y c) (crossings g m Z c))

-- without rays each count is 0
none_crossed : (g : Grid) (c : Cell) → Inside g c → (a : Axis) → count_left (replicate (3 * total g) 0) (index_of g c) a ≡ 0
none_crossed g c v X = get_or-replicate (3 * total g) (3 * index_of g c) 0 0 (omega (arith, index_below v))
none_crossed g c v Y = get_or-replicate (3 * total g) (3 * index_of g c + 1) 0 0 (omega (arith, index_below v))
none_crossed g c v Z = get_or-replicate (3 * total g) (3 * index_of g c + 2) 0 0 (omega (arith, index_below v))

-- ---- what the run is told is of the grid

module _ (grid : Grid) (mesh : Mesh) (room limit : ℕ) (some : (a : Axis) → 0 < count_on a grid) (few : length (triangles_in mesh) ≤ none) where
  pub fair_on : (sign : SignMethod) → FairOn grid (run_input grid mesh sign room limit)
  unfolding run_input
  fair_on sign =
      record {
        fair = fair_input grid mesh sign room limit some few;
        cells_are = refl;
        index_is = λ x y z. refl;
        around_is = λ c i. refl;
        boxes_in = λ k. box_inside grid some (corners_at mesh k);
      }

  -- by rays no distance has a sign bit
  no_signs : Unsigned (run_input grid mesh Raycast room limit)
  unfolding run_input
  no_signs k c = distance_unsigned grid (corners_at mesh k) (cell_at grid c)

  -- ---- a run that has gone to its end

  pub run_means : (sign : SignMethod) (s : State) → run (run_input grid mesh sign room limit) ≡ goes s → (c : Cell) → Inside grid c
      → CellMeans sign grid mesh (run_input grid mesh sign room limit) (field_by sign grid mesh s.field) s.names (crossings_by sign grid mesh) c
  run_means Raycast s h c v =
      let g = run_input grid mesh Raycast room limit in
      record {
        magnitude = held s (index_of grid c);
        no_sign = true_of _ (Unsigned-of _ (magnitude_distance grid g (fair_on Raycast) s h c v no_signs));
        least = least grid g (fair_on Raycast) s h c v no_signs;
        name = names grid g (fair_on Raycast) s h c v;
        counts = counts_left grid mesh c v;
        sign = signed_at_lem grid mesh c v s.field;
      }
    where
      true_of : (t : Bool) → T t → t ≡ true
      true_of true h = refl
      true_of false h = elim h [ ]
  run_means Normal s h c v =
      let g = run_input grid mesh Normal room limit in
      record {
        valued = of (holds grid g (fair_on Normal) s h c v);
        none_nearer = none_nearer grid g (fair_on Normal) s h c v;
        no_crossings = none_crossed grid c v;
      }
    where
      of : CellHolds (run_input grid mesh Normal room limit) (held s (index_of grid c)) (named s (index_of grid c)) (index_of grid c)
          → Valued grid (run_input grid mesh Normal room limit) c (held s (index_of grid c)) (named s (index_of grid c))
      of (is_bare e n) = none_named e n
      of (has l e n b) = of_named (named_offered grid (run_input grid mesh Normal room limit) (fair_on Normal) s h c v l) e
