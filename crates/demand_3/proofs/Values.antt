-- The values and the names of a run that is Done, over any input whose steps and indices are those of a grid. A triangle whose snapped box
-- covers a cell was met there in seeding; one that a neighbour held was offered around before the end; and no cell takes what is farther. Where
-- distances have no sign bit, what is not nearer is at least as large. Assumes nothing but what `FairOn` asks of the input.
use Prim.Native.Nat.{ℕ, ◌<◌}
use native.Mathlib.Omega.{arith}
use mathlib.Core.Path.{◌≡◌, refl, sym, ap, ◌∙◌, subst}
use mathlib.Core.Logic.{◌⊎◌, inl, inr}
use mathlib.Core.Bool.{true, false, true≢false}
use mathlib.Core.List.{List}
use lib.Ieee.{Float, is_nan, binary32, to_bits}
use borrow.Author.Tests.{le-leb, ltb-false}
use Rattle.point.specs.declared.Axis.TheVariants.{X, Y, Z}
use Rattle.float.specs.Arith.{◌≦◌, ◌≺◌, f_max}
use Rattle.float.specs.Distance.{Distance}
use Rattle.float.proofs.Magnitude.{distance_sign}
use Rattle.float.proofs.Order.{distance_lt, distance_le}
use Rattle.float_order.specs.Nearer.{nearer}
use Rattle.float_order.proofs.Nearer.{nearer_exactly, nearer_below}
use Rattle.float_order.proofs.Height.{height_not_nearer}
use Rattle.lists.specs.Turns.{goes}
use Rattle.grid.specs.declared.Grid.{Grid}
use Rattle.grid.specs.declared.Cell.{Cell}
use Rattle.grid.specs.Index.{index_of, total, Inside}
use Rattle.grid.proofs.Laws.{index_below}
use Rattle.run.specs.Run.{RunInput, State, none, held, named, run}
use Rattle.run.specs.Good.{CellHolds, is_bare, has, Falls}
use Rattle.run.specs.Steps.{around_cell}
use Rattle.run.proofs.Values.{Fair, Met, met_on, max_distance, max_value, distance_at, held_by, holds_at_most_max, has_below}
use Rattle.run.proofs.Offers.{Ran, run_went}
use Rattle.run.proofs.Seeding.{InBox, seeding_good, seeding_empty, seeding_meets}
use Rattle.run.proofs.Queueing.{queueing_to}
use Rattle.run.proofs.Spreading.{ends}
use Rattle.demand_3.specs.Offered.{Covers, Near, HeldNear, Offered}
use Rattle.demand_3.specs.Meaning.{Least, Names}
use Rattle.demand_3.proofs.States.{since_good, end_since, since_served}
use Rattle.demand_3.proofs.Neighbours.{near_reached}

-- a distance that is no NaN has no sign bit
abbrev pub Unsigned : RunInput → Type 0
Unsigned g = (k c : ℕ) → is_nan (g.distance k c) ≡ false → Distance (g.distance k c)

-- what the run is told is of the grid
pub record FairOn (grid : Grid) (g : RunInput) : Type 0 where
  pub fair : Fair g
  pub cells_are : g.cells ≡ total grid
  pub index_is : (x y z : ℕ) → g.index x y z ≡ index_of grid (record { x = x; y = y; z = z })
  pub around_is : (c j : ℕ) → g.around c j ≡ around_cell grid c j
  pub boxes_in : (k : ℕ) → Inside grid (g.box k).high

near_itself : (c : Cell) → Near c c
near_itself c a = (omega arith, omega arith)

module _ (grid : Grid) (g : RunInput) (O : FairOn grid g) (f : State) (D : run g ≡ goes f) where
  F : Fair g
  F = O.fair

  -- from the end of seeding to the end no value rises
  end_falls : (r : Ran g f) → Falls g r.seeded.field f.field
  end_falls r =
      let Q = queueing_to g F r.seeded r.queued_all (seeding_good g F r.seeded r.by_seeding) (seeding_empty g F r.seeded r.by_seeding) r.by_queueing in
      subst (λ (l : List Float). Falls g l f.field) Q.field_same (ends g F g.limit r.queued_all f Q.good r.by_spreading).falls

  module _ (c : Cell) (v : Inside grid c) where
    on_grid : (d : Cell) → Inside grid d → index_of grid d < g.cells
    on_grid d w = rw O.cells_are (index_below w)

    -- a triangle whose snapped box covers the cell
    covered_met : (k : ℕ) → k < g.triangles → Covers (g.box k) c → Met g f.field k (index_of grid c)
    covered_met k l b =
        let r = run_went g f D in
        let m = seeding_meets g F k c.x c.y c.z r.seeded l in_box r.by_seeding in
        met_on g r.seeded.field f.field k (index_of grid c) (on_grid c v) (end_falls r)
        (subst (Met g r.seeded.field k) (O.index_is c.x c.y c.z) m)
      where
        in_box : InBox (g.box k) c.x c.y c.z
        in_box =
            record {
              on_x = record { low = omega (arith, (b X).0); high = omega (arith, (b X).1) };
              on_y = record { low = omega (arith, (b Y).0); high = omega (arith, (b Y).1) };
              on_z = record { low = omega (arith, (b Z).0); high = omega (arith, (b Z).1) };
            }

    -- a triangle that the cell or a neighbour held
    held_met : (k : ℕ) → k < g.triangles → HeldNear grid g c k → Met g f.field k (index_of grid c)
    held_met k l h =
        let n = near_reached grid c h.holder v h.on_grid h.near in
        let e = h.held.names in
        let s = since_served g F f D h.held.state h.held.since (index_of grid h.holder) (on_grid h.holder h.on_grid) (rw e l) in
        subst (λ (j : ℕ). Met g f.field j (index_of grid c)) e
        (s n.number (index_of grid c) n.small (O.around_is (index_of grid h.holder) n.number ∙ n.leads))

    offered_met : (k : ℕ) → Offered grid g c k → Met g f.field k (index_of grid c)
    offered_met k o = go o.how
      where
        go : Covers (g.box k) c ⊎ HeldNear grid g c k → Met g f.field k (index_of grid c)
        go (inl b) = covered_met k o.triangle b
        go (inr h) = held_met k o.triangle h

    -- what the cell holds at the end
    pub holds : CellHolds g (held f (index_of grid c)) (named f (index_of grid c)) (index_of grid c)
    holds = (since_good g F f (end_since g F f D)).sound.each (index_of grid c) (on_grid c v)

    -- what it names it was offered: it holds it itself
    pub named_offered : named f (index_of grid c) < g.triangles → Offered grid g c (named f (index_of grid c))
    named_offered l =
        record {
          triangle = l;
          how = inr (record {
            holder = c;
            on_grid = v;
            near = near_itself c;
            held = record { state = f; since = end_since g F f D; names = refl };
          });
        }

    -- no triangle that was offered is nearer, nor is f32::MAX
    pub none_nearer : (k : ℕ) → Offered grid g c k → nearer (g.distance k (index_of grid c)) (held f (index_of grid c)) ≡ false
    none_nearer k o = let m = offered_met k o in height_not_nearer (distance_at g F k (index_of grid c) m.number) (held_by g F holds) m.least

    max_not_nearer : nearer f_max (held f (index_of grid c)) ≡ false
    max_not_nearer = height_not_nearer max_value (held_by g F holds) (holds_at_most_max g F holds)

    -- ---- distances that have no sign bit

    module _ (U : Unsigned g) where
      pub magnitude_distance : Distance (held f (index_of grid c))
      magnitude_distance = of holds
        where
          of : {d : Float} {k : ℕ} → CellHolds g d k (index_of grid c) → Distance d
          of (is_bare e n) = subst Distance (sym e) max_distance
          of {k = k} (has l e n b) = subst Distance (sym e) (U k (index_of grid c) (sym (ap is_nan e) ∙ n))

      -- of two of them, what is not nearer is at least as large
      at_most : (x : Float) → Distance x → nearer x (held f (index_of grid c)) ≡ false → (held f (index_of grid c) ≦ x) ≡ true
      at_most x p h =
          let h' = held f (index_of grid c) in
          let less = sym (nearer_exactly x h' (distance_sign x p) (distance_sign h' magnitude_distance)) ∙ h in
          let n = to_bits binary32 x in
          let m = to_bits binary32 h' in
          distance_le h' x magnitude_distance p ∙ le-leb m n (ltb-false n m (sym (distance_lt x h' p magnitude_distance) ∙ less))

      pub least : Least grid g c (held f (index_of grid c))
      least =
          record {
            at_most_max = at_most f_max max_distance max_not_nearer;
            at_most_each = λ k o. at_most (g.distance k (index_of grid c)) (U k (index_of grid c) (offered_met k o).number) (none_nearer k o);
            one_of_them = one holds;
          }
        where
          one : CellHolds g (held f (index_of grid c)) (named f (index_of grid c)) (index_of grid c)
              → (held f (index_of grid c) ≡ f_max) ⊎ ((k : ℕ) × Offered grid g c k × (held f (index_of grid c) ≡ g.distance k (index_of grid c)))
          one (is_bare e n) = inl e
          one (has l e n b) = inr (named f (index_of grid c), named_offered l, e)

    pub names : Names grid g c (held f (index_of grid c)) (named f (index_of grid c))
    names =
        record {
          below_max = λ b. let h = has_below g F holds b in (named_offered h.0, h.1);
          otherwise = λ b. none_named_lem b holds;
        }
      where
        none_named_lem : (held f (index_of grid c) ≺ f_max) ≡ false → CellHolds g (held f (index_of grid c)) (named f (index_of grid c)) (index_of grid c) → named f (index_of grid c) ≡ none
        none_named_lem b (is_bare e n) = n
        none_named_lem b (has l e n q) = absurd (true≢false (sym (nearer_below _ q) ∙ b))
