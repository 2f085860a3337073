-- The loop over the 27 offers of a pop: what a turn keeps, and what each way out gives. Assumes nothing.
use Prim.Native.Nat.{ℕ, ◌+◌, ◌<◌, ◌≤◌}
use native.Mathlib.Omega.{arith}
use mathlib.Core.Path.{◌≡◌, refl, sym, ◌∙◌}
use Rattle.std.proofs.Common.{Ok, Err, Some, None}
use mathlib.Core.List.{List}
use lib.ListN.{length, get_or, set, length-set}
use lib.Seq.{get_or-set_same, get_or-set_other}
use lib.Ieee.{Float, nan}
use Rattle.queue.specs.declared.Entry.{Entry}
use Rattle.refusals.specs.declared.Refusal.{Refusal}
use Rattle.refusals.specs.Numbers.{number_of}
use Rattle.run.specs.Run.{queue}
use Rattle.run_around.specs.Around.{Passable, PlacesFit}
use Rattle.run_seed_cells.proofs.Told.{never_none}
use Rattle.entries_consider.specs.Considered.{verdict, Considered}
use Rattle.entries_gather.specs.Gathered.{BatchGathered}
use Rattle.entries_gather.proofs.Batches.{Gathers, none_yet, passes, takes_it_lem, stops_here, all_made}

abbrev pub in_batch : List ℕ → List ℕ → ℕ → ℕ → Entry
in_batch cells distances k i = record { distance = get_or distances i 0; cell = get_or cells i 0; triangle = k }

pub record Gathering (k : ℕ) (to : List ℕ) (squares : List Float) (field₀ : List Float) (names₀ : List ℕ) (field : List Float) (names cells distances : List ℕ) (count j : ℕ) : Type 0 where
  pub field_long : length field ≡ length field₀
  pub names_long : length names ≡ length names₀
  pub cells_long : length cells ≡ 27
  pub distances_long : length distances ≡ 27
  pub few : count ≤ j
  pub within : j ≤ 27
  pub is : Gathers k to squares field₀ names₀ j field names (in_batch cells distances k) count

module _ (k : ℕ) (to : List ℕ) (squares : List Float) (field₀ : List Float) (names₀ : List ℕ) where
  pub gathering_starts : (cells distances : List ℕ) → length cells ≡ 27 → length distances ≡ 27 → Gathering k to squares field₀ names₀ field₀ names₀ cells distances 0 0
  gathering_starts cells distances c d = record {
    field_long = refl;
    names_long = refl;
    cells_long = c;
    distances_long = d;
    few = omega arith;
    within = omega arith;
    is = none_yet k to squares field₀ names₀ (in_batch cells distances k);
  }

  module _ {field : List Float} {names cells distances : List ℕ} {count j : ℕ} (h : Gathering k to squares field₀ names₀ field names cells distances count j) (l : j < 27) where
    -- the offer may be made
    pub may_pass : PlacesFit to squares field₀ names₀ → Passable (get_or to j 0) field names
    may_pass fit =
        let p = fit.each j l in
        record { below = λ z. omega (arith, p.below z, h.field_long); even = h.names_long ∙ p.even ∙ sym h.field_long }

    module _ {field' : List Float} {names' : List ℕ} (fl : length field' ≡ length field) (nl : length names' ≡ length names) where
      -- the cell does not take it
      pub gathering_passed : Considered k (get_or to j 0) (get_or squares j nan) field names field' names' (Ok None)
          → Gathering k to squares field₀ names₀ field' names' cells distances count (j + 1)
      unfolding verdict
      gathering_passed c = record {
        field_long = fl ∙ h.field_long;
        names_long = nl ∙ h.names_long;
        cells_long = h.cells_long;
        distances_long = h.distances_long;
        few = omega (arith, h.few);
        within = omega (arith, l);
        is = passes k to squares field₀ names₀ j h.is (λ g s. c.is (queue g) s) (λ i w. refl);
      }

      -- it takes it at a distance
      module _ {d : ℕ} (c : Considered k (get_or to j 0) (get_or squares j nan) field names field' names' (Ok (Some d))) where
        pub gathering_took : Gathering k to squares field₀ names₀ field' names' (set cells count (get_or to j 0)) (set distances count d) (count + 1) (j + 1)
        unfolding verdict
        gathering_took = record {
          field_long = fl ∙ h.field_long;
          names_long = nl ∙ h.names_long;
          cells_long = length-set cells count _ ∙ h.cells_long;
          distances_long = length-set distances count _ ∙ h.distances_long;
          few = omega (arith, h.few);
          within = omega (arith, l);
          is = takes_it_lem k to squares field₀ names₀ j h.is (λ g s. c.is (queue g) s) same new;
        }
          where
            count_in_lem : count < length cells
            count_in_lem = omega (arith, h.few, l, h.cells_long)

            count_there : count < length distances
            count_there = omega (arith, h.few, l, h.distances_long)

            same : (i : ℕ) → i < count → in_batch cells distances k i ≡ in_batch (set cells count (get_or to j 0)) (set distances count d) k i
            same i w =
                let ne : (i ≡ count → ⊥) = λ q. omega (arith, w, q) in
                sym (λ r. record { distance = get_or-set_other distances count i d 0 ne r; cell = get_or-set_other cells count i (get_or to j 0) 0 ne r; triangle = k })

            new : in_batch (set cells count (get_or to j 0)) (set distances count d) k count ≡ record { distance = d; cell = get_or to j 0; triangle = k }
            new = λ r. record { distance = get_or-set_same distances count d 0 count_there r; cell = get_or-set_same cells count (get_or to j 0) 0 count_in_lem r; triangle = k }

      -- or it is refused
      pub gathering_stops : {r : Refusal} → Considered k (get_or to j 0) (get_or squares j nan) field names field' names' (Err r)
          → BatchGathered k to squares field₀ names₀ field' names' (record { number = number_of r; count = count; triangle = k; cells = cells; distances = distances })
      unfolding verdict
      gathering_stops {r} c = record {
        few = omega (arith, h.few, l);
        is = stops_here k to squares field₀ names₀ j h.is field' names' (number_of r) 27 l (λ g s. c.is (queue g) s) (never_none r);
      }

  pub gathering_ends : {field : List Float} {names cells distances : List ℕ} {count j : ℕ} → Gathering k to squares field₀ names₀ field names cells distances count j → 27 ≤ j
      → BatchGathered k to squares field₀ names₀ field names (record { number = 0; count = count; triangle = k; cells = cells; distances = distances })
  gathering_ends {j = j} h l = record {
    few = omega (arith, h.few, h.within);
    is = all_made k to squares field₀ names₀ (omega (arith, l, h.within)) h.is;
  }
