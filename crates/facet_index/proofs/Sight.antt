-- What a check without scratch sees of an index is enough. Under no triangle can stand more cells than name it, if they stand in order
-- (`rising_fits`); in all there are as many places as cells; so under none stand fewer, and then they are all of them (`rising_all`). Assumes
-- nothing.
use Prim.Native.Nat.{ℕ, zero, suc, ◌+◌, ◌-◌, ◌≤◌, ◌<◌}
use native.Mathlib.Decide.{ℕ_discrete}
use native.Mathlib.Omega.{arith}
use mathlib.Core.Path.{◌≡◌, refl, sym, ap, ap₂, subst}
use mathlib.Core.Bool.{Bool, true, false}
use mathlib.Core.List.{List, [], ◌∷◌}
use lib.ListN.{length, get_or, drop}
use Rattle.picks.proofs.Rising.{rising_fits, rising_all}
use Rattle.facet_index.specs.Index.{Index, index_of, start_of, under, IsIndex}
use Rattle.facet_index.specs.Told.{Tells}
use Rattle.facet_index.specs.Places.{named, before, Seen}
use Rattle.facet_index.proofs.Places.{before_more, before_le}
use Rattle.facet_index.proofs.One.{index_starts, counted, index_is, has_index}
use Rattle.facet_index.proofs.Told.{tells_yes, tells_no}

module _ (t : ℕ) (names : List ℕ) (i : Index) where
  pub index_seen : IsIndex t names i → Seen t names i
  index_seen x =
      record {
        starts_long = x.starts_long;
        list_long = x.list_long;
        first = x.first;
        orderly = λ k h.
            record {
              rising = x.rising k h;
              within = omega (arith, index_starts t names i x (k + 1) (omega arith), before_le names (k + 1), x.list_long);
              row = let s = x.serves k h in record { below = s.below; passes = s.passes; order = s.order };
            };
        end = omega (arith, index_starts t names i x t (omega arith));
        tail = x.tail;
      }

  module _ (x : Seen t names i) where
    fits : (k : ℕ) → k < t → under i k ≤ named names k (length names)
    fits k h = rising_fits (x.orderly k h).row

    -- from the front no start is beyond its place, and from the end none before it
    low : (k : ℕ) → k ≤ t → start_of i k ≤ before names k
    low zero h = omega (arith, x.first)
    low (suc k) h =
        let e : suc k ≡ k + 1 = omega arith in
        let r : start_of i (k + 1) ≤ before names (k + 1) = omega (arith, low k (omega arith), fits k (omega arith), before_more names k) in
        rw e r

    high : (d k : ℕ) → k + d ≡ t → before names k ≤ start_of i k
    high zero k h = let e : k ≡ t = omega arith in rw e (omega (arith, x.end))
    high (suc d) k h = omega (arith, high d (k + 1) (omega arith), fits k (omega arith), before_more names k)

    starts : (k : ℕ) → k ≤ t → start_of i k ≡ before names k
    starts k h = omega (arith, low k h, high (t - k) k (omega arith))

    pub seen_index : IsIndex t names i
    seen_index =
        record {
          starts_long = x.starts_long;
          list_long = x.list_long;
          first = x.first;
          rising = λ k h. (x.orderly k h).rising;
          serves = λ k h. rising_all (x.orderly k h).row (omega (arith, starts k (omega arith), starts (k + 1) (omega arith), before_more names k));
          tail = x.tail;
        }

-- ---- whether slices are an index can be told

-- two lists of numbers are the same, or not
same_lists : (l m : List ℕ) → Dec (l ≡ m)
same_lists [] [] = yes refl
same_lists [] (y ∷ m) = no (λ e. omega (arith, ap length e))
same_lists (x ∷ l) [] = no (λ e. omega (arith, ap length e))
same_lists (x ∷ l) (y ∷ m) = go (ℕ_discrete x y) (same_lists l m)
  where
    go : Dec (x ≡ y) → Dec (l ≡ m) → Dec (x ∷ l ≡ y ∷ m)
    go (yes e) (yes f) = yes (ap₂ (λ (a : ℕ) (k : List ℕ). a ∷ k) e f)
    go (no e) f = no (λ g. e (ap (λ (k : List ℕ). get_or k 0 0) g))
    go (yes e) (no f) = no (λ g. f (ap (drop 1) g))

-- they are, where they are the one that the names have
pub index_told : (t : ℕ) (names : List ℕ) (i : Index) → (b : Bool) × Tells b (IsIndex t names i)
index_told t names i = go (same_lists i.starts (counted t names).starts) (same_lists i.list (counted t names).list)
  where
    go : Dec (i.starts ≡ (counted t names).starts) → Dec (i.list ≡ (counted t names).list) → (b : Bool) × Tells b (IsIndex t names i)
    go (yes e) (yes f) = (true, tells_yes (subst (IsIndex t names) (sym (ap₂ index_of e f)) (has_index t names)))
    go (no e) f = (false, tells_no (λ x. e (ap (λ (j : Index). j.starts) (index_is t names i x))))
    go (yes e) (no f) = (false, tells_no (λ x. f (ap (λ (j : Index). j.list) (index_is t names i x))))
