-- Numbers that pass a test, in order, are no more than there are; and where they are as many, they are all of them, in turn. The i-th has i
-- that pass before it: no fewer, as i stand in front of it, and no more, for those that stand behind it. And what does not fall step by step
-- does not fall. Assumes nothing.
use Prim.Native.Nat.{ℕ, zero, suc, ◌+◌, ◌-◌, ◌≤◌, ◌<◌}
use native.Mathlib.Omega.{arith}
use borrow.Author.Count.{below_more}
use mathlib.Core.Path.{◌≡◌, refl}
use mathlib.Core.Bool.{Bool, true}
use Rattle.lists.specs.Range.{count_below}
use Rattle.picks.specs.Picks.{InTurn, Rising}
use Rattle.picks.proofs.Picks.{count_up, count_one}

-- values that do not fall from one to the next, up to t, do not fall at all
module _ (f : ℕ → ℕ) (t : ℕ) (step : (k : ℕ) → k < t → f k ≤ f (k + 1)) where
  climbs : (k d : ℕ) → k + d ≤ t → f k ≤ f (k + d)
  climbs k zero h = let e : k + 0 ≡ k = omega arith in rw e (omega arith)
  climbs k (suc d) h =
      let e : k + suc d ≡ k + d + 1 = omega arith in
      rw e (omega (arith, climbs k d (omega arith), step (k + d) (omega arith)))

  pub never_falls : (k l : ℕ) → k ≤ l → l ≤ t → f k ≤ f l
  never_falls k l h w = let e : k + (l - k) ≡ l = omega arith in rw e at (climbs k (l - k) (omega arith))

-- one more of them, behind the others
pub rising_none : (p : ℕ → Bool) (k : ℕ) (f : ℕ → ℕ) → Rising p k 0 f
rising_none p k f = record { below = λ i h. absurd (omega arith); passes = λ i h. absurd (omega arith); order = λ i j w h. absurd (omega arith) }

pub rising_more : {p : ℕ → Bool} {k n : ℕ} {f : ℕ → ℕ} → Rising p k n f → f n < k → p (f n) ≡ true → ((i : ℕ) → i < n → f i < f n) → Rising p k (n + 1) f
rising_more {p} {k} {n} {f} r b e above =
    record {
      below = λ i h. below_more _ n r.below b i h;
      passes = λ i h. below_more _ n r.passes e i h;
      order = λ i j w h. below_more (λ j. (i : ℕ) → i < j → f i < f j) n (λ j h i w. r.order i j w h) above j h i w;
    }

module _ {p : ℕ → Bool} {k n : ℕ} {f : ℕ → ℕ} (r : Rising p k n f) where
  -- past the i-th of them the count is larger, at the next and at the end
  next : (i : ℕ) → suc i < n → count_below p (f i) < count_below p (f (suc i))
  next i h = count_up p (f i) (f (suc i)) (r.order i (suc i) (omega arith) h) (r.passes i (omega arith))

  last : (i : ℕ) → i < n → count_below p (f i) < count_below p k
  last i h = count_up p (f i) k (r.below i h) (r.passes i h)

  in_front : (i : ℕ) → i < n → i ≤ count_below p (f i)
  in_front zero h = omega arith
  in_front (suc i) h = omega (arith, in_front i (omega arith), next i h)

  -- j of them stand behind the i-th
  behind : (j i : ℕ) → i + suc j ≡ n → count_below p (f i) + suc j ≤ count_below p k
  behind zero i e = omega (arith, last i (omega arith))
  behind (suc j) i e = omega (arith, behind j (suc i) (omega arith), next i (omega arith))

  pub rising_fits : n ≤ count_below p k
  rising_fits = go n refl
    where
      go : (m : ℕ) → n ≡ m → n ≤ count_below p k
      go zero e = omega arith
      go (suc m) e = omega (arith, behind m 0 (omega arith))

  pub rising_all : n ≡ count_below p k → InTurn p k n f
  rising_all e = record { below = r.below; passes = r.passes; order = r.order; each = found }
    where
      rank : (i : ℕ) → i < n → count_below p (f i) ≡ i
      rank i h = let w : i + suc (n - (i + 1)) ≡ n = omega arith in omega (arith, in_front i h, behind (n - (i + 1)) i w)

      found : (j : ℕ) → j < k → p j ≡ true → (i : ℕ) × (i < n) × (f i ≡ j)
      found j h w =
          let l : count_below p j < n = omega (arith, e, count_up p j k h w) in
          (count_below p j, l, count_one p (f (count_below p j)) j (r.passes (count_below p j) l) w (rank (count_below p j) l))
