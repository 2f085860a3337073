-- Pieces put one behind the other, for those numbers alone that pass a test: the i-th piece is that of the i-th such number. By induction
-- over the numbers. Assumes nothing.
use Prim.Native.Nat.{ℕ, zero, suc, ◌+◌, ◌≤◌}
use native.Mathlib.Numerals.{add-one}
use native.Mathlib.Omega.{arith}
use mathlib.Core.Path.{◌≡◌, refl, sym, ap, ap₂, ◌∙◌}
use mathlib.Core.Bool.{Bool, true, false, cond}
use mathlib.Core.List.{List, [], ◌++◌, append-nil}
use Rattle.lists.specs.Range.{count_below}
use Rattle.lists.specs.Joined.{joined}
use Rattle.picks.specs.Picks.{select}
use Rattle.picks.proofs.Picks.{select_count}

module _ {A : Type 0} (p : ℕ → Bool) (f : ℕ → List A) (n : ℕ) where
  -- the piece of k where it passes, and nothing else
  abbrev piece_if : ℕ → List A
  piece_if k = cond (p k) (f k) []

  pub joined_picked : (k : ℕ) → k ≤ n → joined piece_if k ≡ joined (λ i. f (select p n i)) (count_below p k)
  unfolding joined count_below
  joined_picked zero h = refl
  joined_picked (suc k) h = go (p k) refl (joined_picked k (omega arith))
    where
      c : ℕ
      c = count_below p k

      go : (b : Bool) → p k ≡ b → joined piece_if k ≡ joined (λ i. f (select p n i)) c
          → joined piece_if k ++ cond b (f k) [] ≡ joined (λ i. f (select p n i)) (c + cond b 1 0)
      go true e i = rw (add-one c) (ap₂ (λ (x y : List A). x ++ y) i (ap f (sym (select_count p n k h e))))
      go false e i = append-nil (joined piece_if k) ∙ i ∙ ap (joined (λ i. f (select p n i))) (plus c)
        where
          plus : (c : ℕ) → c ≡ c + 0
          plus c = omega arith
