-- A loop of turns made in pieces: what a piece tells, from where the one before it ended, is what the turns up to its end come to.
-- Assumes nothing.
use Prim.Native.Nat.{ℕ, zero, suc, ◌+◌, ◌-◌, ◌≤◌, ◌<◌}
use native.Mathlib.Omega.{arith}
use mathlib.Core.Path.{◌≡◌, sym, ap, ◌∙◌}
use Rattle.lists.specs.Turns.{Turn, goes, and_then, turns, between, told}
use Rattle.lists.proofs.Turns.{turns_refused, turns_same, told_goes, told_refuses}

module _ {S : Type 0} (f : ℕ → S → Turn S) where
  turns_after : (a b : ℕ) (s t : S) → turns f a s ≡ goes t → turns f (a + b) s ≡ turns (λ i. f (a + i)) b t
  unfolding turns
  turns_after a zero s t h = let e : a + 0 ≡ a = omega arith in rw e h
  turns_after a (suc b) s t h = let e : a + suc b ≡ suc (a + b) = omega arith in rw e (ap (λ (o : Turn S). and_then o (f (a + b))) (turns_after a b s t h))

  -- a piece of one turn
  pub one_turn : (k : ℕ) (s : S) → between f k (k + 1) s ≡ f k s
  unfolding between turns and_then
  one_turn k s =
      let one : k + 1 - k ≡ 1 = omega arith in
      let here : k + 0 ≡ k = omega arith in
      rw one (ap (λ (j : ℕ). f j s) here)

module _ {S : Type 0} (f : ℕ → S → Turn S) (lo k m : ℕ) (low : lo ≤ k) (high : k ≤ m) where
  after : (s t : S) → between f lo k s ≡ goes t → between f lo m s ≡ between f k m t
  unfolding between
  after s t h =
      let e : m - lo ≡ k - lo + (m - k) = omega arith in
      rw e (turns_after (λ i. f (lo + i)) (k - lo) (m - k) s t h) ∙ turns_same (λ i. f (lo + (k - lo + i))) (λ i. f (k + i)) (m - k) t same
    where
      same : (i : ℕ) (u : S) → i < m - k → f (lo + (k - lo + i)) u ≡ f (k + i) u
      same i u l = let e : lo + (k - lo + i) ≡ k + i = omega arith in ap (λ (j : ℕ). f j u) e

  pub piece_on : (s t u : S) (n : ℕ) → between f lo k s ≡ goes t → between f k m t ≡ told n u → n ≡ 0 → between f lo m s ≡ goes u
  piece_on s t u n h w z = after s t h ∙ w ∙ told_goes n u z

  pub piece_stop : (end : ℕ) (s t u v : S) (n : ℕ) → between f lo k s ≡ goes t → between f k m t ≡ told n u → (n ≡ 0 → ⊥) → m ≤ end → between f lo end s ≡ told n v
  unfolding between
  piece_stop end s t u v n h w z l =
      turns_refused (λ i. f (lo + i)) (m - lo) (end - lo) s (after s t h ∙ w ∙ told_refuses n u z) (omega arith) ∙ sym (told_refuses n v z)
