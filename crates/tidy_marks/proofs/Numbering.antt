-- Marks that become numbers, one vertex after the other. Assumes nothing.
use Prim.Native.Nat.{ℕ, ◌+◌, ◌*◌, ◌≤◌, ◌<◌}
use native.Mathlib.Decide.{ℕ_discrete}
use native.Mathlib.Omega.{arith}
use mathlib.Core.Path.{◌≡◌, refl, sym, ap, ◌∙◌}
use mathlib.Core.Bool.{Bool, true, false, not, cond, ◌&&◌}
use mathlib.Core.List.{List}
use lib.Dec.{eqb}
use lib.ListN.{length}
use lib.Ieee.{Float}
use borrow.Author.Tests.{eqb-true, eq-eqb, ne_eqb}
use Rattle.lists.specs.Range.{count_below}
use Rattle.lists.proofs.Range.{count_none, count_more}
use Rattle.tidy_marks.specs.Marks.{Marks, mark_at, is_marked, numbered}

-- of n marks in words₀ those below v are numbered
pub record Numbering (n : ℕ) (words₀ words : List Float) (v count : ℕ) : Type 0 where
  pub within : v ≤ n
  pub long : length words ≡ 3 * n
  pub counts : count ≡ count_below (is_marked n words₀) v
  pub front : (w : ℕ) → w < v → mark_at n words w ≡ cond (is_marked n words₀ w) (count_below (is_marked n words₀) w + 1) 0
  pub back : (w : ℕ) → v ≤ w → w < n → mark_at n words w ≡ mark_at n words₀ w

module _ (n : ℕ) (words₀ : List Float) where
  pub numbering_begins : length words₀ ≡ 3 * n → Numbering n words₀ words₀ 0 0
  numbering_begins long =
      record { within = omega arith; long = long; counts = sym (count_none (is_marked n words₀)); front = λ w l. absurd (omega arith); back = λ w l h. refl }

  module _ (words : List Float) (v count : ℕ) (i : Numbering n words₀ words v count) (l : v < n) where
    -- vertex v has the mark that it had
    own : mark_at n words v ≡ mark_at n words₀ v
    own = i.back v (omega arith) l

    number : (mark : ℕ) → cond (not (eqb mark 0)) (count + 1) mark ≡ cond (not (eqb mark 0)) (count + 1) 0
    number mark = go (eqb mark 0) refl
      where
        go : (b : Bool) → eqb mark 0 ≡ b → cond (not b) (count + 1) mark ≡ cond (not b) (count + 1) 0
        go true e = eqb-true mark 0 e
        go false e = refl

    pub numbering_on : (new : List Float) (next : ℕ) → length new ≡ length words → next ≡ count + cond (is_marked n words v) 1 0 → Marks n (numbered n words v count) new
        → Numbering n words₀ new (v + 1) next
    numbering_on new next long c m =
        record {
          within = omega arith;
          long = omega (arith, i.long);
          counts = c ∙ ap (λ (k : ℕ). k + cond (is_marked n words v) 1 0) i.counts
              ∙ ap (λ (k : ℕ). count_below (is_marked n words₀) v + cond (not (eqb k 0)) 1 0) own ∙ sym (count_more (is_marked n words₀) v);
          front = λ w h. front w h (ℕ_discrete v w);
          back = λ w h k. m.is w k ∙ other w (λ e. omega arith) ∙ i.back w (omega arith) k;
        }
      where
        other : (w : ℕ) → (v ≡ w → ⊥) → numbered n words v count w ≡ mark_at n words w
        other w h = rw (ne_eqb v w h)

        front : (w : ℕ) → w < v + 1 → Dec (v ≡ w) → mark_at n new w ≡ cond (is_marked n words₀ w) (count_below (is_marked n words₀) w + 1) 0
        front w h (yes e) =
            m.is w (omega arith)
            ∙ ap (λ (b : Bool). cond (b && is_marked n words v) (count + 1) (mark_at n words w)) (eq-eqb v w e)
            ∙ ap (λ (u : ℕ). cond (is_marked n words v) (count + 1) (mark_at n words u)) (sym e)
            ∙ number (mark_at n words v)
            ∙ ap (λ (k : ℕ). cond (not (eqb k 0)) (count + 1) 0) own
            ∙ ap (λ (k : ℕ). cond (is_marked n words₀ v) (k + 1) 0) i.counts
            ∙ ap (λ (u : ℕ). cond (is_marked n words₀ u) (count_below (is_marked n words₀) u + 1) 0) e
        front w h (no e) = m.is w (omega arith) ∙ other w e ∙ i.front w (omega arith)

  pub numbering_ends : (words : List Float) (v count : ℕ) → Numbering n words₀ words v count → n ≤ v
      → (count ≡ count_below (is_marked n words₀) n) × Marks n (λ w. cond (is_marked n words₀ w) (count_below (is_marked n words₀) w + 1) 0) words
  numbering_ends words v count i h =
      let all : v ≡ n = omega (arith, i.within) in
      (i.counts ∙ ap (count_below (is_marked n words₀)) all, record { is = λ w l. i.front w (omega arith) })
