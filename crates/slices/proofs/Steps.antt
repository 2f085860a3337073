-- A loop that adds one at places a step apart: no turn, and one turn more. The places differ, since the step is not 0. Assumes nothing.
use Prim.Native.Nat.{ℕ, ◌+◌, ◌*◌, ◌<◌}
use native.Mathlib.Nat.{not-suc-le-zero, mul-lt-mul_of_pos_right, eq-or-lt_of_le}
use native.Mathlib.Decide.{ℕ_discrete}
use native.Mathlib.Omega.{arith}
use mathlib.Core.Path.{◌≡◌, refl, sym, ap, ◌∙◌, subst}
use mathlib.Core.List.{List}
use mathlib.Core.Logic.{⊎_elim}
use lib.ListN.{length, get_or, set, length-set}
use lib.Seq.{get_or-set_same, get_or-set_other}
use Rattle.slices.specs.Counts.{Stepped}

pub stepped_none : (start step : ℕ) (l : List ℕ) → Stepped start step 0 l l
stepped_none start step l = record { long = refl; on = λ j h. absurd (not-suc-le-zero h); off = λ i h. refl }

-- a smaller number of steps leads to a smaller place
apart : (start step j i : ℕ) → 0 < step → j < i → start + j * step ≡ start + i * step → ⊥
apart start step j i p h e = omega (arith, mul-lt-mul_of_pos_right h p)

-- what is added to next is as it was
pub stepped_fresh : (start step i : ℕ) (l₀ l : List ℕ) → 0 < step → Stepped start step i l₀ l → get_or l (start + i * step) 0 ≡ get_or l₀ (start + i * step) 0
stepped_fresh start step i l₀ l p s = s.off (start + i * step) (λ j h e. apart start step j i p h (sym e))

pub stepped_more : (start step i : ℕ) (l₀ l : List ℕ) → 0 < step → start + i * step < length l₀ → Stepped start step i l₀ l
    → Stepped start step (i + 1) l₀ (set l (start + i * step) (get_or l (start + i * step) 0 + 1))
stepped_more start step i l₀ l p h s =
    record {
      long = length-set l at new ∙ s.long;
      on = λ j w. go j w (ℕ_discrete j i);
      off = λ k w. get_or-set_other l at k new 0 (w i (omega arith)) ∙ s.off k (λ j v. w j (omega arith));
    }
  where
    at : ℕ
    at = start + i * step

    new : ℕ
    new = get_or l at 0 + 1

    long : at < length l
    long = omega (arith, s.long)

    go : (j : ℕ) → j < i + 1 → Dec (j ≡ i) → get_or (set l at new) (start + j * step) 0 ≡ get_or l₀ (start + j * step) 0 + 1
    go j w (yes z) =
        subst (λ (k : ℕ). get_or (set l at new) (start + k * step) 0 ≡ get_or l₀ (start + k * step) 0 + 1) (sym z)
        (get_or-set_same l at new 0 long ∙ ap (λ (n : ℕ). n + 1) (stepped_fresh start step i l₀ l p s))
    go j w (no z) = get_or-set_other l at (start + j * step) new 0 (apart start step j i p (below j w z)) ∙ s.on j (below j w z)
      where
        below : (j : ℕ) → j < i + 1 → (j ≡ i → ⊥) → j < i
        below j w z = ⊎_elim (λ (e : j ≡ i). absurd (z e)) (λ (v : j < i). v) (eq-or-lt_of_le (omega arith))
