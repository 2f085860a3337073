-- What a cell weighs in edition 2, as two counts: a magnitude above zero is not zero, so that no cell is counted as both. Assumes nothing.
use Prim.Native.Nat.{ℕ, zero, suc, ◌+◌, ◌*◌}
use native.Mathlib.Decide.{ℕ_discrete}
use native.Mathlib.Omega.{arith}
use mathlib.Core.Path.{◌≡◌, refl, sym, ap, ◌∙◌}
use mathlib.Core.Bool.{Bool, true, false, ◌&&◌, and-false, cond, false≢true}
use lib.Ieee.{Float, nan, inf, fin, up, down, lt, eq, below, level}
use borrow.Author.Tests.{ltb-true, ne_eqb}
use Rattle.float.specs.Arith.{◌≺◌, ◌≐◌, f0}
use Rattle.float.specs.Steps.{abs_of, sign_bit}
use Rattle.run.specs.Signs.{half_weight}

below_level : (s : Bool) (a : ℕ) (t : Bool) (b : ℕ) → below s a t b ≡ true → level t b s a ≡ false
below_level false a false b h = rw (ne_eqb b a (λ e. omega (arith, ltb-true a b h)))
below_level false a true b h = absurd (false≢true h)
below_level true a true b h = rw (ne_eqb b a (λ e. omega (arith, ltb-true b a h)))
below_level true a false b h = go (ℕ_discrete b a) (ℕ_discrete b 0)
  where
    go : Dec (b ≡ a) → Dec (b ≡ 0) → level false b true a ≡ false
    go (no e) d = rw (ne_eqb b a e)
    go (yes e) (no z) = rw (ne_eqb b 0 z, and-false _)
    go (yes e) (yes z) = absurd (omega (arith, ltb-true 0 (a + b) h))

-- of two floats the greater does not equal the less
less_unequal : (x y : Float) → x ≺ y ≡ true → y ≐ x ≡ false
unfolding lt eq
less_unequal nan y h = absurd (false≢true h)
less_unequal (inf s) nan h = refl
less_unequal (inf true) (inf false) h = refl
less_unequal (inf true) (inf true) h = absurd (false≢true h)
less_unequal (inf false) (inf t) h = absurd (false≢true h)
less_unequal (inf s) (fin t n d) h = refl
less_unequal (fin s m e) nan h = refl
less_unequal (fin s m e) (inf t) h = refl
less_unequal (fin s m e) (fin t n d) h = below_level s (m * up e * down d) t (n * up d * down e) h

-- two for a cell that is inside and above zero, and one for a cell at zero
pub half_as_two : (d : Float) → half_weight d ≡ 2 * cond (sign_bit d && (f0 ≺ abs_of d)) 1 0 + cond (abs_of d ≐ f0) 1 0
half_as_two d = go (sign_bit d) (f0 ≺ abs_of d) (abs_of d ≐ f0) (less_unequal f0 (abs_of d))
  where
    go : (set above at : Bool) → (above ≡ true → at ≡ false) → cond (set && above) 2 (cond {A = ℕ} at 1 0) ≡ 2 * cond (set && above) 1 0 + cond at 1 0
    go true true at h = rw (h refl)
    go true false true h = refl
    go true false false h = refl
    go false above true h = refl
    go false above false h = refl
