-- A value taken apart: its pattern is its sign bit and, below it, the pattern of its magnitude, which is a distance unless the value is the NaN. So
-- clearing the sign bit clears the sign, and sign bit and magnitude's pattern together are the value. Assumes nothing.
use mathlib.Core.Path.{◌≡◌, refl, sym, ap, ap₂, ◌∙◌, subst}
use mathlib.Core.Bool.{Bool, true, false, not, beq, cond, ◌&&◌, ◌||◌, true≢false}
use Prim.Native.Nat.{ℕ, zero, suc, ◌+◌, ◌*◌, ◌%◌, ◌≤◌}
use native.Mathlib.Omega.{arith}
use lib.IntN.{ℤ, pos}
use lib.Dec.{T, leb, eqb}
use lib.Ieee.{Float, nan, inf, fin, binary32, up, down, fits, is_nan, ne, le, of_bits, to_bits}
use borrow.Author.Tests.{eq-eqb, le-leb, lt-leb}
use Rattle.float.specs.Arith.{◌≦◌, f_max}
use Rattle.float.specs.Distance.{Distance, unsigned}
use Rattle.float.specs.Steps.{abs_of, sign_bit, finite_at_most}
use Rattle.float.proofs.Bools.{and_first}
use Rattle.float.proofs.Order.{unsigned_distance, distance_unsigned, same_bits}

-- ---- the test `x != x`

level_itself : (s t : Bool) (a : ℕ) → (eqb a a && (beq s s || t)) ≡ true
level_itself s t a = ap (λ (b : Bool). b && (beq s s || t)) (eq-eqb a a refl) ∙ same s
  where
    same : (s : Bool) → (beq s s || t) ≡ true
    same true = refl
    same false = refl

-- only the NaN differs from itself
pub ne_itself : (x : Float) → ne x x ≡ is_nan x
unfolding ne is_nan
ne_itself nan = refl
ne_itself (inf true) = refl
ne_itself (inf false) = refl
ne_itself (fin s m e) = ap not (level_itself s (eqb (m * up e * down e) 0) (m * up e * down e))

pub is_number : (x : Float) → ne x x ≡ false → T (not (is_nan x))
is_number x h = subst (λ (t : Bool). T (not t)) (sym (sym (ne_itself x) ∙ h)) tt

-- ---- the pattern without its sign bit

abs_unsigned : (x : Float) → T (not (is_nan x)) → T (unsigned (abs_of x))
unfolding abs_of is_nan
abs_unsigned nan n = absurd n
abs_unsigned (inf s) n = tt
abs_unsigned (fin s m e) n = tt

pub abs_fits : (x : Float) → T (fits binary32 x) → T (fits binary32 (abs_of x))
unfolding abs_of fits
abs_fits nan f = tt
abs_fits (inf s) f = tt
abs_fits (fin s zero e) f = f
abs_fits (fin s (suc m) e) f = f

-- the magnitude of a number is a distance
pub abs_distance : (x : Float) → T (fits binary32 x) → T (not (is_nan x)) → Distance (abs_of x)
abs_distance x f n = unsigned_distance (abs_of x) (abs_fits x f) (abs_unsigned x n)

-- ---- a pattern is a sign bit and a magnitude

pub bits_split : (x : Float) → to_bits binary32 x ≡ cond (sign_bit x) 0x8000_0000 0 + to_bits binary32 (abs_of x)
unfolding abs_of to_bits
bits_split nan = refl
bits_split (inf s) = refl
bits_split (fin s m e) = split (cond s 0x8000_0000 0) _ _
  where
    split : (a b c : ℕ) → a + b + c ≡ a + (0 + b + c)
    split a b c = omega arith

-- below 2 ^ 31 the magnitude, from there on the sign
module _ (x : Float) (f : T (fits binary32 x)) (n : T (not (is_nan x))) where
  pub abs_bits : to_bits binary32 x % 0x8000_0000 ≡ to_bits binary32 (abs_of x)
  abs_bits = rw bits_split (rest (sign_bit x) (to_bits binary32 (abs_of x)) (abs_distance x f n).small)
    where
      rest : (s : Bool) (a : ℕ) → a ≤ 0x7f80_0000 → (cond s 0x8000_0000 0 + a) % 0x8000_0000 ≡ a
      rest true a h = omega arith
      rest false a h = omega arith

  pub sign_bits : leb 0x8000_0000 (to_bits binary32 x) ≡ sign_bit x
  sign_bits = rw bits_split (top (sign_bit x) (to_bits binary32 (abs_of x)) (abs_distance x f n).small)
    where
      top : (s : Bool) (a : ℕ) → a ≤ 0x7f80_0000 → leb 0x8000_0000 (cond s 0x8000_0000 0 + a) ≡ s
      top true a h = le-leb 0x8000_0000 (0x8000_0000 + a) (omega arith)
      top false a h = lt-leb 0x8000_0000 (0 + a) (omega arith)

pub same_value : (x y : Float) → T (fits binary32 x) → T (fits binary32 y) → sign_bit x ≡ sign_bit y → to_bits binary32 (abs_of x) ≡ to_bits binary32 (abs_of y) → x ≡ y
same_value x y p q s b = same_bits x y p q (bits_split x ∙ ap₂ (λ (t : Bool) (n : ℕ). cond t 0x8000_0000 0 + n) s b ∙ sym (bits_split y))

-- ---- what is its own magnitude: what has no sign bit, and so a distance

pub own_magnitude : (x : Float) → sign_bit x ≡ false → abs_of x ≡ x
unfolding abs_of
own_magnitude nan h = refl
own_magnitude (inf true) h = absurd (true≢false h)
own_magnitude (inf false) h = refl
own_magnitude (fin true m e) h = absurd (true≢false h)
own_magnitude (fin false m e) h = refl

pub distance_sign : (x : Float) → Distance x → sign_bit x ≡ false
distance_sign x d = none x (distance_unsigned x d)
  where
    none : (v : Float) → T (unsigned v) → sign_bit v ≡ false
    none nan u = absurd u
    none (inf true) u = absurd u
    none (inf false) u = refl
    none (fin true m e) u = absurd u
    none (fin false m e) u = refl

pub abs_itself : (x : Float) → Distance x → abs_of x ≡ x
abs_itself x d = own_magnitude x (distance_sign x d)

-- ---- finite and at most a bound

most_is : f_max ≡ fin false 0xff_ffff (pos 104)
unfolding of_bits
most_is = refl

under_most : (x : Float) → le (abs_of x) (fin false 0xff_ffff (pos 104)) ≡ true → (s : Bool) × (m : ℕ) × (e : ℤ) × (x ≡ fin s m e)
unfolding abs_of le
under_most nan h = absurd (true≢false (sym h))
under_most (inf s) h = absurd (true≢false (sym h))
under_most (fin s m e) h = (s, m, e, refl)

-- such an x is a number
pub finite_form : (x bound : Float) → finite_at_most x bound ≡ true → (s : Bool) × (m : ℕ) × (e : ℤ) × (x ≡ fin s m e)
finite_form x bound h = under_most x (ap (le (abs_of x)) (sym most_is) ∙ and_first (abs_of x ≦ f_max) (abs_of x ≦ bound) h)
