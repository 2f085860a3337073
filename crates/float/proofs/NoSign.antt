-- A squared length and its root are never negative: a square has no sign bit, a sum of such values has none, and a root keeps that. Only a NaN may come
-- in between. So a length that is no NaN is a distance. Assumes nothing.
use mathlib.Core.Path.{◌≡◌, refl, sym, ap, ◌∙◌, subst}
use mathlib.Core.Logic.{◌⊎◌, inl, inr}
use mathlib.Core.Bool.{Bool, true, false, not, cond}
use Prim.Native.Nat.{ℕ, zero, suc, ◌+◌, ◌-◌, ◌*◌, ◌/◌, ◌%◌, ◌^◌, compare}
use lib.Dec.{T, ltb, T_not}
use lib.Ieee.{Float, nan, inf, fin, binary32, up, down, size, nearest, odd, units, round, sum, add, mul, fits, is_nan}
use Rattle.float.specs.Arith.{◌⊕◌, ◌⊗◌}
use Rattle.float.specs.Distance.{Distance, unsigned}
use Rattle.float.specs.RootOf.{root_of}
use Rattle.float.proofs.Order.{unsigned_distance, distance_unsigned}
use Rattle.float.proofs.Roots.{root_distance}

-- the NaN, or a value without a sign bit
abbrev pub NoSign : Float → Type 0
NoSign x = (x ≡ nan) ⊎ T (unsigned x)

-- ---- what is rounded with no sign has none

odd_unsigned : (d q k l : ℕ) → T (unsigned (odd d false q k l))
unfolding odd
odd_unsigned d zero k l = tt
odd_unsigned d (suc q) k l = tt

pick : (b : Bool) (u v : Float) → T (unsigned u) → T (unsigned v) → T (unsigned (cond b u v))
pick true u v p q = p
pick false u v p q = q

units_unsigned : (q k : ℕ) → T (unsigned (units binary32 false q k))
unfolding units
units_unsigned q k = pick (ltb (q * 2 ^ k) (2 ^ 277)) (odd 25 false q k 149) (inf false) (odd_unsigned 25 q k 149) tt

pub round_unsigned : (a c : ℕ) → T (unsigned (round binary32 false a c))
unfolding round
round_unsigned a c =
    let n = a * 2 ^ 149 in
    let k = size (n / c) - 24 in
    let u = c * 2 ^ k in
    units_unsigned (nearest (n / u) (compare (n % u * 2) u)) k

-- ---- squares, sums and roots

pub square_no_sign : (x : Float) → NoSign (x ⊗ x)
unfolding mul
square_no_sign nan = inl refl
square_no_sign (inf true) = inr tt
square_no_sign (inf false) = inr tt
square_no_sign (fin true m e) = inr (round_unsigned (m * up e * (m * up e)) (down e * down e))
square_no_sign (fin false m e) = inr (round_unsigned (m * up e * (m * up e)) (down e * down e))

plus : (x y : Float) → T (unsigned x) → T (unsigned y) → T (unsigned (x ⊕ y))
unfolding add sum
plus nan y p q = absurd p
plus (inf true) y p q = absurd p
plus (inf false) nan p q = absurd q
plus (inf false) (inf true) p q = absurd q
plus (inf false) (inf false) p q = tt
plus (inf false) (fin t n d) p q = tt
plus (fin true m e) y p q = absurd p
plus (fin false m e) nan p q = absurd q
plus (fin false m e) (inf true) p q = absurd q
plus (fin false m e) (inf false) p q = tt
plus (fin false m e) (fin true n d) p q = absurd q
plus (fin false m e) (fin false n d) p q = round_unsigned (m * up e * down d + n * up d * down e) (down e * down d)

nan_plus : (y : Float) → nan ⊕ y ≡ nan
unfolding add
nan_plus y = refl

plus_nan : (x : Float) → x ⊕ nan ≡ nan
unfolding add
plus_nan nan = refl
plus_nan (inf s) = refl
plus_nan (fin s m e) = refl

pub plus_no_sign : (x y : Float) → NoSign x → NoSign y → NoSign (x ⊕ y)
plus_no_sign x y (inl p) q = inl (ap (λ (v : Float). v ⊕ y) p ∙ nan_plus y)
plus_no_sign x y (inr p) (inl q) = inl (ap (λ (v : Float). x ⊕ v) q ∙ plus_nan x)
plus_no_sign x y (inr p) (inr q) = inr (plus x y p q)

root_nan : root_of nan ≡ nan
unfolding root_of
root_nan = refl

pub root_no_sign : (x : Float) → T (fits binary32 x) → NoSign x → NoSign (root_of x)
root_no_sign x f (inl p) = inl (ap root_of p ∙ root_nan)
root_no_sign x f (inr p) = inr (distance_unsigned (root_of x) (root_distance x (unsigned_distance x f p)))

-- ---- and what is no NaN is a distance

is_nan_lem : T (is_nan nan)
unfolding is_nan
is_nan_lem = tt

pub no_sign_distance : (x : Float) → T (fits binary32 x) → NoSign x → T (not (is_nan x)) → Distance x
no_sign_distance x f (inl p) n = absurd (T_not (is_nan x) n (subst (λ (v : Float). T (is_nan v)) (sym p) is_nan_lem))
no_sign_distance x f (inr p) n = unsigned_distance x f p
