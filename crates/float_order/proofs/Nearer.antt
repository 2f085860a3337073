-- When one distance is nearer than another. Values without a sign bit are compared as numbers; a NaN is nearer than nothing; and a magnitude that
-- is not smaller is nearer only where a positive value meets a negative one. The comparison is total, so that nearer is the other way round not
-- after. Assumes nothing.
use Rattle.std.specs.Prelude.{if◌then◌else◌}
use Prim.Native.Nat.{ℕ, ◌+◌, ◌*◌, ◌^◌, ◌<◌}
use native.Mathlib.Nat.{mul-pos}
use native.Mathlib.Omega.{arith}
use mathlib.Core.Path.{◌≡◌, refl, sym, ap, ◌∙◌}
use mathlib.Core.Bool.{Bool, true, false, not, ◌&&◌, true≢false}
use lib.Dec.{T, ltb, lit≤}
use lib.Pow.{pow_pos}
use lib.Ieee.{Float, nan, inf, fin, up, down, binary32, fits, is_nan, unlike, of_bits, to_bits, add, eq, le, lt, sub}
use lib.Ieee.Fits.{down_pos}
use borrow.Author.Tests.{lt-leb, lt-ltb}
use Rattle.float.specs.Arith.{◌≺◌, f_max}
use Rattle.float.specs.Distance.{Distance}
use Rattle.float.specs.Steps.{abs_of, sign_bit}
use Rattle.float.proofs.Magnitude.{abs_distance}
use Rattle.std.specs.Ordering.{is_lt}
use Rattle.std.specs.declared.cmp.Ordering.{Ordering}
use Rattle.std.specs.declared.cmp.Ordering.TheVariants.{Less, Equal, Greater}
use Rattle.float_order.specs.Compare.{apart, alike, order}
use Rattle.float_order.specs.Total.{Value, not_greater, not_after, opposite}
use Rattle.float_order.specs.Nearer.{is_less, nearer}
use Rattle.float_order.proofs.Signs.{no_sign}
use Rattle.float_order.proofs.Laws.{order_swapped}

-- ---- with neither sign bit set

pub nearer_exactly : (a b : Float) → sign_bit a ≡ false → sign_bit b ≡ false → nearer a b ≡ (a ≺ b)
unfolding nearer
nearer_exactly a b p q = ap is_less (no_sign a b p q) ∙ go (a ≺ b) (b ≺ a)
  where
    go : (s t : Bool) → is_less (if s then Less else (if t then Greater else Equal)) ≡ s
    go true t = refl
    go false true = refl
    go false false = refl

-- ---- a magnitude that is not smaller

-- by the tests of `order`: k whether the magnitudes are alike, s and t the sign bits, g whether the second magnitude is smaller
no_less : (k s t g : Bool) → (s ≡ false → t ≡ true → ⊥)
    → is_less (if k && unlike s t then (if s then Greater else Less) else (if g then Greater else Equal)) ≡ false
no_less true true true true h = refl
no_less true true true false h = refl
no_less true true false g h = refl
no_less true false true g h = absurd (h refl refl)
no_less true false false true h = refl
no_less true false false false h = refl
no_less false s t true h = refl
no_less false s t false h = refl

pub not_nearer : (a b : Float) → (abs_of a ≺ abs_of b) ≡ false → (sign_bit a ≡ false → sign_bit b ≡ true → ⊥) → nearer a b ≡ false
unfolding nearer order
not_nearer a b l h = rw l (no_less (alike (abs_of a) (abs_of b)) (sign_bit a) (sign_bit b) (abs_of b ≺ abs_of a) h)

-- ---- a NaN

-- a NaN is alike to no magnitude: its difference to one is a NaN, and its pattern lies far beyond infinity's
nan_alike : (x : Float) → Distance x → alike nan x ≡ false
unfolding alike abs_of eq le lt sub add to_bits
nan_alike x d = lt-leb (apart 0x7fc0_0000 (to_bits binary32 x)) 2 (omega (arith, d.small))

pub nearer_nan : (a : Float) → nearer a nan ≡ false
unfolding abs_of lt
nearer_nan a = not_nearer a nan (no a) (λ p q. true≢false (sym q))
  where
    no : (x : Float) → (abs_of x ≺ nan) ≡ false
    no nan = refl
    no (inf s) = refl
    no (fin s m e) = refl

pub nan_nearer : (b : Float) → T (fits binary32 b) → nearer nan b ≡ false
unfolding nearer order abs_of lt is_nan
nan_nearer nan f = nearer_nan nan
nan_nearer (inf s) f = rw (nan_alike (inf false) (abs_distance (inf s) f tt))
nan_nearer (fin s m e) f = rw (nan_alike (fin false m e) (abs_distance (fin s m e) f tt))

-- what is nearer than something is a number
pub nearer_number : (a b : Float) → T (fits binary32 b) → nearer a b ≡ true → T (not (is_nan a))
unfolding is_nan
nearer_number nan b f h = absurd (true≢false (sym h ∙ nan_nearer b f))
nearer_number (inf s) b f h = tt
nearer_number (fin s m e) b f h = tt

-- ---- the other way round

pub nearer_after : (x y : Value) → nearer x.float y.float ≡ not (not_after y x)
unfolding nearer
nearer_after x y = go (order x.float y.float) ∙ ap (λ (o : Ordering). not (not_greater o)) (sym (order_swapped x y))
  where
    go : (o : Ordering) → is_less o ≡ not (not_greater (opposite o))
    go Less = refl
    go Equal = refl
    go Greater = refl

-- ---- f32::MAX

some : (a d : ℕ) → 0 < d → ltb 0 (a + 0xff_ffff * 2 ^ 104 * d) ≡ true
some a d l = lt-ltb 0 (a + 0xff_ffff * 2 ^ 104 * d) (more a (0xff_ffff * 2 ^ 104 * d) (mul-pos (mul-pos (lit≤ {m = 1} {n = 0xff_ffff} tt) (pow_pos 104)) l))
  where
    more : (a b : ℕ) → 0 < b → 0 < a + b
    more a b h = omega arith

-- a value with its sign bit set lies below it
negative_below : (x : Float) → sign_bit x ≡ true → (x ≺ f_max) ≡ true
unfolding lt of_bits
negative_below nan e = absurd (true≢false (sym e))
negative_below (inf true) e = refl
negative_below (inf false) e = absurd (true≢false (sym e))
negative_below (fin true m e) q = some (m * up e * 1) (down e) (down_pos e)
negative_below (fin false m e) q = absurd (true≢false (sym q))

-- what is nearer than f32::MAX is below it
pub nearer_below : (d : Float) → nearer d f_max ≡ true → (d ≺ f_max) ≡ true
unfolding of_bits
nearer_below d h = go (sign_bit d) refl
  where
    go : (s : Bool) → sign_bit d ≡ s → (d ≺ f_max) ≡ true
    go true e = negative_below d e
    go false e = sym (nearer_exactly d f_max e refl) ∙ h

-- ---- the library's word for less

pub lt_is_less : (o : Ordering) → is_lt o ≡ is_less o
lt_is_less Less = refl
lt_is_less Equal = refl
lt_is_less Greater = refl
