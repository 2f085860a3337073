-- The rounded difference of two magnitudes, its sign dropped: over one denominator it is the rounded difference of two whole numbers, the same
-- either way round, and it grows with that difference, since rounding keeps the order. Assumes nothing.
use Prim.Native.Nat.{ℕ, zero, suc, ◌+◌, ◌-◌, ◌*◌, ◌^◌, ◌≤◌, ◌<◌}
use native.Mathlib.Nat.{le_trans, mul_comm, mul_right_comm, mul_assoc, add-mul, mul-sub, mul-le-mul_right, mul-pos}
use native.Mathlib.Omega.{arith}
use native.Mathlib.Decide.{dec_lt}
use mathlib.Core.Path.{◌≡◌, refl, sym, ap, ap₂, ◌∙◌, subst}
use mathlib.Core.Bool.{Bool, true, false, cond, true≢false}
use lib.Dec.{T, ltb, le→leb, leb→le}
use lib.IntN.{ℤ}
use lib.Ieee.{Float, nan, inf, fin, binary32, up, down, odd, units, round, sum, sub, to_bits}
use lib.Ieee.Fits.{round_is, round-fits, down_pos}
use lib.Ieee.Exact.{HasValue}
use lib.Ieee.Order.{round_mono}
use lib.Ieee.Scale.{round_same}
use borrow.Author.Tests.{lt-ltb, le-ltb}
use Rattle.float.specs.Arith.{◌⊖◌, ◌≦◌}
use Rattle.float.specs.Distance.{Distance}
use Rattle.float.proofs.Order.{unsigned_distance, distance_le}
use Rattle.float.proofs.NoSign.{round_unsigned}
use Rattle.float.specs.Steps.{abs_of}
use Rattle.float_order.specs.Compare.{apart}

-- ---- a rounded fraction has the sign that it is given

odd_magnitude : (d : ℕ) (s : Bool) (q k l : ℕ) → abs_of (odd d s q k l) ≡ odd d false q k l
unfolding odd abs_of
odd_magnitude d s zero k l = refl
odd_magnitude d s (suc q) k l = refl

units_magnitude : (s : Bool) (q k : ℕ) → abs_of (units binary32 s q k) ≡ units binary32 false q k
unfolding units abs_of
units_magnitude s q k = go (ltb (q * 2 ^ k) (2 ^ (149 + 128)))
  where
    go : (b : Bool) → abs_of (cond b (odd 25 s q k 149) (inf s)) ≡ cond b (odd 25 false q k 149) (inf false)
    go true = odd_magnitude 25 s q k 149
    go false = refl

pub round_magnitude : (s : Bool) (a c : ℕ) → abs_of (round binary32 s a c) ≡ round binary32 false a c
round_magnitude s a c = ap abs_of (round_is binary32 s a c) ∙ units_magnitude s _ _ ∙ sym (round_is binary32 false a c)

pub round_distance : (a c : ℕ) → Distance (round binary32 false a c)
round_distance a c = unsigned_distance (round binary32 false a c) (round-fits binary32 false a c) (round_unsigned a c)

-- ---- the difference of two whole numbers

pub apart_sym : (a b : ℕ) → apart a b ≡ apart b a
apart_sym a b = omega arith

apart_mul : (a b k : ℕ) → apart a b * k ≡ apart (a * k) (b * k)
apart_mul a b k = add-mul (a - b) (b - a) k ∙ ap₂ ◌+◌ (sub_mul a b) (sub_mul b a)
  where
    sub_mul : (m n : ℕ) → (m - n) * k ≡ m * k - n * k
    sub_mul m n = mul_comm (m - n) k ∙ mul-sub k m n ∙ ap₂ ◌-◌ (mul_comm k m) (mul_comm k n)

-- ---- the difference of two magnitudes over one denominator

-- the sign of a sum of opposite signs is that of the larger, and goes
sum_magnitude : (a b c : ℕ) → abs_of (sum binary32 false a true b c) ≡ round binary32 false (apart a b) c
unfolding sum
sum_magnitude a b c = go (dec_lt a b)
  where
    go : Dec (a < b) → abs_of (cond (ltb a b) (round binary32 true (b - a) c) (round binary32 false (a - b) c)) ≡ round binary32 false (apart a b) c
    go (yes h) = rw (lt-ltb a b h) (round_magnitude true (b - a) c ∙ ap (λ (n : ℕ). round binary32 false n c) (omega arith))
    go (no h) = rw (le-ltb a b (omega arith)) (round_magnitude false (a - b) c ∙ ap (λ (n : ℕ). round binary32 false n c) (omega arith))

pub opened : (m : ℕ) (e : ℤ) (n : ℕ) (d : ℤ) → sub binary32 (fin false m e) (fin false n d) ≡ sum binary32 false (m * up e * down d) true (n * up d * down e) (down e * down d)
unfolding sub
opened m e n d = refl

-- x / de is a / c: over de * dd it has x * dd
scaled : (x de dd a c : ℕ) → x * c ≡ a * de → x * dd * c ≡ a * (de * dd)
scaled x de dd a c p = mul_right_comm x dd c ∙ ap (λ (z : ℕ). z * dd) p ∙ mul_assoc a de dd

pub difference : (x y : Float) (a b c : ℕ) → 0 < c → HasValue x false a c → HasValue y false b c → abs_of (x ⊖ y) ≡ round binary32 false (apart a b) c
difference nan y a b c C p q = absurd p
difference (inf s) y a b c C p q = absurd p
difference (fin true m e) y a b c C p q = absurd (true≢false p.0)
difference (fin false m e) nan a b c C p q = absurd q
difference (fin false m e) (inf t) a b c C p q = absurd q
difference (fin false m e) (fin true n d) a b c C p q = absurd (true≢false q.0)
difference (fin false m e) (fin false n d) a b c C p q =
    ap abs_of (opened m e n d)
    ∙ sum_magnitude (m * up e * down d) (n * up d * down e) (down e * down d)
    ∙ round_same binary32 false (apart (m * up e * down d) (n * up d * down e)) (down e * down d) (apart a b) c (mul-pos (down_pos e) (down_pos d)) C
    (apart_mul (m * up e * down d) (n * up d * down e) c
    ∙ ap₂ apart (scaled (m * up e) (down e) (down d) a c p.1) (scaled (n * up d) (down d) (down e) b c q.1 ∙ ap (λ (z : ℕ). b * z) (mul_comm (down d) (down e)))
    ∙ sym (apart_mul a b (down e * down d)))

-- ---- a smaller difference is at most what a larger one is at most

pub le_distances : (x y z : Float) → Distance x → Distance y → Distance z → T (x ≦ y) → T (y ≦ z) → T (x ≦ z)
le_distances x y z p q r h k =
    subst T (sym (distance_le x z p r))
    (le→leb (bits x) (bits z)
    (le_trans (leb→le (bits x) (bits y) (subst T (distance_le x y p q) h)) (leb→le (bits y) (bits z) (subst T (distance_le y z q r) k))))
  where
    bits : Float → ℕ
    bits = to_bits binary32

pub round_less : (a b c : ℕ) (z : Float) → 0 < c → Distance z → a ≤ b → T (round binary32 false b c ≦ z) → T (round binary32 false a c ≦ z)
round_less a b c z C d h k =
    le_distances (round binary32 false a c) (round binary32 false b c) z (round_distance a c) (round_distance b c) d
    (round_mono binary32 a c b c C C (mul-le-mul_right c h))
    k
