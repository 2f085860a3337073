-- Values without a sign bit that are no NaN are ordered as their bit patterns. The idea: over one denominator a value is its whole number of
-- units, and the units grow with the pattern (`units_grow`); infinity has the largest pattern of them and lies above every number. Assumes nothing.
use Prim.Native.Nat.{ℕ, zero, suc, ◌+◌, ◌*◌, ◌/◌, ◌%◌, ◌^◌, ◌≤◌, ◌<◌}
use native.Mathlib.Nat.{not-le_of_lt, eq-or-lt_of_le, mul-le-mul_right, le_of_mul-le-mul_right}
use native.Mathlib.Omega.{arith}
use native.Mathlib.Decide.{dec_lt}
use mathlib.Core.Path.{◌≡◌, refl, sym, ap, ap₂, ◌∙◌, subst}
use mathlib.Core.Logic.{◌⊎◌, inl, inr}
use mathlib.Core.Bool.{Bool, true, false, not, cond, ◌||◌, true≢false}
use lib.Dec.{T, leb, ltb, eqb, ltb→lt, lt→ltb, not_T, T_not}
use lib.Pow.{pow_pos}
use lib.Ieee.{Float, nan, inf, fin, binary32, up, down, odd, of_fields, of_bits, to_bits, fits, is_nan, lt, le, eq, nan_bits}
use lib.Ieee.Bits.{of_bits-to_bits, to_bits-of_bits, of_bits-fits, nan_bits_is, nan_bits_above}
use lib.Ieee.Exact.{HasValue}
use lib.Ieee.Fits.{down_pos}
use lib.Ieee.Order.{transfer}
use borrow.Author.Tests.{lt-ltb, le-ltb, lt-leb, le-leb, eq-eqb, ne_eqb}
use Rattle.float.specs.Distance.{Distance, unsigned}
use Rattle.float.proofs.Bools.{and_true}
use Rattle.float.proofs.Units.{units_at, units_ltb, value, infinity, of_bits_is, field_zero, field_suc}

-- ---- three ways to compare two numbers, from one

-- `ltb` on two pairs of numbers that it orders alike settles `eqb` too
same_eqb : (a b c d : ℕ) → ltb a b ≡ ltb c d → ltb b a ≡ ltb d c → eqb a b ≡ eqb c d
same_eqb a b c d p q = go (dec_lt a b) (dec_lt b a) (dec_lt c d) (dec_lt d c)
  where
    clash : (x y : Bool) → x ≡ y → x ≡ true → y ≡ false → ⊥
    clash x y e t f = true≢false (sym t ∙ e ∙ f)

    go : Dec (a < b) → Dec (b < a) → Dec (c < d) → Dec (d < c) → eqb a b ≡ eqb c d
    go (yes h) v (yes k) w = ne_eqb a b (λ e. omega arith) ∙ sym (ne_eqb c d (λ e. omega arith))
    go (yes h) v (no k) w = absurd (clash (ltb a b) (ltb c d) p (lt-ltb a b h) (le-ltb c d (omega arith)))
    go (no h) v (yes k) w = absurd (clash (ltb c d) (ltb a b) (sym p) (lt-ltb c d k) (le-ltb a b (omega arith)))
    go (no h) (yes v) (no k) (yes w) = ne_eqb a b (λ e. omega arith) ∙ sym (ne_eqb c d (λ e. omega arith))
    go (no h) (yes v) (no k) (no w) = absurd (clash (ltb b a) (ltb d c) q (lt-ltb b a v) (le-ltb d c (omega arith)))
    go (no h) (no v) (no k) (yes w) = absurd (clash (ltb d c) (ltb b a) (sym q) (lt-ltb d c w) (le-ltb b a (omega arith)))
    go (no h) (no v) (no k) (no w) = eq-eqb a b (omega arith) ∙ sym (eq-eqb c d (omega arith))

pub ltb_or_eqb : (a b : ℕ) → (ltb a b || eqb a b) ≡ leb a b
ltb_or_eqb a b = go (dec_lt a b) (dec_lt b a)
  where
    go : Dec (a < b) → Dec (b < a) → (ltb a b || eqb a b) ≡ leb a b
    go (yes h) v = ap (λ (t : Bool). t || eqb a b) (lt-ltb a b h) ∙ sym (le-leb a b (omega arith))
    go (no h) (yes v) = ap₂ ◌||◌ (le-ltb a b (omega arith)) (ne_eqb a b (λ e. omega arith)) ∙ sym (lt-leb a b v)
    go (no h) (no v) = ap₂ ◌||◌ (le-ltb a b (omega arith)) (eq-eqb a b (omega arith)) ∙ sym (le-leb a b (omega arith))

-- ---- two values over one denominator

-- x / de and y / dd are a / c and b / c: crosswise they compare as a and b
cross : (x y de dd a b c : ℕ) → 0 < c → 0 < de → 0 < dd → x * c ≡ a * de → y * c ≡ b * dd → ltb (x * dd) (y * de) ≡ ltb a b
cross x y de dd a b c C E D p q = go (dec_lt a b)
  where
    go : Dec (a < b) → ltb (x * dd) (y * de) ≡ ltb a b
    go (yes h) = lt-ltb (x * dd) (y * de) (less (dec_lt (x * dd) (y * de))) ∙ sym (lt-ltb a b h)
      where
        less : Dec (x * dd < y * de) → x * dd < y * de
        less (yes k) = k
        less (no k) = absurd (not-le_of_lt h (le_of_mul-le-mul_right (transfer b a c c y x dd de D E (sym q) (sym p) (omega arith)) C))
    go (no h) = le-ltb (x * dd) (y * de) (transfer y x dd de b a c c C C q p (mul-le-mul_right c (omega arith))) ∙ sym (le-ltb a b (omega arith))

pub lt_values : (x y : Float) (a b c : ℕ) → 0 < c → HasValue x false a c → HasValue y false b c → lt x y ≡ ltb a b
unfolding lt
lt_values nan y a b c C p q = absurd p
lt_values (inf s) y a b c C p q = absurd p
lt_values (fin true m e) y a b c C p q = absurd (true≢false p.0)
lt_values (fin false m e) nan a b c C p q = absurd q
lt_values (fin false m e) (inf t) a b c C p q = absurd q
lt_values (fin false m e) (fin true n d) a b c C p q = absurd (true≢false q.0)
lt_values (fin false m e) (fin false n d) a b c C p q =
    cross (m * up e) (n * up d) (down e) (down d) a b c C (down_pos e) (down_pos d) p.1 q.1

pub eq_values : (x y : Float) (a b c : ℕ) → 0 < c → HasValue x false a c → HasValue y false b c → eq x y ≡ eqb a b
unfolding eq
eq_values nan y a b c C p q = absurd p
eq_values (inf s) y a b c C p q = absurd p
eq_values (fin true m e) y a b c C p q = absurd (true≢false p.0)
eq_values (fin false m e) nan a b c C p q = absurd q
eq_values (fin false m e) (inf t) a b c C p q = absurd q
eq_values (fin false m e) (fin true n d) a b c C p q = absurd (true≢false q.0)
eq_values (fin false m e) (fin false n d) a b c C p q =
    and_true (eqb (m * up e * down d) (n * up d * down e))
    ∙ same_eqb (m * up e * down d) (n * up d * down e) a b
    (cross (m * up e) (n * up d) (down e) (down d) a b c C (down_pos e) (down_pos d) p.1 q.1)
    (cross (n * up d) (m * up e) (down d) (down e) b a c C (down_pos d) (down_pos e) q.1 p.1)

-- ---- a number and infinity

below_infinity : (x : Float) (a c : ℕ) → HasValue x false a c → (lt x (inf false) ≡ true) × (lt (inf false) x ≡ false) × (eq x (inf false) ≡ false) × (eq (inf false) x ≡ false)
unfolding lt eq
below_infinity nan a c p = absurd p
below_infinity (inf s) a c p = absurd p
below_infinity (fin s m e) a c p = (refl, refl, refl, refl)

infinity_itself : (lt (inf false) (inf false) ≡ false) × (eq (inf false) (inf false) ≡ true)
unfolding lt eq
infinity_itself = (refl, refl)

-- ---- the patterns from 0 to infinity's

pub bits_lt : (b c : ℕ) → b ≤ 0x7f80_0000 → c ≤ 0x7f80_0000 → lt (of_bits binary32 b) (of_bits binary32 c) ≡ ltb b c
bits_lt b c hb hc = go (eq-or-lt_of_le hb) (eq-or-lt_of_le hc)
  where
    go : (b ≡ 0x7f80_0000) ⊎ (b < 0x7f80_0000) → (c ≡ 0x7f80_0000) ⊎ (c < 0x7f80_0000) → lt (of_bits binary32 b) (of_bits binary32 c) ≡ ltb b c
    go (inr p) (inr q) =
        lt_values (of_bits binary32 b) (of_bits binary32 c) (units_at b) (units_at c) (2 ^ 149) (pow_pos 149) (value b p) (value c q) ∙ units_ltb b c
    go (inr p) (inl q) =
        ap (λ (k : ℕ). lt (of_bits binary32 b) (of_bits binary32 k)) q
        ∙ ap (lt (of_bits binary32 b)) infinity
        ∙ (below_infinity (of_bits binary32 b) (units_at b) (2 ^ 149) (value b p)).0
        ∙ sym (lt-ltb b c (omega arith))
    go (inl p) (inr q) =
        ap (λ (k : ℕ). lt (of_bits binary32 k) (of_bits binary32 c)) p
        ∙ ap (λ (w : Float). lt w (of_bits binary32 c)) infinity
        ∙ (below_infinity (of_bits binary32 c) (units_at c) (2 ^ 149) (value c q)).1
        ∙ sym (le-ltb b c (omega arith))
    go (inl p) (inl q) =
        ap₂ (λ (j : ℕ) (k : ℕ). lt (of_bits binary32 j) (of_bits binary32 k)) p q ∙ ap₂ lt infinity infinity ∙ infinity_itself.0 ∙ sym (le-ltb b c (omega arith))

pub bits_eq : (b c : ℕ) → b ≤ 0x7f80_0000 → c ≤ 0x7f80_0000 → eq (of_bits binary32 b) (of_bits binary32 c) ≡ eqb b c
bits_eq b c hb hc = go (eq-or-lt_of_le hb) (eq-or-lt_of_le hc)
  where
    go : (b ≡ 0x7f80_0000) ⊎ (b < 0x7f80_0000) → (c ≡ 0x7f80_0000) ⊎ (c < 0x7f80_0000) → eq (of_bits binary32 b) (of_bits binary32 c) ≡ eqb b c
    go (inr p) (inr q) =
        eq_values (of_bits binary32 b) (of_bits binary32 c) (units_at b) (units_at c) (2 ^ 149) (pow_pos 149) (value b p) (value c q)
        ∙ same_eqb (units_at b) (units_at c) b c (units_ltb b c) (units_ltb c b)
    go (inr p) (inl q) =
        ap (λ (k : ℕ). eq (of_bits binary32 b) (of_bits binary32 k)) q
        ∙ ap (eq (of_bits binary32 b)) infinity
        ∙ (below_infinity (of_bits binary32 b) (units_at b) (2 ^ 149) (value b p)).2
        ∙ sym (ne_eqb b c (λ e. omega arith))
    go (inl p) (inr q) =
        ap (λ (k : ℕ). eq (of_bits binary32 k) (of_bits binary32 c)) p
        ∙ ap (λ (w : Float). eq w (of_bits binary32 c)) infinity
        ∙ (below_infinity (of_bits binary32 c) (units_at c) (2 ^ 149) (value c q)).3
        ∙ sym (ne_eqb b c (λ e. omega arith))
    go (inl p) (inl q) =
        ap₂ (λ (j : ℕ) (k : ℕ). eq (of_bits binary32 j) (of_bits binary32 k)) p q ∙ ap₂ eq infinity infinity ∙ infinity_itself.1 ∙ sym (eq-eqb b c (omega arith))

pub bits_le : (b c : ℕ) → b ≤ 0x7f80_0000 → c ≤ 0x7f80_0000 → le (of_bits binary32 b) (of_bits binary32 c) ≡ leb b c
unfolding le
bits_le b c hb hc = ap₂ ◌||◌ (bits_lt b c hb hc) (bits_eq b c hb hc) ∙ ltb_or_eqb b c

-- ---- distances are ordered as their patterns

pub distance_lt : (x y : Float) → Distance x → Distance y → lt x y ≡ ltb (to_bits binary32 x) (to_bits binary32 y)
distance_lt x y p q =
    ap₂ lt (sym (of_bits-to_bits binary32 x p.held)) (sym (of_bits-to_bits binary32 y q.held)) ∙ bits_lt (to_bits binary32 x) (to_bits binary32 y) p.small q.small

pub distance_le : (x y : Float) → Distance x → Distance y → le x y ≡ leb (to_bits binary32 x) (to_bits binary32 y)
distance_le x y p q =
    ap₂ le (sym (of_bits-to_bits binary32 x p.held)) (sym (of_bits-to_bits binary32 y q.held)) ∙ bits_le (to_bits binary32 x) (to_bits binary32 y) p.small q.small

pub distance_eq : (x y : Float) → Distance x → Distance y → eq x y ≡ eqb (to_bits binary32 x) (to_bits binary32 y)
distance_eq x y p q =
    ap₂ eq (sym (of_bits-to_bits binary32 x p.held)) (sym (of_bits-to_bits binary32 y q.held)) ∙ bits_eq (to_bits binary32 x) (to_bits binary32 y) p.small q.small

-- equal patterns are equal values
pub same_bits : (x y : Float) → T (fits binary32 x) → T (fits binary32 y) → to_bits binary32 x ≡ to_bits binary32 y → x ≡ y
same_bits x y p q e = sym (of_bits-to_bits binary32 x p) ∙ ap (of_bits binary32) e ∙ of_bits-to_bits binary32 y q

-- ---- a pattern up to infinity's is a distance, and no NaN's

pub bits_no_nan : (b : ℕ) → b ≤ 0x7f80_0000 → T (not (nan_bits binary32 b))
bits_no_nan b h =
    subst (λ (t : Bool). T (not t)) (sym (nan_bits_above binary32 b))
    (not_T (ltb 0x7f80_0000 (b % 0x8000_0000)) (λ (t : T (ltb 0x7f80_0000 (b % 0x8000_0000))). less (ltb→lt 0x7f80_0000 (b % 0x8000_0000) t)))
  where
    less : 0x7f80_0000 < b % 0x8000_0000 → ⊥
    less k = omega arith

pub bits_back : (b : ℕ) → b ≤ 0x7f80_0000 → to_bits binary32 (of_bits binary32 b) ≡ b
bits_back b h = to_bits-of_bits binary32 b (omega arith) (subst (λ (t : Bool). T (not t)) (nan_bits_is binary32 b) (bits_no_nan b h))

pub bits_distance : (b : ℕ) → b ≤ 0x7f80_0000 → Distance (of_bits binary32 b)
bits_distance b h = record {
  held = of_bits-fits binary32 b;
  small = subst (λ (n : ℕ). n ≤ 0x7f80_0000) (sym (bits_back b h)) h;
}

-- a distance is no NaN
pub distance_no_nan : (x : Float) → Distance x → T (not (is_nan x))
distance_no_nan x d =
    subst (λ (t : Bool). T (not t)) (nan_bits_is binary32 (to_bits binary32 x) ∙ ap is_nan (of_bits-to_bits binary32 x d.held)) (bits_no_nan (to_bits binary32 x) d.small)

-- ---- what has no sign bit and is no NaN is a distance

-- a pattern with the sign bit set stands for a value with a sign, or for the NaN
signed_odd : (q k : ℕ) → T (unsigned (odd 24 true q k 149)) → ⊥
unfolding odd
signed_odd zero k h = h
signed_odd (suc q) k h = h

signed_cond : (b : Bool) (u v : Float) → (T (unsigned u) → ⊥) → (T (unsigned v) → ⊥) → T (unsigned (cond b u v)) → ⊥
signed_cond true u v p q h = p h
signed_cond false u v p q h = q h

signed_fields : (x t : ℕ) → T (unsigned (of_fields binary32 true x t)) → ⊥
signed_fields zero t h = signed_odd t 0 (subst (λ (v : Float). T (unsigned v)) (field_zero true t) h)
signed_fields (suc x) t h =
    signed_cond (eqb (suc x) 255) (cond (eqb t 0) (inf true) nan) (odd 24 true (0x80_0000 + t) x 149)
    (signed_cond (eqb t 0) (inf true) nan (λ u. u) (λ u. u))
    (signed_odd (0x80_0000 + t) x)
    (subst (λ (v : Float). T (unsigned v)) (field_suc true x t) h)

signed_bits : (b : ℕ) → 0x8000_0000 ≤ b → T (unsigned (of_bits binary32 b)) → ⊥
signed_bits b h u =
    signed_fields (b % 0x8000_0000 / 0x80_0000) (b % 0x80_0000)
    (subst (λ (v : Float). T (unsigned v)) (of_bits_is b ∙ ap (λ (s : Bool). of_fields binary32 s (b % 0x8000_0000 / 0x80_0000) (b % 0x80_0000)) (le-leb 0x8000_0000 b h)) u)

pub unsigned_no_nan : (x : Float) → T (unsigned x) → T (not (is_nan x))
unfolding is_nan
unsigned_no_nan nan u = u
unsigned_no_nan (inf s) u = tt
unsigned_no_nan (fin s m e) u = tt

pub unsigned_distance : (x : Float) → T (fits binary32 x) → T (unsigned x) → Distance x
unsigned_distance x f u = record { held = f; small = small (dec_lt 0x7f80_0000 b) (dec_lt b 0x8000_0000) }
  where
    b : ℕ
    b = to_bits binary32 x

    back : of_bits binary32 b ≡ x
    back = of_bits-to_bits binary32 x f

    nan_bits_lem : 0x7f80_0000 < b → b < 0x8000_0000 → 0x7f80_0000 < b % 0x8000_0000
    nan_bits_lem h k = omega arith

    small : Dec (0x7f80_0000 < b) → Dec (b < 0x8000_0000) → b ≤ 0x7f80_0000
    small (no h) k = omega arith
    small (yes h) (yes k) =
        absurd
        (T_not (is_nan x) (unsigned_no_nan x u)
        (subst T (sym (nan_bits_above binary32 b) ∙ nan_bits_is binary32 b ∙ ap is_nan back) (lt→ltb 0x7f80_0000 (b % 0x8000_0000) (nan_bits_lem h k))))
    small (yes h) (no k) = absurd (signed_bits b (omega arith) (subst (λ (v : Float). T (unsigned v)) (sym back) u))

-- and the other way
pub distance_unsigned : (x : Float) → Distance x → T (unsigned x)
distance_unsigned x d = subst (λ (v : Float). T (unsigned v)) (of_bits-to_bits binary32 x d.held) (at (to_bits binary32 x) (eq-or-lt_of_le d.small))
  where
    of_value : (v : Float) (a : ℕ) → HasValue v false a (2 ^ 149) → T (unsigned v)
    of_value nan a p = absurd p
    of_value (inf s) a p = absurd p
    of_value (fin true m e) a p = absurd (true≢false p.0)
    of_value (fin false m e) a p = tt

    at : (b : ℕ) → (b ≡ 0x7f80_0000) ⊎ (b < 0x7f80_0000) → T (unsigned (of_bits binary32 b))
    at b (inl e) = subst (λ (v : Float). T (unsigned v)) (sym (ap (of_bits binary32) e ∙ infinity)) tt
    at b (inr l) = of_value (of_bits binary32 b) (units_at b) (value b l)
