-- `alike` over the patterns of two magnitudes. It is the same either way round, and convex: of three magnitudes in order, where the outer two are
-- alike so is each of them and the middle one. For the patterns that is plain; for the rounded difference it is that rounding keeps the order, as long
-- as all three are finite, and infinity's difference to a number is infinity, to itself a NaN. Assumes nothing.
use Prim.Native.Nat.{ℕ, ◌^◌, ◌≤◌, ◌<◌}
use native.Mathlib.Nat.{le_of_eq, le_of_lt, eq-or-lt_of_le}
use native.Mathlib.Omega.{arith}
use mathlib.Core.Path.{◌≡◌, refl, sym, ap, ap₂, ◌∙◌, subst}
use mathlib.Core.Logic.{◌⊎◌, inl, inr}
use mathlib.Core.Bool.{Bool, true, false, ◌||◌, or-true, or-false}
use lib.Dec.{T, leb, eqb, le→leb, leb→le, eqb→eq}
use lib.Pow.{pow_pos}
use lib.Ieee.{Float, nan, inf, fin, binary32, round, of_bits, sub, le}
use lib.Ieee.Exact.{HasValue}
use borrow.Author.Tests.{le-leb, lt-leb}
use Rattle.float.specs.Arith.{◌⊖◌, ◌≦◌}
use Rattle.float.specs.Distance.{Distance}
use Rattle.float.proofs.Units.{units_at, units_grow, value, infinity}
use Rattle.float.proofs.Order.{bits_eq, bits_back, bits_distance}
use Rattle.float.specs.Steps.{abs_of}
use Rattle.float_order.specs.Compare.{alike_margin, apart, alike}
use Rattle.float_order.proofs.Difference.{apart_sym, difference, round_less}

-- the rounded difference of the magnitudes with the patterns i and j, its sign dropped, and whether it is at most 1e-6
abbrev difference_at : ℕ → ℕ → Float
difference_at i j = abs_of (of_bits binary32 i ⊖ of_bits binary32 j)

abbrev pub within : ℕ → ℕ → Bool
within i j = difference_at i j ≦ alike_margin

pub margin_distance : Distance alike_margin
margin_distance = bits_distance 0x3586_37bd (leb→le 0x3586_37bd 0x7f80_0000 tt)

-- ---- finite patterns

finite : (i j : ℕ) → i < 0x7f80_0000 → j < 0x7f80_0000 → difference_at i j ≡ round binary32 false (apart (units_at i) (units_at j)) (2 ^ 149)
finite i j p q = difference (of_bits binary32 i) (of_bits binary32 j) (units_at i) (units_at j) (2 ^ 149) (pow_pos 149) (value i p) (value j q)

units_mono : (i j : ℕ) → i ≤ j → units_at i ≤ units_at j
units_mono i j h = go (eq-or-lt_of_le h)
  where
    go : (i ≡ j) ⊎ (i < j) → units_at i ≤ units_at j
    go (inl e) = le_of_eq (ap (λ (k : ℕ). units_at k) e)
    go (inr l) = le_of_lt (units_grow i j l)

-- ---- infinity

number_infinity : (x : Float) (a c : ℕ) → HasValue x false a c → (abs_of (x ⊖ inf false) ≡ inf false) × (abs_of (inf false ⊖ x) ≡ inf false)
unfolding sub abs_of
number_infinity nan a c p = absurd p
number_infinity (inf s) a c p = absurd p
number_infinity (fin s m e) a c p = (refl, refl)

infinities : abs_of (inf false ⊖ inf false) ≡ nan
unfolding sub abs_of
infinities = refl

infinity_apart : (inf false ≦ alike_margin) ≡ false
unfolding le of_bits
infinity_apart = refl

nan_apart : (nan ≦ alike_margin) ≡ false
unfolding le
nan_apart = refl

-- infinity is within the margin of nothing
beside_infinity : (i : ℕ) → i ≤ 0x7f80_0000 → (within i 0x7f80_0000 ≡ false) × (within 0x7f80_0000 i ≡ false)
beside_infinity i h = go (eq-or-lt_of_le h)
  where
    at : (x y : Float) → abs_of (x ⊖ inf false) ≡ y → (y ≦ alike_margin) ≡ false → (abs_of (x ⊖ of_bits binary32 0x7f80_0000) ≦ alike_margin) ≡ false
    at x y e f = ap (λ (v : Float). abs_of (x ⊖ v) ≦ alike_margin) infinity ∙ ap (λ (v : Float). v ≦ alike_margin) e ∙ f

    from : (x y : Float) → abs_of (inf false ⊖ x) ≡ y → (y ≦ alike_margin) ≡ false → (abs_of (of_bits binary32 0x7f80_0000 ⊖ x) ≦ alike_margin) ≡ false
    from x y e f = ap (λ (v : Float). abs_of (v ⊖ x) ≦ alike_margin) infinity ∙ ap (λ (v : Float). v ≦ alike_margin) e ∙ f

    own : within 0x7f80_0000 0x7f80_0000 ≡ false
    own = at (of_bits binary32 0x7f80_0000) nan (ap (λ (v : Float). abs_of (v ⊖ inf false)) infinity ∙ infinities) nan_apart

    go : (i ≡ 0x7f80_0000) ⊎ (i < 0x7f80_0000) → (within i 0x7f80_0000 ≡ false) × (within 0x7f80_0000 i ≡ false)
    go (inl e) = (ap (λ (k : ℕ). within k 0x7f80_0000) e ∙ own, ap (λ (k : ℕ). within 0x7f80_0000 k) e ∙ own)
    go (inr l) =
        let n = number_infinity (of_bits binary32 i) (units_at i) (2 ^ 149) (value i l) in
        (at (of_bits binary32 i) (inf false) n.0 infinity_apart, from (of_bits binary32 i) (inf false) n.1 infinity_apart)

-- ---- the rounded difference: the same either way round, and convex

within_sym : (i j : ℕ) → i ≤ 0x7f80_0000 → j ≤ 0x7f80_0000 → within i j ≡ within j i
within_sym i j hi hj = go (eq-or-lt_of_le hi) (eq-or-lt_of_le hj)
  where
    go : (i ≡ 0x7f80_0000) ⊎ (i < 0x7f80_0000) → (j ≡ 0x7f80_0000) ⊎ (j < 0x7f80_0000) → within i j ≡ within j i
    go (inl e) q =
        ap (λ (k : ℕ). within k j) e ∙ (beside_infinity j hj).1 ∙ sym (beside_infinity j hj).0 ∙ ap (λ (k : ℕ). within j k) (sym e)
    go (inr p) (inl e) =
        ap (λ (k : ℕ). within i k) e ∙ (beside_infinity i hi).0 ∙ sym (beside_infinity i hi).1 ∙ ap (λ (k : ℕ). within k i) (sym e)
    go (inr p) (inr q) =
        ap (λ (v : Float). v ≦ alike_margin)
        (finite i j p q ∙ ap (λ (n : ℕ). round binary32 false n (2 ^ 149)) (apart_sym (units_at i) (units_at j)) ∙ sym (finite j i q p))

-- two patterns no further apart in units than two others
within_less : (i j k l : ℕ) → i < 0x7f80_0000 → j < 0x7f80_0000 → k < 0x7f80_0000 → l < 0x7f80_0000
    → apart (units_at i) (units_at j) ≤ apart (units_at k) (units_at l) → T (within k l) → T (within i j)
within_less i j k l p q r s h w =
    subst (λ (v : Float). T (v ≦ alike_margin)) (sym (finite i j p q))
    (round_less (apart (units_at i) (units_at j)) (apart (units_at k) (units_at l)) (2 ^ 149) alike_margin (pow_pos 149) margin_distance h
    (subst (λ (v : Float). T (v ≦ alike_margin)) (finite k l r s) w))

within_inner : (i j k : ℕ) → i ≤ j → j ≤ k → k ≤ 0x7f80_0000 → T (within i k) → T (within i j) × T (within j k)
within_inner i j k p q h w = go (eq-or-lt_of_le h)
  where
    left : (a b c : ℕ) → a ≤ b → b ≤ c → apart a b ≤ apart a c
    left a b c u v = omega arith

    right : (a b c : ℕ) → a ≤ b → b ≤ c → apart b c ≤ apart a c
    right a b c u v = omega arith

    go : (k ≡ 0x7f80_0000) ⊎ (k < 0x7f80_0000) → T (within i j) × T (within j k)
    go (inl e) = absurd (subst T (ap (λ (n : ℕ). within i n) e ∙ (beside_infinity i (omega arith)).0) w)
    go (inr l) =
        let a = units_mono i j p in
        let b = units_mono j k q in (
          within_less i j i k (omega arith) (omega arith) (omega arith) l (left (units_at i) (units_at j) (units_at k) a b) w,
          within_less j k i k (omega arith) l (omega arith) l (right (units_at i) (units_at j) (units_at k) a b) w,
        )

-- ---- alike

-- equal magnitudes have equal patterns, so `alike` has two ways to hold
alike_is : (i j : ℕ) → i ≤ 0x7f80_0000 → j ≤ 0x7f80_0000 → alike (of_bits binary32 i) (of_bits binary32 j) ≡ (within i j || leb (apart i j) 2)
unfolding alike
alike_is i j p q =
    ap₂ (λ (e : Bool) (n : Bool). e || within i j || n) (bits_eq i j p q) (ap₂ (λ (a : ℕ) (b : ℕ). leb (apart a b) 2) (bits_back i p) (bits_back j q))
    ∙ go (eqb i j) (within i j) (λ (t : T (eqb i j)). near (eqb→eq i j t))
  where
    near : i ≡ j → T (leb (apart i j) 2)
    near e = le→leb (apart i j) 2 (omega arith)

    go : (e w : Bool) → (T e → T (leb (apart i j) 2)) → (e || w || leb (apart i j) 2) ≡ (w || leb (apart i j) 2)
    go false w h = refl
    go true w h = all (leb (apart i j) 2) (h tt)
      where
        all : (n : Bool) → T n → true ≡ (w || n)
        all true t = sym (or-true w)
        all false t = absurd t

pub alike_sym : (i j : ℕ) → i ≤ 0x7f80_0000 → j ≤ 0x7f80_0000 → alike (of_bits binary32 i) (of_bits binary32 j) ≡ alike (of_bits binary32 j) (of_bits binary32 i)
alike_sym i j p q =
    alike_is i j p q ∙ ap₂ ◌||◌ (within_sym i j p q) (ap (λ (n : ℕ). leb n 2) (apart_sym i j)) ∙ sym (alike_is j i q p)

-- of three magnitudes in order, the outer two alike
pub alike_inner : (i j k : ℕ) → i ≤ j → j ≤ k → k ≤ 0x7f80_0000 → T (alike (of_bits binary32 i) (of_bits binary32 k))
    → T (alike (of_bits binary32 i) (of_bits binary32 j)) × T (alike (of_bits binary32 j) (of_bits binary32 k))
alike_inner i j k p q h a =
    let r = go (within i k) (λ w. within_inner i j k p q h w) (leb→le (apart i k) 2) (subst T (alike_is i k (omega arith) h) a) in
    (subst T (sym (alike_is i j (omega arith) (omega arith))) r.0, subst T (sym (alike_is j k (omega arith) h)) r.1)
  where
    either : (w n : Bool) → T w ⊎ T n → T (w || n)
    either true n t = tt
    either false n (inl t) = absurd t
    either false n (inr t) = t

    go : (w : Bool) → (T w → T (within i j) × T (within j k)) → (T (leb (apart i k) 2) → apart i k ≤ 2) → T (w || leb (apart i k) 2)
        → T (within i j || leb (apart i j) 2) × T (within j k || leb (apart j k) 2)
    go true f g t = (either (within i j) (leb (apart i j) 2) (inl (f tt).0), either (within j k) (leb (apart j k) 2) (inl (f tt).1))
    go false f g t =
        let d : apart i k ≤ 2 = g t in
        (either (within i j) (leb (apart i j) 2) (inr (le→leb (apart i j) 2 (omega arith))), either (within j k) (leb (apart j k) 2) (inr (le→leb (apart j k) 2 (omega arith))))

pub alike_near : (i j : ℕ) → i ≤ 0x7f80_0000 → j ≤ 0x7f80_0000 → apart i j ≤ 2 → alike (of_bits binary32 i) (of_bits binary32 j) ≡ true
alike_near i j p q h = alike_is i j p q ∙ ap (λ (n : Bool). within i j || n) (le-leb (apart i j) 2 h) ∙ or-true (within i j)

pub alike_far : (i j : ℕ) → i ≤ 0x7f80_0000 → j ≤ 0x7f80_0000 → 2 < apart i j → alike (of_bits binary32 i) (of_bits binary32 j) ≡ within i j
alike_far i j p q h = alike_is i j p q ∙ ap (λ (n : Bool). within i j || n) (lt-leb (apart i j) 2 h) ∙ or-false (within i j)
