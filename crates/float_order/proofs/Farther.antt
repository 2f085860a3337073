-- The magnitude i beyond j: larger and not alike. A larger magnitude is beyond j too, and i is beyond a smaller one too, since `alike` is convex.
-- The code's test says the same: with patterns more than 2 apart the difference has no sign, and is above 1e-6 or at most that. Assumes nothing.
use Prim.Native.Nat.{ℕ, ◌+◌, ◌-◌, ◌*◌, ◌^◌, ◌≤◌, ◌<◌}
use native.Mathlib.Nat.{le_of_lt, eq-or-lt_of_le, mul-le-mul_right}
use native.Mathlib.Omega.{arith}
use native.Mathlib.Decide.{dec_lt}
use mathlib.Core.Path.{◌≡◌, refl, sym, ap, ap₂, ◌∙◌, subst}
use mathlib.Core.Logic.{◌⊎◌, inl, inr}
use mathlib.Core.Bool.{Bool, true, false, not, ◌&&◌, cond, true≢false}
use lib.Dec.{T, leb, ltb}
use lib.Ieee.{Float, nan, inf, fin, binary32, up, down, round, sum, sub, of_bits, to_bits}
use lib.Ieee.Exact.{HasValue}
use lib.Ieee.Fits.{sub-fits}
use lib.Ieee.Order.{transfer}
use lib.Pow.{pow_pos}
use borrow.Author.Tests.{lt-ltb, le-ltb, lt-leb, le-leb, ltb-true}
use Rattle.float.specs.Arith.{◌⊖◌, ◌≦◌, ◌≺◌}
use Rattle.float.specs.Distance.{Distance, unsigned}
use Rattle.float.proofs.Units.{units_at, units_grow, value, infinity}
use Rattle.float.proofs.Order.{bits_lt, distance_lt, distance_le, unsigned_distance}
use Rattle.float_order.specs.Compare.{alike_margin, alike, beyond}
use Rattle.float.proofs.Magnitude.{own_magnitude, distance_sign}
use Rattle.float.proofs.NoSign.{round_unsigned}
use Rattle.float_order.proofs.Difference.{opened}
use Rattle.float_order.proofs.Alike.{margin_distance, alike_sym, alike_inner, alike_near, alike_far}

-- the magnitudes with the patterns i and j
abbrev pub beyond_at : ℕ → ℕ → Bool
beyond_at i j = beyond (of_bits binary32 i) (of_bits binary32 j)

module _ (i j : ℕ) (p : i ≤ 0x7f80_0000) (q : j ≤ 0x7f80_0000) where
  beyond_is : beyond_at i j ≡ (ltb j i && not (alike (of_bits binary32 i) (of_bits binary32 j)))
  beyond_is = ap (λ (t : Bool). t && not (alike (of_bits binary32 i) (of_bits binary32 j))) (bits_lt j i q p)

  -- both ways between the test and what it says
  beyond_says : beyond_at i j ≡ true → (j < i) × (alike (of_bits binary32 i) (of_bits binary32 j) ≡ false)
  beyond_says h = go (ltb j i) (alike (of_bits binary32 i) (of_bits binary32 j)) (ltb-true j i) (sym beyond_is ∙ h)
    where
      go : (l a : Bool) → (l ≡ true → j < i) → (l && not a) ≡ true → (j < i) × (a ≡ false)
      go true true f e = absurd (true≢false (sym e))
      go true false f e = (f refl, refl)
      go false a f e = absurd (true≢false (sym e))

  beyond_holds : j < i → alike (of_bits binary32 i) (of_bits binary32 j) ≡ false → beyond_at i j ≡ true
  beyond_holds l a = beyond_is ∙ ap₂ (λ (s : Bool) (t : Bool). s && not t) (lt-ltb j i l) a

not_alike : (s t : Bool) → (T t → T s) → s ≡ false → t ≡ false
not_alike s true f e = absurd (subst T e (f tt))
not_alike s false f e = refl

-- a larger magnitude is beyond j too
pub beyond_up : (i k j : ℕ) → i ≤ k → k ≤ 0x7f80_0000 → j ≤ 0x7f80_0000 → beyond_at i j ≡ true → beyond_at k j ≡ true
beyond_up i k j h p q b =
    let s = beyond_says i j (omega arith) q b in
    beyond_holds k j p q (omega (arith, s.0))
    (not_alike (alike (of_bits binary32 i) (of_bits binary32 j)) (alike (of_bits binary32 k) (of_bits binary32 j))
    (λ t. subst T (alike_sym j i q (omega arith)) (alike_inner j i k (le_of_lt s.0) h p (subst T (alike_sym k j p q) t)).0)
    s.1)

-- and i is beyond a smaller one too
pub beyond_down : (i j k : ℕ) → k ≤ j → i ≤ 0x7f80_0000 → j ≤ 0x7f80_0000 → beyond_at i j ≡ true → beyond_at i k ≡ true
beyond_down i j k h p q b =
    let s = beyond_says i j p q b in
    beyond_holds i k p (omega arith) (omega (arith, s.0))
    (not_alike (alike (of_bits binary32 i) (of_bits binary32 j)) (alike (of_bits binary32 i) (of_bits binary32 k))
    (λ t. subst T (alike_sym j i q p) (alike_inner k j i h (le_of_lt s.0) p (subst T (alike_sym i k p (omega arith)) t)).1)
    s.1)

-- ---- the code's test

-- the difference of a larger magnitude and a smaller has no sign
pick : (a b c : ℕ) → b ≤ a → T (unsigned (sum binary32 false a true b c))
unfolding sum
pick a b c h = subst (λ (t : Bool). T (unsigned (cond t (round binary32 true (b - a) c) (round binary32 false (a - b) c)))) (sym (le-ltb a b h)) (round_unsigned (a - b) c)

values_unsigned : (x y : Float) (a b c : ℕ) → 0 < c → HasValue x false a c → HasValue y false b c → b ≤ a → T (unsigned (x ⊖ y))
values_unsigned nan y a b c C p q h = absurd p
values_unsigned (inf s) y a b c C p q h = absurd p
values_unsigned (fin true m e) y a b c C p q h = absurd (true≢false p.0)
values_unsigned (fin false m e) nan a b c C p q h = absurd q
values_unsigned (fin false m e) (inf t) a b c C p q h = absurd q
values_unsigned (fin false m e) (fin true n d) a b c C p q h = absurd (true≢false q.0)
values_unsigned (fin false m e) (fin false n d) a b c C p q h =
    subst (λ (v : Float). T (unsigned v)) (sym (opened m e n d))
    (pick (m * up e * down d) (n * up d * down e) (down e * down d)
    (transfer (n * up d) (m * up e) (down d) (down e) b a c c C C q.1 p.1 (mul-le-mul_right c h)))

infinity_unsigned : (x : Float) (a c : ℕ) → HasValue x false a c → T (unsigned (inf false ⊖ x))
unfolding sub
infinity_unsigned nan a c p = absurd p
infinity_unsigned (inf s) a c p = absurd p
infinity_unsigned (fin s m e) a c p = tt

larger_unsigned : (i j : ℕ) → j < i → i ≤ 0x7f80_0000 → T (unsigned (of_bits binary32 i ⊖ of_bits binary32 j))
larger_unsigned i j l h = go (eq-or-lt_of_le h)
  where
    go : (i ≡ 0x7f80_0000) ⊎ (i < 0x7f80_0000) → T (unsigned (of_bits binary32 i ⊖ of_bits binary32 j))
    go (inl e) =
        subst (λ (v : Float). T (unsigned (v ⊖ of_bits binary32 j))) (sym (ap (of_bits binary32) e ∙ infinity))
        (infinity_unsigned (of_bits binary32 j) (units_at j) (2 ^ 149) (value j (omega arith)))
    go (inr k) =
        values_unsigned (of_bits binary32 i) (of_bits binary32 j) (units_at i) (units_at j) (2 ^ 149) (pow_pos 149) (value i k) (value j (omega arith))
        (le_of_lt (units_grow j i l))

-- above is not at most
above_or_not : (x y : Float) → Distance x → Distance y → (x ≺ y) ≡ not (y ≦ x)
above_or_not x y p q = distance_lt x y p q ∙ numbers (to_bits binary32 x) (to_bits binary32 y) ∙ ap not (sym (distance_le y x q p))
  where
    numbers : (a b : ℕ) → ltb a b ≡ not (leb b a)
    numbers a b = go (dec_lt a b)
      where
        go : Dec (a < b) → ltb a b ≡ not (leb b a)
        go (yes h) = lt-ltb a b h ∙ ap not (sym (lt-leb b a h))
        go (no h) = le-ltb a b (omega arith) ∙ ap not (sym (le-leb b a (omega arith)))

pub beyond_test : (i j : ℕ) → i ≤ 0x7f80_0000 → j ≤ 0x7f80_0000 → (ltb (j + 2) i && (alike_margin ≺ (of_bits binary32 i ⊖ of_bits binary32 j))) ≡ beyond_at i j
beyond_test i j p q = go (dec_lt (j + 2) i)
  where
    d : Float
    d = of_bits binary32 i ⊖ of_bits binary32 j

    near : Dec (j < i) → i ≤ j + 2 → false ≡ (ltb j i && not (alike (of_bits binary32 i) (of_bits binary32 j)))
    near (yes l) h = sym (ap₂ (λ (s : Bool) (t : Bool). s && not t) (lt-ltb j i l) (alike_near i j p q (omega arith)))
    near (no l) h = sym (ap (λ (s : Bool). s && not (alike (of_bits binary32 i) (of_bits binary32 j))) (le-ltb j i (omega arith)))

    go : Dec (j + 2 < i) → (ltb (j + 2) i && (alike_margin ≺ d)) ≡ beyond_at i j
    go (no h) = ap (λ (s : Bool). s && (alike_margin ≺ d)) (le-ltb (j + 2) i (omega arith)) ∙ near (dec_lt j i) (omega arith) ∙ sym (beyond_is i j p q)
    go (yes h) =
        let u = unsigned_distance d (sub-fits binary32 (of_bits binary32 i) (of_bits binary32 j)) (larger_unsigned i j (omega arith) p) in
        ap (λ (s : Bool). s && (alike_margin ≺ d)) (lt-ltb (j + 2) i h)
        ∙ above_or_not alike_margin d margin_distance u
        ∙ ap (λ (v : Float). not (v ≦ alike_margin)) (sym (own_magnitude d (distance_sign d u)))
        ∙ ap not (sym (alike_far i j p q (omega arith)))
        ∙ ap (λ (s : Bool). s && not (alike (of_bits binary32 i) (of_bits binary32 j))) (sym (lt-ltb j i (omega arith)))
        ∙ sym (beyond_is i j p q)
