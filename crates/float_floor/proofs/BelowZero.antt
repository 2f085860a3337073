-- What the tests of a float below zero say of its floor. Its size is a / c with a > 0; the floor is -(1 + (a - 1) / c). With k the whole part
-- of a / c that is k where a fraction is left, and k - 1 where none is: k as a float is exact up to 2 ^ 24, so comparing it with the size
-- tells, and a float of that size or more has no fraction. Assumes nothing.
use Rattle.std.proofs.Common.{◌≡◌, ℕ, zero, suc, ◌+◌, ◌-◌, ◌*◌, ◌/◌, ◌%◌, ◌^◌, ◌<◌, ◌≤◌, min, true, false, ◌&&◌, T, eqb, ltb, leb, ◌⊎◌, ℤ, pos, negsuc, sym, refl, ap, ◌∙◌, subst, inl, inr, true≢false, div-lt_iff_lt-mul, add-mul, le_antisymm, lt_of_mul-lt-mul_right, mul-pos, le-div_iff_mul-le, zero-mul, mul-one, div-le_self, mul_right_comm, div-mul-le_self, le_of_mul-le-mul_right, div-one, add-one, arith, lit<, lit≤, ltb→lt, ltb-false, ltb-true, leb-false}
use native.Mathlib.Nat.{lt-div-mul-add, div-eq_of_lt-le}
use lib.Ieee.{Float, nan, inf, fin, binary32, fits, up, down, neg, lt, of_int, to_unsigned}
use lib.Ieee.Fits.{up_pos, down_pos, and_l, and_r}
use lib.Ieee.Exact.{HasValue}
use lib.Ieee.Back.{round_whole}
use Rattle.float.specs.Arith.{◌≦◌, ◌≺◌, f0}
use Rattle.float_floor.specs.Cell.{floor_of, outside}
use Rattle.float_floor.proofs.Floors.{Truncates, f2⁶³, end_is, least_of_all, truncates, before_every_row}
use Rattle.float.proofs.Units.{zero_is}

-- ---- a quotient, and one less than the quotient rounded up

fraction : (a c : ℕ) → a / c * c < a → 0 < c → (a - 1) / c ≡ a / c
fraction a c l p = div-eq_of_lt-le c (omega arith) (less (a / c * c) (add-mul (a / c) 1 c) (lt-div-mul-add p))
  where
    less : (q : ℕ) → (a / c + 1) * c ≡ q + 1 * c → a < q + c → a - 1 < (a / c + 1) * c
    less q e h = omega arith

no_fraction : (a c : ℕ) → 0 < a → a ≤ a / c * c → 0 < c → (1 ≤ a / c) × ((a - 1) / c ≡ a / c - 1)
no_fraction a c s l p = go (a / c) (le_antisymm l (div-mul-le_self a c))
  where
    less : (n m d : ℕ) → d ≡ n + 1 * c → m ≡ d → (n ≤ m - 1) × (m - 1 < d)
    less n m d e f = (omega arith, omega arith)

    go : (k : ℕ) → a ≡ k * c → (1 ≤ k) × ((a - 1) / c ≡ k - 1)
    go zero e = absurd (omega (arith, zero-mul c))
    go (suc q) e = let h = less (q * c) a ((q + 1) * c) (add-mul q 1 c) (rw (← add-one q) at e) in (omega arith, div-eq_of_lt-le c h.0 h.1 ∙ omega arith)

-- ---- k as a float, against a size

-- what the comparison says of k and a / c
whole_below : (y : Float) (k m : ℕ) (e : ℤ) → HasValue y false k 1 → lt y (fin false m e) ≡ true → k * down e < m * up e
unfolding lt
whole_below (fin true n g) k m e v h = absurd (true≢false v.0)
whole_below (fin false n g) k m e v h =
    lt_of_mul-lt-mul_right (down g) (rw (mul_right_comm k, ← v.1, mul-one) (ltb-true (n * up g * down e) (m * up e * down g) h))
whole_below nan k m e v h = elim v [ ]
whole_below (inf _) k m e v h = elim v [ ]

whole_not_below : (y : Float) (k m : ℕ) (e : ℤ) → HasValue y false k 1 → lt y (fin false m e) ≡ false → m * up e ≤ k * down e
unfolding lt
whole_not_below (fin true n g) k m e v h = absurd (true≢false v.0)
whole_not_below (fin false n g) k m e v h =
    le_of_mul-le-mul_right (rw (mul_right_comm k, ← v.1, mul-one) (ltb-false (n * up g * down e) (m * up e * down g) h)) (down_pos g)
whole_not_below nan k m e v h = elim v [ ]
whole_not_below (inf _) k m e v h = elim v [ ]

exact : (k : ℕ) → k ≤ 2 ^ 24 → HasValue (of_int binary32 (pos k)) false k 1
unfolding of_int
exact k h = round_whole binary32 false k h

-- ---- a value below zero, and its size

none : {a b : ℕ} → a < b → b ≡ 0 → ⊥
none h e = omega arith

negative : (x : Float) → lt x (fin false 0 (pos 0)) ≡ true → (x ≡ inf true) ⊎ ((m : ℕ) × (e : ℤ) × (x ≡ fin true (suc m) e))
unfolding lt
negative nan h = absurd (true≢false (sym h))
negative (inf true) h = inl refl
negative (inf false) h = absurd (true≢false (sym h))
negative (fin false m e) h = absurd (none (ltb-true (m * up e * 1) (0 * down e) h) (zero-mul (down e)))
negative (fin true zero e) h = absurd (none (ltb-true 0 (0 * up e * 1 + 0 * down e) h) (rw (zero-mul (up e), zero-mul (down e)) refl))
negative (fin true (suc m) e) h = inr (m, e, refl)

-- below 2 ^ 63: the value is no infinity
pub record Below (x : Float) : Type 0 where
  pub digits : ℕ
  pub power : ℤ
  pub is : x ≡ fin true (suc digits) power
  pub small : suc digits * up power < 2 ^ 63 * down power

pub below : (x : Float) → x ≺ f0 ≡ true → neg x ≺ f2⁶³ ≡ true → Below x
unfolding lt neg
below x h k = go (negative x (ap (lt x) (sym zero_is) ∙ h))
  where
    go : (x ≡ inf true) ⊎ ((m : ℕ) × (e : ℤ) × (x ≡ fin true (suc m) e)) → Below x
    go (inl p) = absurd (true≢false (sym k ∙ ap (λ (y : Float). neg y ≺ f2⁶³) p ∙ ap (lt (inf false)) end_is))
    go (inr (m, e, p)) = record {
      digits = m;
      power = e;
      is = p;
      small = rw mul-one at (ltb-true (suc m * up e * 1) (9223372036854775808 * down e) (ap (lt (fin false (suc m) e)) (sym end_is) ∙ ap (λ (y : Float). neg y ≺ f2⁶³) (sym p) ∙ k));
    }

-- from 2 ^ 63 on the floor is the end of the range
pub at_the_end : (x : Float) → x ≺ f0 ≡ true → neg x ≺ f2⁶³ ≡ false → floor_of x ≡ negsuc (2 ^ 63 - 1)
unfolding lt neg floor_of
at_the_end x h k = go (negative x (ap (lt x) (sym zero_is) ∙ h))
  where
    room : {a c : ℕ} → 9223372036854775808 * c ≤ a → 0 < c → 9223372036854775807 * c ≤ a - 1
    room h p = omega arith

    most : {n : ℕ} → 9223372036854775807 ≤ n → min n (2 ^ 63 - 1) ≡ 2 ^ 63 - 1
    most h = omega arith

    large : (m : ℕ) (e : ℤ) → x ≡ fin true (suc m) e → 9223372036854775808 * down e ≤ suc m * up e
    large m e p =
        rw mul-one at (ltb-false (suc m * up e * 1) (9223372036854775808 * down e) (ap (lt (fin false (suc m) e)) (sym end_is) ∙ ap (λ (y : Float). neg y ≺ f2⁶³) (sym p) ∙ k))

    go : (x ≡ inf true) ⊎ ((m : ℕ) × (e : ℤ) × (x ≡ fin true (suc m) e)) → floor_of x ≡ negsuc (2 ^ 63 - 1)
    go (inl p) = ap floor_of p
    go (inr (m, e, p)) = ap floor_of p ∙ ap negsuc (most ((le-div_iff_mul-le (down_pos e)).1 (room (large m e p) (down_pos e))))

-- ---- the floor, by the whole part k of the size

pub truncated : (x : Float) → x ≺ f0 ≡ true → neg x ≺ f2⁶³ ≡ true → Truncates (neg x)
unfolding neg
truncated x h k =
    let b = below x h k in
    let e = ap neg b.is in
    truncates end_is (lit≤ tt) (neg x) (ap (λ (y : Float). f0 ≦ y) e ∙ least_of_all (suc b.digits) b.power) k

whole : (m : ℕ) (e : ℤ) → suc m * up e < 2 ^ 63 * down e → to_unsigned 64 (neg (fin true (suc m) e)) ≡ suc m * up e / down e
unfolding neg to_unsigned
whole m e l = fit ((div-lt_iff_lt-mul (down_pos e)).1 l)
  where
    fit : {n : ℕ} → n < 2 ^ 63 → min n (2 ^ 64 - 1) ≡ n
    fit h = omega arith

-- with k the whole part of its size
pub record Cut (x : Float) (k : ℕ) : Type 0 where
  pub of : Below x
  pub is : k ≡ suc of.digits * up of.power / down of.power

pub cut : (x : Float) → x ≺ f0 ≡ true → neg x ≺ f2⁶³ ≡ true → Cut x (to_unsigned 64 (neg x))
cut x h k = let b = below x h k in record { of = b; is = ap (λ (y : Float). to_unsigned 64 (neg y)) b.is ∙ whole b.digits b.power b.small }

end : {n : ℕ} → n < 2 ^ 63 → min n (2 ^ 63 - 1) ≡ n
end h = omega arith

pub cut_lt : {x : Float} {k : ℕ} → Cut x k → k < 2 ^ 63
cut_lt c = rw c.is ((div-lt_iff_lt-mul (down_pos c.of.power)).1 c.of.small)

-- what the floor of the value is owed: the whole part, or one less
floor_by : {x : Float} {k n : ℕ} (c : Cut x k) → (suc c.of.digits * up c.of.power - 1) / down c.of.power ≡ n → n < 2 ^ 63 → floor_of x ≡ negsuc n
unfolding floor_of
floor_by c e l = ap floor_of c.of.is ∙ ap negsuc (rw e (end l))

pub with_fraction : {x : Float} {k : ℕ} → Cut x k → k ≤ 2 ^ 24 → lt (of_int binary32 (pos k)) (neg x) ≡ true → floor_of x ≡ negsuc k
unfolding neg
with_fraction {x} {k} c l h =
    let m = suc c.of.digits in
    let e = c.of.power in
    let f = whole_below (of_int binary32 (pos k)) k m e (exact k l) (ap (λ (y : Float). lt (of_int binary32 (pos k)) (neg y)) (sym c.of.is) ∙ h) in
    floor_by c (fraction (m * up e) (down e) (rw c.is at f) (down_pos e) ∙ sym c.is) (cut_lt c)

pub without_fraction : {x : Float} {k : ℕ} → Cut x k → k ≤ 2 ^ 24 → lt (of_int binary32 (pos k)) (neg x) ≡ false → (1 ≤ k) × (floor_of x ≡ negsuc (k - 1))
unfolding neg
without_fraction {x} {k} c l h =
    let m = suc c.of.digits in
    let e = c.of.power in
    let f = whole_not_below (of_int binary32 (pos k)) k m e (exact k l) (ap (λ (y : Float). lt (of_int binary32 (pos k)) (neg y)) (sym c.of.is) ∙ h) in
    let n = no_fraction (m * up e) (down e) (mul-pos (omega arith) (up_pos e)) (rw c.is at f) (down_pos e) in
    (rw c.is n.0, floor_by c (n.1 ∙ ap (λ (i : ℕ). i - 1) (sym c.is)) (omega (arith, cut_lt c)))

-- a float has 24 digits: from 2 ^ 24 on it is whole
few : (m : ℕ) (e : ℤ) → T (fits binary32 (fin true (suc m) e)) → suc m < 2 ^ 24
unfolding fits
few m e t =
    let odd = eqb (suc m % 2) 1 in
    let short = ltb (suc m) 16777216 in
    ltb→lt (suc m) 16777216 (and_r odd short (and_l (odd && short) (leb (down e) (2 ^ 149)) (and_l (odd && short && leb (down e) (2 ^ 149)) (ltb (suc m * up e) (2 ^ 128 * down e)) t)))

pub no_digit_left : {x : Float} {k : ℕ} → T (fits binary32 x) → Cut x k → 2 ^ 24 ≤ k → floor_of x ≡ negsuc (k - 1)
no_digit_left {x} {k} t c l = floor_by c (go c.of.digits c.of.power (subst (λ (y : Float). T (fits binary32 y)) c.of.is t) c.is) (omega (arith, cut_lt c))
  where
    go : (m : ℕ) (e : ℤ) → T (fits binary32 (fin true (suc m) e)) → k ≡ suc m * up e / down e → (suc m * up e - 1) / down e ≡ k - 1
    go m (pos j) t e = div-one (suc m * 2 ^ j - 1) ∙ ap (λ (i : ℕ). i - 1) (sym (e ∙ div-one (suc m * 2 ^ j)))
    go m (negsuc j) t e = absurd (omega (arith, few m (negsuc j) t, div-le_self (suc m * 1) (2 ^ suc j)))

-- ---- neither from zero on nor below it: a NaN

pub neither : (x : Float) → f0 ≦ x ≡ false → x ≺ f0 ≡ false → floor_of x ≡ pos 0
unfolding outside
neither x h k = only (floor_of x) (sym (before_every_row x 1 (lit< tt) h).past ∙ k)
  where
    only : (z : ℤ) → outside 1 z ≡ false → z ≡ pos 0
    only (pos n) h = ap pos (omega (arith, leb-false 1 n h))
    only (negsuc n) h = absurd (true≢false h)
