-- Where q is at least the square of h, the root of q is not below h: were it below, q would lie under the square of the middle of the two,
-- which is under that of h. And in a binary64 the square of a binary32 is exact, so the test can be made without a root. Assumes nothing.
use mathlib.Core.Path.{◌≡◌, refl, sym, ap, ap₂, ◌∙◌, subst}
use mathlib.Core.Logic.{⊎_elim}
use mathlib.Core.Bool.{Bool, true, false, ◌&&◌, ◌||◌, true≢false}
use Prim.Native.Nat.{ℕ, zero, suc, ◌+◌, ◌-◌, ◌*◌, ◌/◌, ◌^◌, ◌≤◌, ◌<◌}
use native.Mathlib.Nat.{zero-mul, add-mul, mul-add, le_of_mul-le-mul_right, mul_assoc, mul-pos, mul-le-mul, mul-mul-mul_comm, lt_of_lt_of_le, le_trans, not-le_of_lt, mul-le-mul_left}
use native.Mathlib.Omega.{arith}
use lib.IntN.{ℤ}
use lib.Dec.{T, ltb, eqb, lt→ltb, ltb→lt}
use lib.Pow.{pow_pos, pow-add, pow_mono}
use lib.Ieee.{Float, nan, inf, fin, binary32, binary64, fits, to_bits, up, down, mul, lt, le, eq}
use lib.Ieee.Bits.{of_bits-to_bits}
use lib.Ieee.Exact.{HasValue, round_exact}
use lib.Ieee.Fits.{up_pos, down_pos}
use lib.Ieee.Positive.{positive, positive_of_value, values_of_le, mul_at}
use borrow.Author.Tests.{le-ltb, ne_eqb}
use Rattle.float.specs.Root.{units_of, Nearer, NearestRoot}
use Rattle.float.specs.RootOf.{root_of}
use Rattle.float.proofs.Squares.{le_or_lt, mul_lt}
use Rattle.float.proofs.Units.{digits_of, units_at, value, units_value}
use Rattle.float.proofs.Order.{lt_values}
use Rattle.float.proofs.Roots.{above_bits, root_of_lem}

-- ---- a value above zero, in units

record Above (x : Float) : Type 0 where
  digits : ℕ
  place : ℕ
  few : digits < 2 ^ 24
  low : place < 254
  some : 0 < digits * 2 ^ place
  is : HasValue x false (digits * 2 ^ place) (2 ^ 149)

positive_digits : (b : ℕ) → 0 < b → 0 < digits_of b
positive_digits b h = omega arith

above : (m : ℕ) (e : ℤ) → T (fits binary32 (fin false (suc m) e)) → Above (fin false (suc m) e)
above m e h =
    let x = fin false (suc m) e in
    let b = to_bits binary32 x in
    let r = above_bits m e h in
    record {
      digits = digits_of b;
      place = b / 0x80_0000 - 1;
      few = omega arith;
      low = omega (arith, r.1);
      some = mul-pos (positive_digits b r.0) (pow_pos (b / 0x80_0000 - 1));
      is = subst (λ (v : Float). HasValue v false (units_at b) (2 ^ 149)) (of_bits-to_bits binary32 x h) (value b r.1);
    }

-- ---- the square of a binary32 is exact in a binary64

-- q has 48 digits at most, and binary64 has 53; its place is well within the format
small : (d k : ℕ) → d < 2 ^ 24 → k < 254 → d * d * 2 ^ (k + k + 776) < 2 ^ 2098
small d k h l = lt_of_lt_of_le (mul_lt 48 (k + k + 776 + 1) (mul_lt 24 24 h h) (more (k + k + 776))) (pow_mono {j = 2098} (omega arith))
  where
    more : (n : ℕ) → 2 ^ n < 2 ^ (n + 1)
    more n = omega (arith, pow-add 2 n 1, pow_pos n)

-- (d * 2 ^ k)² / 2 ^ 298 in units of 2 ^ -1074
placed : (d k : ℕ) → d * 2 ^ k * (d * 2 ^ k) * 2 ^ 1074 ≡ d * d * 2 ^ (k + k + 776) * (2 ^ 149 * 2 ^ 149)
placed d k =
    ap (λ (x : ℕ). x * 2 ^ 1074) (mul-mul-mul_comm d (2 ^ k) d (2 ^ k) ∙ ap (λ (x : ℕ). d * d * x) (sym (pow-add 2 k k)))
    ∙ mul_assoc (d * d) (2 ^ (k + k)) (2 ^ 1074)
    ∙ ap (λ (x : ℕ). d * d * x) (sym (pow-add 2 (k + k) 1074) ∙ ap (λ (n : ℕ). 2 ^ n) places ∙ pow-add 2 (k + k + 776) 298)
    ∙ sym (mul_assoc (d * d) (2 ^ (k + k + 776)) (2 ^ 298))
  where
    places : k + k + 1074 ≡ k + k + 776 + 298
    places = omega arith

units : {x : Float} → Above x → ℕ
units a = a.digits * 2 ^ a.place

square : (x : Float) (a : Above x) → T (positive x) → HasValue (mul binary64 x x) false (units a * units a) (2 ^ 149 * 2 ^ 149)
unfolding units
square x a p =
    subst (λ (v : Float). HasValue v false (units a * units a) (2 ^ 149 * 2 ^ 149))
    (sym (mul_at binary64 x x (units a) (2 ^ 149) (units a) (2 ^ 149) p p (pow_pos 149) (pow_pos 149) a.is a.is))
    (round_exact binary64 false (units a * units a) (2 ^ 149 * 2 ^ 149) (a.digits * a.digits) (a.place + a.place + 776) (mul-pos (pow_pos 149) (pow_pos 149))
    (lt_of_lt_of_le (mul_lt 24 24 a.few a.few) (pow_mono {i = 48} {j = 53} (omega arith)))
    (small a.digits a.place a.few a.low)
    (placed a.digits a.place))

-- ---- the root of X units, R, is not below H, where H * H is at most X * 2 ^ 149

four : (n : ℕ) → (n + n) * (n + n) ≤ 4 * (n * n)
four n = omega (arith, add-mul n n (n + n), mul-add n n n)

middle : (X R H : ℕ) → H * H ≤ X * 2 ^ 149 → Nearer X R H → H ≤ R
middle X R H h near = ⊎_elim
    (λ (l : H ≤ R). l)
    (λ (l : R < H).
    absurd
    (not-le_of_lt (near.1 l) (le_trans (mul-le-mul {n₂ = H + H} {m₂ = H + H} (omega arith) (omega arith)) (le_trans (four H) (mul-le-mul_left 4 h)))))
    (le_or_lt H R)

above_zero_lem : (m : ℕ) (e : ℤ) → T (positive (fin false (suc m) e))
above_zero_lem m e = lt→ltb 0 (suc m) (omega arith)

units_are : (x : Float) (a : Above x) → units_of x ≡ units a
unfolding units
units_are x a = units_value x false (a.digits * 2 ^ a.place) a.is

-- the test without a root says that the square of H units is at most X * 2 ^ 149
at_most : (x y : Float) (a : Above x) (b : Above y) → T (positive x) → T (positive y) → le (mul binary64 y y) x ≡ true → units b * units b ≤ units a * 2 ^ 149
unfolding units
at_most x y a b p q h =
    le_of_mul-le-mul_right
    (subst (λ (n : ℕ). units b * units b * 2 ^ 149 ≤ n) (sym (mul_assoc (units a) (2 ^ 149) (2 ^ 149)))
    (values_of_le (mul binary64 y y) x (units b * units b) (2 ^ 149 * 2 ^ 149) (units a) (2 ^ 149)
    (positive_of_value (mul binary64 y y) (units b * units b) (2 ^ 149 * 2 ^ 149) (square y b q) (mul-pos b.some b.some)) p (square y b q) a.is (subst T (sym h) tt)))
    (pow_pos 149)

not_below_nearest : (x y : Float) (a : Above x) (b : Above y) → T (positive x) → T (positive y) → T (fits binary32 y) → (r : Float) → Above r → NearestRoot x r
    → le (mul binary64 y y) x ≡ true → lt r y ≡ false
unfolding units
not_below_nearest x y a b p q f r c near h =
    lt_values r y (units c) (units b) (2 ^ 149) (pow_pos 149) c.is b.is
    ∙ le-ltb (units c) (units b)
    (middle (units a) (units c) (units b) (at_most x y a b p q h)
    (subst (λ (n : ℕ). Nearer n (units c) (units b)) (units_are x a)
    (subst (λ (n : ℕ). Nearer (units_of x) n (units b)) (units_are r c)
    (subst (λ (n : ℕ). Nearer (units_of x) (units_of r) n) (units_are y b) (near.nearer y f)))))

above_root : (x r : Float) → NearestRoot x r → Above r
above_root x r near =
    let e = near.above in
    subst Above (sym e.2) (above e.0 e.1 (subst (λ (v : Float). T (fits binary32 v)) e.2 near.held))

-- ---- every q and h

-- not above zero
abbrev low : Float → Bool
low nan = true
low (inf s) = s
low (fin s zero e) = true
low (fin s (suc m) e) = s

-- no size is below zero, and a size above zero is neither below nor level with one
nothing : (b d : ℕ) → 0 * b * d ≡ 0
nothing b d = ap (λ (n : ℕ). n * d) (zero-mul b) ∙ zero-mul d

not_under : (a b d : ℕ) → ltb a (0 * b * d) ≡ false
not_under a b d = le-ltb a (0 * b * d) (omega (arith, nothing b d))

not_level : (a b d : ℕ) → 0 < a → eqb a (0 * b * d) ≡ false
not_level a b d h = ne_eqb a (0 * b * d) (λ (e : a ≡ 0 * b * d). absurd (omega (arith, nothing b d)))

neither : (a b c : Bool) → a ≡ false → b ≡ false → (a || (b && c)) ≡ false
neither a b c h k = ap₂ (λ (x : Bool) (y : Bool). x || (y && c)) h k

above_not_zero : (v : Float) → T (positive v) → (s : Bool) (e : ℤ) → le v (fin s zero e) ≡ false
unfolding le lt eq
above_not_zero nan p s e = absurd p
above_not_zero (inf t) p s e = absurd p
above_not_zero (fin true m d) p s e = absurd p
above_not_zero (fin false m d) p false e =
    neither _ _ true (not_under (m * up d * down e) (up e) (down d)) (not_level (m * up d * down e) (up e) (down d) (mul-pos (mul-pos (ltb→lt 0 m p) (up_pos d)) (down_pos e)))
above_not_zero (fin false m d) p true e =
    neither false _ (eqb (m * up d * down e) 0) refl (not_level (m * up d * down e) (up e) (down d) (mul-pos (mul-pos (ltb→lt 0 m p) (up_pos d)) (down_pos e)))

-- an infinite h has an infinite square, which is at most no number
infinite_square : (s : Bool) (m : ℕ) (e : ℤ) → le (mul binary64 (inf false) (inf false)) (fin s m e) ≡ false
unfolding le lt eq mul
infinite_square s m e = refl

-- a root above zero against an h that is not above zero
over_low : (k : ℕ) (d : ℤ) (h : Float) → T (low h) → lt (fin false (suc k) d) h ≡ false
unfolding lt
over_low k d nan w = refl
over_low k d (inf true) w = refl
over_low k d (inf false) w = absurd w
over_low k d (fin true n e) w = refl
over_low k d (fin false zero e) w = not_under (suc k * up d * down e) (up e) (down d)
over_low k d (fin false (suc n) e) w = absurd w

-- a zero against an h that is not above zero
zero_over_low : (s : Bool) (d : ℤ) (h : Float) → T (low h) → lt (fin s zero d) h ≡ false
unfolding lt
zero_over_low s d nan w = refl
zero_over_low s d (inf true) w = refl
zero_over_low s d (inf false) w = absurd w
zero_over_low false d (fin true n e) w = refl
zero_over_low true d (fin true n e) w = not_under (n * up e * down d) (up d) (down e)
zero_over_low false d (fin false zero e) w = not_under (0 * up d * down e) (up e) (down d)
zero_over_low true d (fin false zero e) w = le-ltb 0 (0 * up d * down e + 0 * up e * down d) (omega (arith, nothing (up d) (down e), nothing (up e) (down d)))
zero_over_low s d (fin false (suc n) e) w = absurd w

no : {A : Type 0} {b : Bool} → b ≡ true → b ≡ false → A
no h k = absurd (true≢false (sym h ∙ k))

-- h is not above zero, or infinite, or a number above zero
data Sort : Float → Type 0 where
  lows : (h : Float) → T (low h) → Sort h
  endless : Sort (inf false)
  number : (n : ℕ) (d : ℤ) → Sort (fin false (suc n) d)

sort : (h : Float) → Sort h
sort nan = lows nan tt
sort (inf true) = lows (inf true) tt
sort (inf false) = endless
sort (fin s zero e) = lows (fin s zero e) tt
sort (fin true (suc m) e) = lows (fin true (suc m) e) tt
sort (fin false (suc m) e) = number m e

under_zero : (s : Bool) (e : ℤ) {h : Float} → Sort h → T (fits binary32 h) → le (mul binary64 h h) (fin s zero e) ≡ true → lt (fin s zero e) h ≡ false
unfolding units
under_zero s e (lows h w) f t = zero_over_low s e h w
under_zero s e endless f t = no t (infinite_square s zero e)
under_zero s e (number n d) f t =
    let a = above n d f in
    let v = square (fin false (suc n) d) a (above_zero_lem n d) in
    no t (above_not_zero (mul binary64 (fin false (suc n) d) (fin false (suc n) d)) (positive_of_value (mul binary64 (fin false (suc n) d) (fin false (suc n) d)) (units a * units a) (2 ^ 149 * 2 ^ 149) v (mul-pos a.some a.some)) s e)

under_number : (m : ℕ) (e : ℤ) {h : Float} → Sort h → T (fits binary32 (fin false (suc m) e)) → T (fits binary32 h) → (r : Float) → NearestRoot (fin false (suc m) e) r
    → le (mul binary64 h h) (fin false (suc m) e) ≡ true → lt r h ≡ false
under_number m e (lows h w) fq fh r near t = subst (λ (v : Float). lt v h ≡ false) (sym near.above.2) (over_low near.above.0 near.above.1 h w)
under_number m e endless fq fh r near t = no t (infinite_square false (suc m) e)
under_number m e (number n d) fq fh r near t =
    not_below_nearest (fin false (suc m) e) (fin false (suc n) d) (above m e fq) (above n d fh) (above_zero_lem m e) (above_zero_lem n d) fh r (above_root (fin false (suc m) e) r near) near t

infinite : (h : Float) → lt (inf false) h ≡ false
unfolding lt
infinite nan = refl
infinite (inf s) = refl
infinite (fin s n d) = refl

pub not_below_lem : (q h : Float) → T (fits binary32 q) → T (fits binary32 h) → le (mul binary64 h h) q ≡ true → lt (root_of q) h ≡ false
unfolding root_of lt
not_below_lem nan h fq fh t = refl
not_below_lem (inf true) h fq fh t = refl
not_below_lem (inf false) h fq fh t = infinite h
not_below_lem (fin s zero e) h fq fh t = under_zero s e (sort h) fh t
not_below_lem (fin true (suc m) e) h fq fh t = refl
not_below_lem (fin false (suc m) e) h fq fh t = under_number m e (sort h) fq fh (root_of (fin false (suc m) e)) (root_of_lem (fin false (suc m) e) fq) t
