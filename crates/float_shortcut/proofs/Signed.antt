-- The signed root has the magnitude's root for its magnitude and the sign of the square, unless that is a NaN. So what is not below in magnitude
-- is not nearer, but where a positive value meets a negative one. Assumes nothing.
use Rattle.std.specs.Prelude.{if◌then◌else◌}
use Rattle.std.proofs.Common.{◌≡◌, ℕ, ◌+◌, ◌*◌, ◌<◌, Bool, true, false, cond, not, ◌||◌, T, eqb, ltb, sym, refl, ap, ◌∙◌, subst, true≢false, arith, ltb-true, lt-ltb}
use native.Mathlib.Decide.{dec_lt}
use mathlib.Core.Bool.{or-true}
use lib.Ieee.{Float, nan, inf, fin, binary32, binary64, up, down, below, level, fits, is_nan, of_bits, neg, mul, le, lt, eq}
use lib.Ieee.Bits.{is_false}
use Rattle.float.specs.Arith.{◌≺◌, f0}
use Rattle.float.specs.Distance.{Distance}
use Rattle.float.specs.RootOf.{root_of}
use Rattle.float.specs.Steps.{abs_of, sign_bit}
use Rattle.float.proofs.Bools.{and_first}
use Rattle.float.proofs.Order.{distance_no_nan, unsigned_distance}
use Rattle.float.proofs.Magnitude.{abs_fits, abs_distance, abs_itself, own_magnitude, distance_sign}
use Rattle.float.proofs.NotBelow.{not_below_lem}
use Rattle.float.proofs.Roots.{root_distance}
use Rattle.float.proofs.Signs.{above_zero_lem}
use Rattle.float_order.specs.Nearer.{nearer}
use Rattle.float_order.proofs.Nearer.{not_nearer}
use Rattle.float_shortcut.specs.Shown.{signed_root, size_of, at_least_square}

-- ---- the sign taken away, and set

neg_abs : (x : Float) → abs_of (neg x) ≡ abs_of x
unfolding abs_of neg
neg_abs nan = refl
neg_abs (inf s) = refl
neg_abs (fin s m e) = refl

neg_sign : (x : Float) → T (not (is_nan x)) → sign_bit (neg x) ≡ not (sign_bit x)
unfolding neg is_nan
neg_sign nan n = absurd n
neg_sign (inf s) n = refl
neg_sign (fin s m e) n = refl

neg_nan : (x : Float) → is_nan (neg x) ≡ is_nan x
unfolding neg is_nan
neg_nan nan = refl
neg_nan (inf s) = refl
neg_nan (fin s m e) = refl

-- ---- without a sign bit it is the root

pub unsigned_root : (q : Float) → sign_bit q ≡ false → signed_root q ≡ root_of q
unfolding signed_root
unsigned_root q s = rw s (ap root_of (own_magnitude q s))

-- ---- a number's signed root

module _ (q : Float) (f : T (fits binary32 q)) (n : T (not (is_nan q))) where
  root : Distance (root_of (abs_of q))
  root = root_distance (abs_of q) (abs_distance q f n)

  pub magnitude_is : abs_of (signed_root q) ≡ root_of (abs_of q)
  unfolding signed_root
  magnitude_is = go (sign_bit q)
    where
      go : (s : Bool) → abs_of (cond s (neg (root_of (abs_of q))) (root_of (abs_of q))) ≡ root_of (abs_of q)
      go true = neg_abs (root_of (abs_of q)) ∙ abs_itself (root_of (abs_of q)) root
      go false = abs_itself (root_of (abs_of q)) root

  pub sign_is : sign_bit (signed_root q) ≡ sign_bit q
  unfolding signed_root
  sign_is = go (sign_bit q)
    where
      go : (s : Bool) → sign_bit (cond s (neg (root_of (abs_of q))) (root_of (abs_of q))) ≡ s
      go true = neg_sign (root_of (abs_of q)) (distance_no_nan (root_of (abs_of q)) root) ∙ ap not (distance_sign (root_of (abs_of q)) root)
      go false = distance_sign (root_of (abs_of q)) root

-- it is a NaN where the square is
pub signed_nan : (q : Float) → T (fits binary32 q) → is_nan (signed_root q) ≡ is_nan q
unfolding signed_root is_nan abs_of root_of neg
signed_nan nan f = refl
signed_nan (inf true) f = refl
signed_nan (inf false) f = refl
signed_nan (fin s m e) f = go s
  where
    number : is_nan (root_of (fin false m e)) ≡ false
    number = is_false (is_nan (root_of (fin false m e))) (distance_no_nan (root_of (fin false m e)) (root (fin s m e) f tt))

    go : (t : Bool) → is_nan (cond t (neg (root_of (fin false m e))) (root_of (fin false m e))) ≡ false
    go true = neg_nan (root_of (fin false m e)) ∙ number
    go false = number

-- ---- what a square shows

-- the square of h is that of its magnitude
own_square : (h : Float) → mul binary64 h h ≡ mul binary64 (abs_of h) (abs_of h)
unfolding mul abs_of
own_square nan = refl
own_square (inf true) = refl
own_square (inf false) = refl
own_square (fin true m e) = refl
own_square (fin false m e) = refl

-- nothing is at most a NaN
at_most_number : (x q : Float) → le x q ≡ true → T (not (is_nan q))
unfolding le lt eq is_nan
at_most_number nan nan h = absurd (true≢false (sym h))
at_most_number (inf s) nan h = absurd (true≢false (sym h))
at_most_number (fin s m e) nan h = absurd (true≢false (sym h))
at_most_number x (inf s) h = tt
at_most_number x (fin s m e) h = tt

-- what is at most q is at most its magnitude
at_most_level : (s : Bool) (a b : ℕ) → (below s a true b || level s a true b) ≡ true → (below s a false b || level s a false b) ≡ true
at_most_level true a b h = go (dec_lt 0 (a + b))
  where
    go : Dec (0 < a + b) → (ltb 0 (a + b) || level true a false b) ≡ true
    go (yes l) = rw (lt-ltb 0 (a + b) l)
    go (no l) = let p : a ≡ 0 = omega arith in let q : b ≡ 0 = omega arith in rw (p, q)
at_most_level false a b h = rw (and_first (eqb a b) (eqb a 0) h) (or-true (ltb a b))

at_most_abs : (x q : Float) → le x q ≡ true → le x (abs_of q) ≡ true
unfolding le lt eq abs_of
at_most_abs nan q h = absurd (true≢false (sym h))
at_most_abs (inf s) nan h = absurd (true≢false (sym h))
at_most_abs (inf true) (inf t) h = refl
at_most_abs (inf false) (inf true) h = absurd (true≢false (sym h))
at_most_abs (inf false) (inf false) h = refl
at_most_abs (inf true) (fin t n d) h = refl
at_most_abs (inf false) (fin t n d) h = absurd (true≢false (sym h))
at_most_abs (fin s m e) nan h = absurd (true≢false (sym h))
at_most_abs (fin s m e) (inf t) h = refl
at_most_abs (fin s m e) (fin true n d) h = at_most_level s (m * up e * down d) (n * up d * down e) h
at_most_abs (fin s m e) (fin false n d) h = h

-- in magnitude, but where a positive value meets a negative one
shown : (q h : Float) → T (fits binary32 q) → T (fits binary32 h) → le (mul binary64 h h) (abs_of q) ≡ true → T (not (is_nan q)) → (sign_bit q ≡ false → sign_bit h ≡ true → ⊥)
    → nearer (signed_root q) h ≡ false
shown q h fq fh t n s =
    not_nearer (signed_root q) h
    (ap (λ (v : Float). v ≺ abs_of h) (magnitude_is q fq n)
    ∙ not_below_lem (abs_of q) (abs_of h) (abs_fits q fq) (abs_fits h fh) (ap (λ (v : Float). le v (abs_of q)) (sym (own_square h)) ∙ t))
    (λ e. s (sym (sign_is q fq n) ∙ e))

-- what lies above 0 has no sign bit
pub above_bare : (x : Float) → T (fits binary32 x) → (f0 ≺ x) ≡ true → sign_bit x ≡ false
above_bare x f h = distance_sign x (unsigned_distance x f (above_zero_lem x f h).0)

-- and what lies below it has one
below_signed : (x : Float) → (x ≺ f0) ≡ true → sign_bit x ≡ true
unfolding lt of_bits
below_signed nan h = absurd (true≢false (sym h))
below_signed (inf s) h = h
below_signed (fin true m e) h = refl
below_signed (fin false m e) h = absurd (omega (arith, ltb-true (m * up e * 1) (0 * down e) h))

at_most_size : (x q : Float) (b : Bool) → le x (if b then neg q else q) ≡ true → le x (abs_of q) ≡ true
at_most_size x q true h = ap (le x) (sym (neg_abs q)) ∙ at_most_abs x (neg q) h
at_most_size x q false h = at_most_abs x q h

size_number : (q : Float) (b : Bool) → T (not (is_nan (if b then neg q else q))) → T (not (is_nan q))
size_number q true n = subst (λ (t : Bool). T (not t)) (neg_nan q) n
size_number q false n = n

module _ (q h : Float) (t : at_least_square (size_of q) h ≡ true) where
  pub shown_number : T (not (is_nan q))
  shown_number = size_number q (q ≺ neg q) (at_most_number (mul binary64 h h) (size_of q) t)

  pub shown_size : T (fits binary32 q) → T (fits binary32 h) → ((f0 ≺ h) || (q ≺ f0)) ≡ true → nearer (signed_root q) h ≡ false
  shown_size fq fh s = shown q h fq fh (at_most_size (mul binary64 h h) q (q ≺ neg q) t) shown_number (by (f0 ≺ h) (q ≺ f0) refl refl s)
    where
      by : (a b : Bool) → (f0 ≺ h) ≡ a → (q ≺ f0) ≡ b → (a || b) ≡ true → sign_bit q ≡ false → sign_bit h ≡ true → ⊥
      by true b e f o z m = true≢false (sym m ∙ above_bare h fh e)
      by false true e f o z m = true≢false (sym (below_signed q f) ∙ z)
      by false false e f o z m = true≢false (sym o)
