-- The comparison is a total order on the values that are no NaN. The idea: the values without a sign bit are in the order of their patterns, and so
-- are those with one; a positive i goes behind a negative j exactly where i is beyond j. What is beyond stays so as i grows and as j falls, so
-- the two rows merge into one. Assumes nothing.
use Rattle.std.specs.Prelude.{if◌then◌else◌}
use Prim.Native.Nat.{ℕ, ◌≤◌, ◌<◌}
use native.Mathlib.Nat.{le_trans, le_of_lt, le_antisymm}
use native.Mathlib.Omega.{arith}
use native.Mathlib.Decide.{dec_lt}
use mathlib.Core.Path.{◌≡◌, refl, sym, ap, ap₂, ◌∙◌, subst}
use mathlib.Core.Bool.{Bool, true, false, not, true≢false}
use lib.Dec.{T, T_prop, leb, ltb}
use lib.Ieee.{Float, binary32, fits, is_nan}
use borrow.Author.Tests.{lt-ltb, le-ltb, lt-leb, le-leb, leb-true, leb-false, not-true, not-false}
use Rattle.std.specs.declared.cmp.Ordering.TheVariants.{Less, Equal, Greater}
use Rattle.lists.specs.Total.{Total}
use Rattle.float.specs.Steps.{sign_bit}
use Rattle.float_order.specs.Compare.{of_numbers}
use Rattle.float_order.specs.Total.{Value, not_greater, not_after}
use Rattle.float.proofs.Magnitude.{same_value}
use Rattle.float_order.proofs.Farther.{beyond_at, beyond_up, beyond_down}
use Rattle.float_order.proofs.Signs.{pattern, pattern_small, order_same, order_positive, order_negative}

-- ---- the two rows merged: a sign bit and a pattern go before another

abbrev merged : Bool → ℕ → Bool → ℕ → Bool
merged false i false j = leb i j
merged true i true j = leb i j
merged false i true j = not (beyond_at i j)
merged true i false j = beyond_at j i

merged_total : (s : Bool) (i : ℕ) (t : Bool) (j : ℕ) → merged s i t j ≡ false → merged t j s i ≡ true
merged_total false i false j h = le-leb j i (le_of_lt (leb-false i j h))
merged_total true i true j h = le-leb j i (le_of_lt (leb-false i j h))
merged_total false i true j h = not-false (beyond_at i j) h
merged_total true i false j h = ap not h

leb_trans : (i j k : ℕ) → leb i j ≡ true → leb j k ≡ true → leb i k ≡ true
leb_trans i j k p q = le-leb i k (le_trans (leb-true i j p) (leb-true j k q))

-- a law on `beyond_at` that carries true on carries false back
back : (s t : Bool) → (s ≡ true → t ≡ true) → not t ≡ true → not s ≡ true
back true t f h = absurd (true≢false (sym (f refl) ∙ not-true t h))
back false t f h = refl

clash : (s t : Bool) → (s ≡ true → t ≡ true) → s ≡ true → not t ≡ true → ⊥
clash s t f p q = true≢false (sym (f p) ∙ not-true t q)

not_less : (i k : ℕ) → (k ≤ i → ⊥) → leb i k ≡ true
not_less i k f = go (dec_lt i k)
  where
    go : Dec (i < k) → leb i k ≡ true
    go (yes h) = le-leb i k (le_of_lt h)
    go (no h) = absurd (f (omega arith))

module _ (i j k : ℕ) (p : i ≤ 0x7f80_0000) (q : j ≤ 0x7f80_0000) (r : k ≤ 0x7f80_0000) where
  merged_trans : (s t u : Bool) → merged s i t j ≡ true → merged t j u k ≡ true → merged s i u k ≡ true
  merged_trans false false false h l = leb_trans i j k h l
  merged_trans true true true h l = leb_trans i j k h l
  merged_trans false false true h l = back (beyond_at i k) (beyond_at j k) (beyond_up i j k (leb-true i j h) q r) l
  merged_trans false true true h l = back (beyond_at i k) (beyond_at i j) (beyond_down i k j (leb-true j k l) p r) h
  merged_trans false true false h l = not_less i k (λ m. clash (beyond_at k j) (beyond_at i j) (beyond_up k i j m p q) l h)
  merged_trans true false true h l = not_less i k (λ m. clash (beyond_at j i) (beyond_at j k) (beyond_down j i k m q p) h l)
  merged_trans true true false h l = beyond_down k j i (leb-true i j h) r q l
  merged_trans true false false h l = beyond_up j k i (leb-true j k l) r p h

merged_antisym : (s : Bool) (i : ℕ) (t : Bool) (j : ℕ) → merged s i t j ≡ true → merged t j s i ≡ true → (s ≡ t) × (i ≡ j)
merged_antisym false i false j h l = (refl, le_antisymm (leb-true i j h) (leb-true j i l))
merged_antisym true i true j h l = (refl, le_antisymm (leb-true i j h) (leb-true j i l))
merged_antisym false i true j h l = absurd (true≢false (sym l ∙ not-true (beyond_at i j) h))
merged_antisym true i false j h l = absurd (true≢false (sym h ∙ not-true (beyond_at j i) l))

-- ---- `not_after` is that merge

numbers_first : (m n : ℕ) → not_greater (of_numbers m n) ≡ leb m n
numbers_first m n = go (dec_lt m n) (dec_lt n m)
  where
    go : Dec (m < n) → Dec (n < m) → not_greater (if ltb m n then Less else (if ltb n m then Greater else Equal)) ≡ leb m n
    go (yes h) k = ap (λ (t : Bool). not_greater (if t then Less else (if ltb n m then Greater else Equal))) (lt-ltb m n h) ∙ sym (le-leb m n (le_of_lt h))
    go (no h) (yes k) =
        ap₂ (λ (s : Bool) (t : Bool). not_greater (if s then Less else (if t then Greater else Equal))) (le-ltb m n (omega arith)) (lt-ltb n m k)
        ∙ sym (lt-leb m n k)
    go (no h) (no k) =
        ap₂ (λ (s : Bool) (t : Bool). not_greater (if s then Less else (if t then Greater else Equal))) (le-ltb m n (omega arith)) (le-ltb n m (omega arith))
        ∙ sym (le-leb m n (omega arith))

greater_first : (t : Bool) → not_greater (if t then Greater else Less) ≡ not t
greater_first true = refl
greater_first false = refl

less_first : (t : Bool) → not_greater (if t then Less else Greater) ≡ t
less_first true = refl
less_first false = refl

first_is : (x y : Value) → not_after x y ≡ merged (sign_bit x.float) (pattern x) (sign_bit y.float) (pattern y)
first_is x y = go (sign_bit x.float) (sign_bit y.float) refl refl
  where
    go : (s t : Bool) → sign_bit x.float ≡ s → sign_bit y.float ≡ t → not_after x y ≡ merged s (pattern x) t (pattern y)
    go false false p q = ap not_greater (order_same x y (p ∙ sym q)) ∙ numbers_first (pattern x) (pattern y)
    go true true p q = ap not_greater (order_same x y (p ∙ sym q)) ∙ numbers_first (pattern x) (pattern y)
    go false true p q = ap not_greater (order_positive x y p q) ∙ greater_first (beyond_at (pattern x) (pattern y))
    go true false p q = ap not_greater (order_negative x y p q) ∙ less_first (beyond_at (pattern y) (pattern x))

-- ---- two values with one float are the same

same_float : (x y : Value) → x.float ≡ y.float → x ≡ y
same_float x y e =
    subst (λ (v : Float). (h : T (fits binary32 v)) (n : T (not (is_nan v))) → x ≡ record { float = v; held = h; number = n }) e
    (λ h n. ap₂ (λ (i : T (fits binary32 x.float)) (m : T (not (is_nan x.float))). record { float = x.float; held = i; number = m })
    (T_prop (fits binary32 x.float) x.held h) (T_prop (not (is_nan x.float)) x.number n))
    y.held y.number

pub total_order : Total not_after
total_order = record {
  total = λ x y h. first_is y x ∙ merged_total (sign_bit x.float) (pattern x) (sign_bit y.float) (pattern y) (sym (first_is x y) ∙ h);
  trans = λ x y z h k.
      first_is x z
      ∙ merged_trans (pattern x) (pattern y) (pattern z) (pattern_small x) (pattern_small y) (pattern_small z) (sign_bit x.float) (sign_bit y.float) (sign_bit z.float)
      (sym (first_is x y) ∙ h) (sym (first_is y z) ∙ k);
  antisym = λ x y h k.
      let e = merged_antisym (sign_bit x.float) (pattern x) (sign_bit y.float) (pattern y) (sym (first_is x y) ∙ h) (sym (first_is y x) ∙ k) in
      same_float x y (same_value x.float y.float x.held y.held e.0 e.1);
}
