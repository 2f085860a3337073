-- What callers cite of `order`. With neither sign bit set it goes by the values alone (`less_exactly`, `greater_exactly`, `level_exactly`). Asked the
-- other way round it answers the opposite, and it answers Equal for one and the same pattern alone; with `total_order` that makes it a total order
-- on the values that are no NaN. Assumes nothing.
use Rattle.std.specs.Prelude.{if◌then◌else◌}
use Prim.Native.Nat.{ℕ, ◌<◌}
use native.Mathlib.Nat.{le_of_lt}
use native.Mathlib.Omega.{arith}
use native.Mathlib.Decide.{dec_lt}
use mathlib.Core.Path.{◌≡◌, refl, sym, ap, ◌∙◌}
use mathlib.Core.Logic.{◌↔◌}
use mathlib.Core.Bool.{Bool, true, false, ◌||◌}
use mathlib.Core.Option.{none, some}
use lib.Dec.{ltb}
use lib.Ieee.{Float, binary32, to_bits, is_nan}
use borrow.Author.Tests.{lt-ltb, le-ltb, eqb-true, eq-eqb}
use Rattle.float.specs.Arith.{◌≺◌, ◌≐◌}
use Rattle.float.specs.Distance.{Distance}
use Rattle.float.proofs.Order.{same_bits, distance_no_nan, distance_eq}
use Rattle.std.specs.declared.cmp.Ordering.{Ordering}
use Rattle.std.specs.declared.cmp.Ordering.TheVariants.{Less, Equal, Greater}
use Rattle.std.specs.Prelude.{Result, Ok, Err}
use Rattle.refusals.specs.Numbers.{number_of}
use Rattle.refusals.specs.declared.Refusal.{Refusal}
use Rattle.refusals.specs.declared.Refusal.TheVariants as Is
use Rattle.float.specs.Steps.{sign_bit}
use Rattle.float_order.specs.Compare.{order, of_numbers}
use Rattle.float_order.specs.Asked.{compared_number, compared_order, Compared}
use Rattle.float_order.specs.Total.{Value, not_greater, opposite}
use Rattle.float.proofs.Magnitude.{distance_sign}
use Rattle.float_order.proofs.Farther.{beyond_at}
use Rattle.float_order.proofs.Signs.{no_sign, pattern, order_same, order_positive, order_negative}
use Rattle.float_order.proofs.Total.{total_order}

-- ---- the other way round

numbers_swapped : (m n : ℕ) → of_numbers n m ≡ opposite (of_numbers m n)
numbers_swapped m n = go (dec_lt m n) (dec_lt n m)
  where
    go : Dec (m < n) → Dec (n < m) → (if ltb n m then Less else (if ltb m n then Greater else Equal)) ≡ opposite (if ltb m n then Less else (if ltb n m then Greater else Equal))
    go (yes h) k = rw (lt-ltb m n h, le-ltb n m (le_of_lt h))
    go (no h) (yes k) = rw (le-ltb m n (le_of_lt k), lt-ltb n m k)
    go (no h) (no k) = rw (le-ltb m n (omega arith), le-ltb n m (omega arith))

opposite_if : (t : Bool) (o p : Ordering) → (if t then opposite o else opposite p) ≡ opposite (if t then o else p)
opposite_if true o p = refl
opposite_if false o p = refl

pub order_swapped : (x y : Value) → order y.float x.float ≡ opposite (order x.float y.float)
order_swapped x y = go (sign_bit x.float) (sign_bit y.float) refl refl
  where
    same : sign_bit x.float ≡ sign_bit y.float → order y.float x.float ≡ opposite (order x.float y.float)
    same e = order_same y x (sym e) ∙ numbers_swapped (pattern x) (pattern y) ∙ ap opposite (sym (order_same x y e))

    go : (s t : Bool) → sign_bit x.float ≡ s → sign_bit y.float ≡ t → order y.float x.float ≡ opposite (order x.float y.float)
    go true true p q = same (p ∙ sym q)
    go false false p q = same (p ∙ sym q)
    go false true p q = order_negative y x q p ∙ opposite_if (beyond_at (pattern x) (pattern y)) Greater Less ∙ ap opposite (sym (order_positive x y p q))
    go true false p q = order_positive y x q p ∙ opposite_if (beyond_at (pattern y) (pattern x)) Less Greater ∙ ap opposite (sym (order_negative x y p q))

-- a value compared less with another is what the other compares greater with
pub less_greater : (x y : Value) → (order x.float y.float ≡ Less) ↔ (order y.float x.float ≡ Greater)
less_greater x y = (λ h. order_swapped x y ∙ ap opposite h, λ h. order_swapped y x ∙ ap opposite h)

-- ---- Equal for one pattern alone

own_opposite : (o : Ordering) → o ≡ opposite o → o ≡ Equal
own_opposite Less e = cc
own_opposite Equal e = refl
own_opposite Greater e = cc

pub equal_exactly : (x y : Value) → (order x.float y.float ≡ Equal) ↔ (to_bits binary32 x.float ≡ to_bits binary32 y.float)
equal_exactly x y = (
  λ h. ap (λ (v : Value). to_bits binary32 v.float) (total_order.antisym x y (ap not_greater h) (ap not_greater (order_swapped x y ∙ ap opposite h))),
  λ h. ap (order x.float) (sym (same_bits x.float y.float x.held y.held h)) ∙ own_opposite (order x.float x.float) (order_swapped x x),
)

-- ---- "with neither sign bit set, only the magnitude decides"

pub less_exactly : (a b : Float) → sign_bit a ≡ false → sign_bit b ≡ false → (order a b ≡ Less) ↔ ((a ≺ b) ≡ true)
less_exactly a b p q = (
  λ h. from (a ≺ b) (b ≺ a) (sym (no_sign a b p q) ∙ h),
  λ h. no_sign a b p q ∙ ap (λ (t : Bool). if t then Less else (if b ≺ a then Greater else Equal)) h,
)
  where
    from : (s t : Bool) → (if s then Less else (if t then Greater else Equal)) ≡ Less → s ≡ true
    from true t h = refl
    from false true h = cc
    from false false h = cc

-- a distance is such a value
abbrev pub of_distance : (x : Float) → Distance x → Value
of_distance x d = record { float = x; held = d.held; number = distance_no_nan x d }

module _ (a b : Float) (p : Distance a) (q : Distance b) where
  pub greater_exactly : (order a b ≡ Greater) ↔ ((b ≺ a) ≡ true)
  greater_exactly =
      let s = less_greater (of_distance b q) (of_distance a p) in
      let l = less_exactly b a (distance_sign b q) (distance_sign a p) in
      (λ h. l.0 (s.1 h), λ h. s.0 (l.1 h))

  pub level_exactly : (order a b ≡ Equal) ↔ ((a ≐ b) ≡ true)
  level_exactly =
      let s = equal_exactly (of_distance a p) (of_distance b q) in (
        λ h. distance_eq a b p q ∙ eq-eqb (to_bits binary32 a) (to_bits binary32 b) (s.0 h),
        λ h. s.1 (eqb-true (to_bits binary32 a) (to_bits binary32 b) (sym (distance_eq a b p q) ∙ h)),
      )

-- ---- an answer asked by itself is determined

-- 6 is the number of one refusal alone
not_a_number : (r : Refusal) → number_of r ≡ 6 → r ≡ Is.NotANumber
not_a_number Is.OutOfBounds e = cc
not_a_number Is.WrongVertices e = cc
not_a_number Is.TooManyTriangles e = cc
not_a_number Is.NoSuchIndex e = cc
not_a_number Is.WrongLength e = cc
not_a_number Is.NotANumber e = refl
not_a_number Is.QueueFull e = cc
not_a_number Is.PopsSpent e = cc
not_a_number Is.Unreadable e = cc
not_a_number Is.OffGrid e = cc
not_a_number Is.WrongFile e = cc
not_a_number Is.TooManyFacets e = cc
not_a_number Is.Strip e = cc
not_a_number Is.NoSuchEdition e = cc
not_a_number Is.WrongIndexLength e = cc
not_a_number Is.StaleIndex e = cc

-- the number and the order that an answer gives say which answer it is
decided : (r : Result Ordering Refusal) (t : Bool) (o : Ordering) → compared_number r ≡ (if t then 6 else 0) → compared_order r ≡ (if t then none else some o) → r ≡ (if t then Err Is.NotANumber else Ok o)
decided (Ok p) true o n e = cc
decided (Ok p) false o n e = cc
decided (Err r) true o n e = ap Err (not_a_number r n)
decided (Err r) false o n e = cc

pub answered : (a b : Float) (r : Result Ordering Refusal) → Compared a b r → r ≡ (if is_nan a || is_nan b then Err Is.NotANumber else Ok (order a b))
answered a b r h = decided r (is_nan a || is_nan b) (order a b) h.number h.value

pub one_answer : (a b : Float) (r s : Result Ordering Refusal) → Compared a b r → Compared a b s → r ≡ s
one_answer a b r s h k = answered a b r h ∙ sym (answered a b s k)
