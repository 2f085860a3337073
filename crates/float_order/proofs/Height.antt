-- Heights order as `nearer` does. What is nearer than x is nearer than y where x is, and x itself is one of those, but not nearer than itself; and
-- where x is not nearer than y, what is nearer than y is nearer than x. Assumes nothing.
use Prim.Native.Nat.{ℕ, ◌^◌, ◌≤◌, ◌<◌}
use native.Mathlib.Omega.{arith}
use mathlib.Core.Path.{◌≡◌, refl, sym, ap, ◌∙◌}
use mathlib.Core.Bool.{Bool, true, false, true≢false}
use lib.Ieee.{Float, binary32, of_bits, to_bits}
use lib.Ieee.Bits.{of_bits-to_bits, to_bits-lt, of_bits-fits}
use borrow.Author.Tests.{not-true, not-false}
use Rattle.lists.proofs.Range.{count_at_most, count_fewer}
use Rattle.float_order.specs.Total.{Value, not_after}
use Rattle.float_order.specs.Nearer.{nearer, height}
use Rattle.float_order.proofs.Total.{total_order}
use Rattle.float_order.proofs.Nearer.{nearer_after, nearer_number}

-- ---- `nearer` as an order

after : (x y : Value) → nearer x.float y.float ≡ false → not_after y x ≡ true
after x y h = not-false (not_after y x) (sym (nearer_after x y) ∙ h)

before : (x y : Value) → nearer x.float y.float ≡ true → not_after y x ≡ false
before x y h = not-true (not_after y x) (sym (nearer_after x y) ∙ h)

-- what is nearer than z is nearer than x, which z does not go after
nearer_on : (v x z : Value) → not_after z x ≡ true → nearer v.float z.float ≡ true → nearer v.float x.float ≡ true
nearer_on v x z l h = go (nearer v.float x.float) refl
  where
    go : (t : Bool) → nearer v.float x.float ≡ t → t ≡ true
    go true e = refl
    go false e = absurd (true≢false (sym (total_order.trans z x v l (after v x e)) ∙ before v z h))

not_itself : (x : Value) → nearer x.float x.float ≡ false
not_itself x = go (nearer x.float x.float) refl
  where
    go : (t : Bool) → nearer x.float x.float ≡ t → t ≡ false
    go true e = absurd (true≢false (sym (total_order.total x x (before x x e)) ∙ before x x e))
    go false e = refl

-- ---- the count over the patterns

module _ (x y : Value) where
  -- a pattern's value that is nearer than y
  abbrev at : (p : ℕ) → nearer (of_bits binary32 p) y.float ≡ true → Value
  at p h = record { float = of_bits binary32 p; held = of_bits-fits binary32 p; number = nearer_number (of_bits binary32 p) y.float y.held h }

  carried : not_after y x ≡ true → (p : ℕ) → p < 2 ^ 32 → nearer (of_bits binary32 p) y.float ≡ true → nearer (of_bits binary32 p) x.float ≡ true
  carried l p b h = nearer_on (at p h) x y l h

pub height_not_less : (x y : Value) → nearer x.float y.float ≡ false → height y.float ≤ height x.float
unfolding height
height_not_less x y h =
    count_at_most (λ p. nearer (of_bits binary32 p) y.float) (λ p. nearer (of_bits binary32 p) x.float) (2 ^ 32) (carried x y (after x y h))

pub height_less : (x y : Value) → nearer x.float y.float ≡ true → height x.float < height y.float
unfolding height
height_less x y h =
    let own = of_bits-to_bits binary32 x.float x.held in
    count_fewer (λ p. nearer (of_bits binary32 p) x.float) (λ p. nearer (of_bits binary32 p) y.float) (2 ^ 32) (to_bits binary32 x.float)
    (to_bits-lt binary32 x.float x.held)
    (ap (λ (v : Float). nearer v x.float) own ∙ not_itself x)
    (ap (λ (v : Float). nearer v y.float) own ∙ h)
    (carried y x (total_order.total y x (before x y h)))

-- and back
pub height_nearer : (x y : Value) → height x.float < height y.float → nearer x.float y.float ≡ true
height_nearer x y l = go (nearer x.float y.float) refl
  where
    go : (t : Bool) → nearer x.float y.float ≡ t → t ≡ true
    go true e = refl
    go false e = absurd (omega (arith, height_not_less x y e))

pub height_not_nearer : (x y : Value) → height y.float ≤ height x.float → nearer x.float y.float ≡ false
height_not_nearer x y l = go (nearer x.float y.float) refl
  where
    go : (t : Bool) → nearer x.float y.float ≡ t → t ≡ false
    go true e = absurd (omega (arith, height_less x y e))
    go false e = refl
