-- The three ways of an offer: the distance is a NaN, it is no smaller than what the cell holds, or the cell takes the triangle. Each is the
-- definition with its tests put in. Assumes nothing.
use Prim.Native.Nat.{ℕ}
use mathlib.Core.Path.{◌≡◌, refl, sym, ap, ◌∙◌, subst}
use mathlib.Core.Bool.{Bool, true, false, not}
use lib.Dec.{T}
use lib.Ieee.{Float, nan, inf, fin, is_nan, ne, lt}
use lib.Ieee.Compare.{differs_from_itself}
use Rattle.float.specs.Arith.{◌≺◌}
use Rattle.float_order.specs.Nearer.{nearer}
use Rattle.lists.specs.Turns.{Turn, goes, refuses}
use Rattle.queue.specs.declared.Entry.{Entry}
use Rattle.run.specs.Run.{State, held, entry, takes, offer_at}

module _ (also : Entry → State → Turn State) (k c : ℕ) (d : Float) (s : State) where
  pub offer_nan : is_nan d ≡ true → offer_at also k c d s ≡ refuses 6
  unfolding offer_at
  offer_nan n = rw n

  pub offer_passed : is_nan d ≡ false → nearer d (held s c) ≡ false → offer_at also k c d s ≡ goes s
  unfolding offer_at
  offer_passed n h = rw (n, h)

  pub offer_taken : is_nan d ≡ false → nearer d (held s c) ≡ true → offer_at also k c d s ≡ also (entry d c k) (takes c k d s)
  unfolding offer_at
  offer_taken n h = rw (n, h)

-- the test `x != x`
pub is_nan_lem : (x : Float) → ne x x ≡ true → is_nan x ≡ true
unfolding is_nan
is_nan_lem x h = ap is_nan (differs_from_itself x (subst T (sym h) tt))

pub is_number : (x : Float) → ne x x ≡ false → is_nan x ≡ false
unfolding ne is_nan
is_number nan h = h
is_number (inf s) h = refl
is_number (fin s m e) h = refl

-- what is no NaN, by a test and by its negation
pub no_nan : (x : Float) → is_nan x ≡ false → T (not (is_nan x))
no_nan x h = subst (λ (b : Bool). T (not b)) (sym h) tt

-- what is smaller than something is no NaN
pub less_no_nan : (x y : Float) → (x ≺ y) ≡ true → T (not (is_nan x))
unfolding is_nan lt
less_no_nan nan y h = absurd (subst T (sym h) tt)
less_no_nan (inf s) y h = tt
less_no_nan (fin s m e) y h = tt

-- what was told of a value is so of the one that it is
pub told_nearer : {d x : Float} {b t : Bool} (h : Float) → d ≡ x → b ≡ nearer d h → b ≡ t → nearer x h ≡ t
told_nearer h e f g = ap (λ (v : Float). nearer v h) (sym e) ∙ sym f ∙ g
