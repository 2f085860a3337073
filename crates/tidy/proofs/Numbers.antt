-- Laws of a triangle's three numbers: what holds of each of them holds of whichever it has, and a renumbering that keeps numbers apart
-- changes none of the tests. Assumes nothing.
use Prim.Native.Nat.{ℕ}
use mathlib.Core.Path.{◌≡◌, refl, ap, subst}
use mathlib.Core.Logic.{◌⊎◌, inl, inr}
use mathlib.Core.Bool.{Bool, true, false, ◌||◌, or-true}
use lib.Dec.{eqb}
use borrow.Author.Tests.{eqb-true, eqb-false, eq-eqb, ne_eqb}
use Rattle.mesh_topology.specs.declared.Triangle.{Triangle}
use Rattle.tidy.specs.Numbers.{renumbered, two_equal_numbers, same_numbers, has_number}

-- P holds of each of the three
pub record On (P : ℕ → Type 0) (t : Triangle) : Type 0 where
  pub a : P t.a
  pub b : P t.b
  pub c : P t.c

pub on_of : (P Q : ℕ → Type 0) (t : Triangle) → ((v : ℕ) → P v → Q v) → On P t → On Q t
on_of P Q t g o = record { a = g t.a o.a; b = g t.b o.b; c = g t.c o.c }

pub on_renumbered : (P Q : ℕ → Type 0) (f : ℕ → ℕ) (t : Triangle) → ((v : ℕ) → P v → Q (f v)) → On P t → On Q (renumbered f t)
unfolding renumbered
on_renumbered P Q f t g o = record { a = g t.a o.a; b = g t.b o.b; c = g t.c o.c }

-- a renumbering that leaves each of the three leaves the triangle
pub renumbered_stays : (f : ℕ → ℕ) (t : Triangle) → On (λ v. f v ≡ v) t → renumbered f t ≡ t
unfolding renumbered
renumbered_stays f t o = λ i. record { a = o.a i; b = o.b i; c = o.c i }

-- ---- one of the three

or_either : (a b : Bool) → (a || b) ≡ true → (a ≡ true) ⊎ (b ≡ true)
or_either true b h = inl refl
or_either false b h = inr h

pub has_on : (P : ℕ → Type 0) (t : Triangle) (v : ℕ) → On P t → has_number t v ≡ true → P v
unfolding has_number
has_on P t v o h = go (or_either (eqb t.a v || eqb t.b v) (eqb t.c v) h)
  where
    two : (eqb t.a v ≡ true) ⊎ (eqb t.b v ≡ true) → P v
    two (inl e) = subst P (eqb-true t.a v e) o.a
    two (inr e) = subst P (eqb-true t.b v e) o.b

    go : ((eqb t.a v || eqb t.b v) ≡ true) ⊎ (eqb t.c v ≡ true) → P v
    go (inl e) = two (or_either (eqb t.a v) (eqb t.b v) e)
    go (inr e) = subst P (eqb-true t.c v e) o.c

pub has_own : (t : Triangle) → On (λ v. has_number t v ≡ true) t
unfolding has_number
has_own t =
    record {
      a = rw (eq-eqb t.a t.a refl);
      b = rw (eq-eqb t.b t.b refl, or-true);
      c = rw (eq-eqb t.c t.c refl, or-true);
    }

-- ---- a renumbering f that keeps the numbers of which P holds apart

module _ (P : ℕ → Type 0) (f : ℕ → ℕ) (apart : (u v : ℕ) → P u → P v → f u ≡ f v → u ≡ v) where
  eqb_renumbered : (u v : ℕ) → P u → P v → eqb (f u) (f v) ≡ eqb u v
  eqb_renumbered u v p q = go (eqb u v) refl
    where
      go : (b : Bool) → eqb u v ≡ b → eqb (f u) (f v) ≡ b
      go true e = eq-eqb (f u) (f v) (ap f (eqb-true u v e))
      go false e = ne_eqb (f u) (f v) (λ h. eqb-false u v e (apart u v p q h))

  pub has_renumbered : (t : Triangle) (v : ℕ) → On P t → P v → has_number (renumbered f t) (f v) ≡ has_number t v
  unfolding has_number renumbered
  has_renumbered t v o p = simp (eqb_renumbered, o.a, o.b, o.c, p)

  pub two_equal_renumbered : (t : Triangle) → On P t → two_equal_numbers (renumbered f t) ≡ two_equal_numbers t
  unfolding two_equal_numbers renumbered
  two_equal_renumbered t o = simp (eqb_renumbered, o.a, o.b, o.c)

  pub same_numbers_renumbered : (s t : Triangle) → On P s → On P t → same_numbers (renumbered f s) (renumbered f t) ≡ same_numbers s t
  unfolding same_numbers renumbered
  same_numbers_renumbered s t o p = simp (eqb_renumbered, o.a, o.b, o.c, p.a, p.b, p.c)
