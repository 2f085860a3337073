-- For a function that calls the readers of a line's parts one after the other: what it comes to, from what each call told.
use Prim.Native.Nat.{ℕ, ◌≤◌}
use mathlib.Core.Path.{◌≡◌, sym, ap, ◌∙◌}
use mathlib.Core.Bool.{Bool, true, false, cond}
use mathlib.Core.List.{List}
use borrow.Author.Tests.{leb-true}
use Rattle.text.specs.Words.{space, lf}
use Rattle.text.specs.Reader.{Got, took, nothing, follow, kept, or_try, three, three_numbers, number_line}
use Rattle.text.proofs.Formats.{kept_took}

module _ {A B : Type 0} (f : A → List ℕ → Got B) where
  pub onward : {x : Got A} {a : A} {s : List ℕ} → took a s ≡ x → f a s ≡ follow x f
  unfolding follow
  onward e = ap (λ (g : Got A). follow g f) e

  pub stopped : {x : Got A} → nothing ≡ x → nothing ≡ follow x f
  unfolding follow
  stopped e = ap (λ (g : Got A). follow g f) e

module _ {A : Type 0} (t : A → Bool) {x : Got A} where
  pub passes : {a : A} {s : List ℕ} → true ≡ t a → took a s ≡ x → took a s ≡ kept t x
  unfolding kept
  passes {a = a} {s = s} h e = ap (λ (u : Bool). cond u (took a s) nothing) h ∙ ap (kept t) e

  pub fails : {a : A} {s : List ℕ} → false ≡ t a → took a s ≡ x → nothing ≡ kept t x
  unfolding kept
  fails {a = a} {s = s} h e = ap (λ (u : Bool). cond u (took a s) nothing) h ∙ ap (kept t) e

  pub kept_not : nothing ≡ x → nothing ≡ kept t x
  unfolding kept
  kept_not e = ap (kept t) e

module _ {A : Type 0} {x : Got A} where
  pub the_first : (y : Got A) {a : A} {s : List ℕ} → took a s ≡ x → took a s ≡ or_try x y
  unfolding or_try
  the_first y e = ap (λ (g : Got A). or_try g y) e

  pub the_second : {y z : Got A} → nothing ≡ x → z ≡ y → z ≡ or_try x y
  unfolding or_try
  the_second {y = y} e h = h ∙ ap (λ (g : Got A). or_try g y) e

-- three numbers, each by the reader p
module _ (p : ℕ → List ℕ → Got ℕ) {s : List ℕ} where
  pub three_not : nothing ≡ p space s → nothing ≡ three_numbers p s
  unfolding three_numbers
  three_not e = stopped _ e

  module _ {x : ℕ} {t : List ℕ} (first : took x t ≡ p space s) where
    pub three_not_2 : nothing ≡ p space t → nothing ≡ three_numbers p s
    unfolding three_numbers
    three_not_2 e = stopped _ e ∙ onward _ first

    module _ {y : ℕ} {u : List ℕ} (second : took y u ≡ p space t) where
      pub three_not_3 : nothing ≡ p lf u → nothing ≡ three_numbers p s
      unfolding three_numbers
      three_not_3 e = stopped _ e ∙ onward _ second ∙ onward _ first

      pub three_are : {z : ℕ} {v : List ℕ} → took z v ≡ p lf u → took (three x y z) v ≡ three_numbers p s
      unfolding three_numbers
      three_are e = onward _ e ∙ onward _ second ∙ onward _ first

-- a number that was taken is at most as large as its line allows
pub bounded : (key : List ℕ) (most : ℕ) (s : List ℕ) {n : ℕ} {r : List ℕ} → took n r ≡ number_line key most s → n ≤ most
unfolding number_line
bounded key most s {n = n} {r = r} e = leb-true n most (kept_took _ _ n r (sym e)).0
