-- What a yes or no tells, by cases on it. Assumes nothing.
use mathlib.Core.Path.{◌≡◌, sym}
use mathlib.Core.Bool.{Bool, true, false, true≢false}
use Rattle.facet_index.specs.Told.{Tells}

module _ {A : Type 0} where
  pub told_yes : (b : Bool) → Tells b A → b ≡ true → A
  unfolding Tells
  told_yes true h e = h
  told_yes false h e = absurd (true≢false (sym e))

  pub told_no : (b : Bool) → Tells b A → b ≡ false → A → ⊥
  unfolding Tells
  told_no true h e = absurd (true≢false e)
  told_no false h e = h

  pub tells_yes : A → Tells true A
  unfolding Tells
  tells_yes h = h

  pub tells_no : (A → ⊥) → Tells false A
  unfolding Tells
  tells_no h = h

-- of what is the same
pub tells_same : {A B : Type 0} (b : Bool) → Tells b A → (A → B) → (B → A) → Tells b B
unfolding Tells
tells_same true h f g = f h
tells_same false h f g = λ x. h (g x)
