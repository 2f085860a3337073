-- Words of a line, put one after the other, are the line. Assumes nothing.
use Prim.Native.Nat.{ℕ}
use mathlib.Core.Path.{◌≡◌}
use mathlib.Core.List.{List, [], ◌∷◌, ◌++◌, append_assoc}
use Rattle.text.specs.Words.{space, lf, spaced}

pub three_words : (key a b c : List ℕ) → ((key ++ (a ++ space ∷ [])) ++ (b ++ space ∷ [])) ++ (c ++ lf ∷ []) ≡ key ++ spaced a b c ++ lf ∷ []
three_words key a b c = simp append_assoc

pub two_words : (key a b : List ℕ) → (key ++ (a ++ space ∷ [])) ++ (b ++ lf ∷ []) ≡ key ++ (a ++ space ∷ b) ++ lf ∷ []
two_words key a b = simp append_assoc
