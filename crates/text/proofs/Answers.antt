-- Where a program owes an input one output, what it answered is that output: for a caller that compares bytes. Assumes nothing.
use Prim.Native.Nat.{ℕ}
use mathlib.Core.Path.{◌≡◌, sym, ◌∙◌, subst}
use mathlib.Core.List.{List}
use lib.ListN.{take}
use Rattle.text.specs.Answering.{Answered}

module _ {Owes : List ℕ → List ℕ → Type 0} {input old new : List ℕ} {n : ℕ} (a : Answered Owes input old new n) (output : List ℕ) where
  pub is_owed : take n new ≡ output → Owes input output
  is_owed e = subst (Owes input) (sym a.put.front ∙ e) a.owes

  pub owed_is : ((o p : List ℕ) → Owes input o → Owes input p → o ≡ p) → Owes input output → take n new ≡ output
  owed_is one w = a.put.front ∙ one a.output output a.owes w
