-- One outcome of a build and of an update, of what the code answers: nothing, or a refusal (`OneBuild` and `OneUpdate` of Calls.antt are of its
-- number, and of what is left). Definitions only; proofs/OneAnswer.antt shows that they hold (`one_build_answered`, `one_update_answered`).
use Rattle.std.specs.Prelude.{ℕ, ◌≡◌, List, Result}
use Rattle.refusals.specs.declared.Refusal.{Refusal}
use Rattle.refusals.specs.Numbers.{refusal_number}
use Rattle.facet_index.specs.Index.{Index}
use Rattle.facet_index.specs.Refusals.{Builds, Updates}
use Rattle.facet_meaning.specs.Calls.{SameLengths}

abbrev pub Answer : Type 0
Answer = Result (Unit {0}) Refusal

-- two builds of the same names in slices of the same lengths, whatever the slices held
abbrev pub OneBuildAnswered : ℕ → List ℕ → Index → Answer → Index → Index → Answer → Index → Type 0
OneBuildAnswered t names lent answer left lent' answer' left' =
    Builds t names lent (refusal_number answer) left → Builds t names lent' (refusal_number answer') left' → SameLengths lent lent'
    → answer ≡ answer'

-- two updates between the same names that are lent the same
abbrev pub OneUpdateAnswered : ℕ → List ℕ → List ℕ → Index → Answer → Index → Answer → Index → Type 0
OneUpdateAnswered t old names lent answer left answer' left' =
    Updates t old names lent (refusal_number answer) left → Updates t old names lent (refusal_number answer') left' → answer ≡ answer'
