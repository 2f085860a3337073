-- "Refusals: 2, 13, 3, 4, then 5 for lent lengths, all before any change" (document 02, §10), of a call; and one outcome. Definitions only;
-- proofs/Theorem.antt shows that they hold (`refused_after_call`, `one_outcome_by_replies`, `one_outcome_tidy`, and from C).
use Rattle.std.specs.Prelude.{ℕ, ◌≡◌, Result}
use mathlib.Core.List.{List, [], ◌∷◌, Memᴰ}
use Rattle.mesh.specs.Mesh.{Mesh}
use Rattle.refusals.specs.declared.Refusal.{Refusal}
use Rattle.refusals.specs.Numbers.{Reply, refused, reply_of}
use Rattle.tidy_mesh.specs.declared.Kept.{Kept}
use Rattle.tidy_mesh.specs.Outcome.{TidyLent, outputs_of, tidy_refusal, tidy_number, vertices_kept, triangles_kept, tidy_outcome, GivesTidy}
use Rattle.c_tidy.specs.declared.SdfTidyAnswer.{SdfTidyAnswer}
use Rattle.c_tidy.specs.Tidy.{GivesTidyC}

-- all the numbers, in the order of the checks
abbrev pub tidy_numbers : List ℕ
tidy_numbers = 2 ∷ 13 ∷ 3 ∷ 4 ∷ 5 ∷ []

-- m was refused by j, with the outputs b lent: the first check that applies has this number, and nothing is changed
pub record TidyRefused (m : Mesh) (b : TidyLent) (j : ℕ) (left : TidyLent) : Type 0 where
  pub first_check : j ≡ tidy_refusal m b
  pub one_of : Memᴰ j tidy_numbers
  pub unchanged : left ≡ b

-- of a call of the public function, by the reply that its answer is; both counts are 0
abbrev pub RefusedAfterCall : Mesh → TidyLent → Reply Kept → TidyLent → Type 0
RefusedAfterCall m b answer left =
    GivesTidy (tidy_outcome m b) answer left → (j : ℕ) → answer ≡ refused j
    → TidyRefused m b j left × (vertices_kept answer ≡ 0) × (triangles_kept answer ≡ 0)

-- of a call from C: any number but 0 is a refusal
abbrev pub RefusedAfterCallFromC : Mesh → TidyLent → SdfTidyAnswer → TidyLent → Type 0
RefusedAfterCallFromC m b answer left =
    GivesTidyC (tidy_outcome m b) answer left → (answer.number ≡ 0 → ⊥)
    → TidyRefused m b answer.number left × (answer.vertices ≡ 0) × (answer.triangles ≡ 0)

-- ---- one outcome

-- Two calls agree in the answer. They agree in what they leave, where they tidy, so number 0, or where the outputs held the same; a refused
-- call leaves what it was lent.
pub record SameTidying {A : Type 0} (answer answer' : A) (number : ℕ) (b left b' left' : TidyLent) : Type 0 where
  pub answers : answer ≡ answer'
  pub tidied_alike : number ≡ 0 → left ≡ left'
  pub lent_alike : b ≡ b' → left ≡ left'

-- so it is of the replies of calls with one mesh and outputs of the same lengths, whatever the outputs held
abbrev pub OneOutcomeByReplies : Mesh → TidyLent → Reply Kept → TidyLent → TidyLent → Reply Kept → TidyLent → Type 0
OneOutcomeByReplies m b answer left b' answer' left' =
    GivesTidy (tidy_outcome m b) answer left → GivesTidy (tidy_outcome m b') answer' left' → outputs_of b ≡ outputs_of b'
    → SameTidying answer answer' (tidy_number answer) b left b' left'

-- and of the answers of such calls of the public function, by its contract
abbrev pub OneOutcomeTidy : Mesh → TidyLent → Result Kept Refusal → TidyLent → TidyLent → Result Kept Refusal → TidyLent → Type 0
OneOutcomeTidy m b answer left b' answer' left' =
    GivesTidy (tidy_outcome m b) (reply_of answer) left → GivesTidy (tidy_outcome m b') (reply_of answer') left' → outputs_of b ≡ outputs_of b'
    → SameTidying answer answer' (tidy_number (reply_of answer)) b left b' left'

abbrev pub OneOutcomeTidyFromC : Mesh → TidyLent → SdfTidyAnswer → TidyLent → TidyLent → SdfTidyAnswer → TidyLent → Type 0
OneOutcomeTidyFromC m b answer left b' answer' left' =
    GivesTidyC (tidy_outcome m b) answer left → GivesTidyC (tidy_outcome m b') answer' left' → outputs_of b ≡ outputs_of b'
    → SameTidying answer answer' answer.number b left b' left'
