-- "An update takes the old names, the new ones and the index of the old, and gives what a fresh build from the new gives. Refusals: 3; then 15, starts
-- not triangles + 1 long, over 1,048,576 names, or a list or other names not as long as the names; then 4 for a name, old or new, that is neither a
-- triangle nor none; then, in an update, 18 for an index that is not that of the old names; nothing is changed." (document 02, §12.) Of calls, by their
-- contracts, Builds and Updates: t triangles and the names were given and two slices lent, and this number was answered and this left. Definitions
-- only; proofs/Theorem.antt shows that they hold (`build_answered`, `update_answered`, `asked_after_build`, `asked_after_update`, `as_fresh_build`,
-- `build_then_update`, `update_then_update`, `build_refused`, `update_refused`, `stale_refused`, `one_build`, `one_update`).
use Rattle.std.specs.Prelude.{ℕ, ◌+◌, ◌≤◌, ◌<◌, ◌≡◌, ◌⊎◌, ◌↔◌, length, get_or}
use mathlib.Core.List.{List, [], ◌∷◌, Memᴰ}
use Rattle.lists.specs.Checks.{first_that_applies}
use Rattle.run.specs.Run.{none}
use Rattle.facet_index.specs.Index.{Index, IsIndex}
use Rattle.facet_index.specs.Refusals.{early_checks, Builds, Updates}
use Rattle.facet_index.specs.Asked.{Answers}
use Rattle.facet_meaning.specs.Words.{Named, IndexMeans}

-- ---- what is answered 0

-- no name is "neither a triangle nor none"
abbrev pub Known : ℕ → List ℕ → Type 0
Known t names = (c : ℕ) → c < length names → (get_or names c 0 < t) ⊎ (get_or names c 0 ≡ none)

-- what a build asks for
pub record Buildable (t : ℕ) (names : List ℕ) (lent : Index) : Type 0 where
  pub few_facets : t ≤ 131072
  pub starts_long : length lent.starts ≡ t + 1
  pub few_names : length names ≤ 1048576
  pub list_long : length lent.list ≡ length names
  pub known : Known t names

-- and an update: "the old names, the new ones and the index of the old"
pub record Updatable (t : ℕ) (old names : List ℕ) (lent : Index) : Type 0 where
  pub new : Buildable t names lent
  pub as_many : length old ≡ length names
  pub old_known : Known t old
  pub current : IsIndex t old lent

-- 0 is answered exactly then; and the index is left
pub record Answered (number : ℕ) (Right Made : Type 0) : Type 0 where
  pub when : (number ≡ 0) ↔ Right
  pub made : number ≡ 0 → Made

abbrev pub BuildAnswered : ℕ → List ℕ → Index → ℕ → Index → Type 0
BuildAnswered t names lent number left = Builds t names lent number left → Answered number (Buildable t names lent) (IndexMeans t names left)

abbrev pub UpdateAnswered : ℕ → List ℕ → List ℕ → Index → ℕ → Index → Type 0
UpdateAnswered t old names lent number left =
    Updates t old names lent number left → Answered number (Updatable t old names lent) (IndexMeans t names left)

-- "which cells name a facet", asked of what is left: each number in the answer is a cell that names k, and each such cell is in the answer
abbrev pub Asked : ℕ → List ℕ → Index → ℕ → List ℕ → Type 0
Asked t names i k cells = k < t → Answers k i cells → (c : ℕ) → Memᴰ c cells ↔ Named names k c

abbrev pub AskedAfterBuild : ℕ → List ℕ → Index → Index → ℕ → List ℕ → Type 0
AskedAfterBuild t names lent left k cells = Builds t names lent 0 left → Asked t names left k cells

abbrev pub AskedAfterUpdate : ℕ → List ℕ → List ℕ → Index → Index → ℕ → List ℕ → Type 0
AskedAfterUpdate t old names lent left k cells = Updates t old names lent 0 left → Asked t names left k cells

-- ---- "and gives what a fresh build from the new gives"

-- slices of the same lengths
pub record SameLengths (lent lent' : Index) : Type 0 where
  pub starts : length lent.starts ≡ length lent'.starts
  pub list : length lent.list ≡ length lent'.list

-- The update was answered 0. A build of the new names, whatever was lent to it, leaves the same where it is answered 0; and with slices of the same
-- lengths it is answered 0.
abbrev pub AsFreshBuild : ℕ → List ℕ → List ℕ → Index → Index → Index → ℕ → Index → Type 0
AsFreshBuild t old names lent left lent' number built =
    Updates t old names lent 0 left → Builds t names lent' number built
    → (number ≡ 0 → left ≡ built) × (SameLengths lent lent' → number ≡ 0)

-- An update that is lent what a call left as the index of its old names is not refused by 18; with as many new names, each a triangle or none, it is
-- answered 0.
pub record NotStale (t : ℕ) (old names : List ℕ) (number : ℕ) : Type 0 where
  pub not_18 : number ≡ 18 → ⊥
  pub answered : length names ≡ length old → Known t names → number ≡ 0

abbrev pub BuildThenUpdate : ℕ → List ℕ → List ℕ → Index → Index → ℕ → Index → Type 0
BuildThenUpdate t old names lent i number left = Builds t old lent 0 i → Updates t old names i number left → NotStale t old names number

abbrev pub UpdateThenUpdate : ℕ → List ℕ → List ℕ → List ℕ → Index → Index → ℕ → Index → Type 0
UpdateThenUpdate t older old names lent i number left =
    Updates t older old lent 0 i → Updates t old names i number left → NotStale t old names number

-- ---- "Refusals: .. ; nothing is changed"

-- all the numbers, in the order of the checks
abbrev pub build_numbers : List ℕ
build_numbers = 3 ∷ 15 ∷ 4 ∷ []

abbrev pub update_numbers : List ℕ
update_numbers = 3 ∷ 15 ∷ 4 ∷ 18 ∷ []

pub record RefusedBy (numbers : List ℕ) (lent : Index) (number : ℕ) (left : Index) : Type 0 where
  pub one_of : Memᴰ number numbers
  pub unchanged : left ≡ lent

abbrev pub BuildRefused : ℕ → List ℕ → Index → ℕ → Index → Type 0
BuildRefused t names lent number left = Builds t names lent number left → (number ≡ 0) ⊎ RefusedBy build_numbers lent number left

abbrev pub UpdateRefused : ℕ → List ℕ → List ℕ → Index → ℕ → Index → Type 0
UpdateRefused t old names lent number left = Updates t old names lent number left → (number ≡ 0) ⊎ RefusedBy update_numbers lent number left

-- "18 for an index that is not that of the old names", exactly then, where nothing before it applies
abbrev pub StaleRefused : ℕ → List ℕ → List ℕ → Index → ℕ → Index → Type 0
StaleRefused t old names lent number left =
    Updates t old names lent number left
    → (number ≡ 18) ↔ (first_that_applies (early_checks t old names lent) ≡ 0) × (IsIndex t old lent → ⊥)

-- ---- one outcome

-- two calls agree in the number; and in what they leave, where it is 0, or where the slices held the same
pub record SameOutcome (number number' : ℕ) (lent left lent' left' : Index) : Type 0 where
  pub numbers : number ≡ number'
  pub made_alike : number ≡ 0 → left ≡ left'
  pub lent_alike : lent ≡ lent' → left ≡ left'

-- so it is of builds of the same names in slices of the same lengths, whatever the slices held
abbrev pub OneBuild : ℕ → List ℕ → Index → ℕ → Index → Index → ℕ → Index → Type 0
OneBuild t names lent number left lent' number' left' =
    Builds t names lent number left → Builds t names lent' number' left' → SameLengths lent lent'
    → SameOutcome number number' lent left lent' left'

-- and of updates between the same names that are lent the same
abbrev pub OneUpdate : ℕ → List ℕ → List ℕ → Index → ℕ → Index → ℕ → Index → Type 0
OneUpdate t old names lent number left number' left' =
    Updates t old names lent number left → Updates t old names lent number' left' → (number ≡ number') × (left ≡ left')
