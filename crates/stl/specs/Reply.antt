-- The replies of reading and writing (document 02, §1), in their order, and what a call comes to: its answer, and what the lent buffer then
-- holds. Definitions only.
use Rattle.std.specs.Prelude.{ℕ, zero, suc, ◌*◌, ◌/◌, ◌%◌, ◌≡◌, Bool, not, ◌||◌, List, [], ◌∷◌, ◌++◌, ltb, eqb, length, Float, Result}
use Rattle.lists.specs.Checks.{Check, first_that_applies}
use Rattle.refusals.specs.declared.Refusal.{Refusal}
use Rattle.refusals.specs.Numbers.{Reply, refused, given, reply_of, refusal_number}
use Rattle.float_bits.specs.Patterns.{bits_of}
use Rattle.stl.specs.File.{count_in, length_for, corners_in, facets_in, stl_of}

-- ---- the checks

-- 11: "file shorter than 84 bytes or of a length other than 84 + 50 × count"
abbrev pub wrong_file : List ℕ → Bool
wrong_file file = ltb (length file) 84 || not (eqb (length file) (length_for (count_in file)))

-- 12: "count above 131,072"
abbrev pub too_many : ℕ → Bool
too_many facets = ltb 131072 facets

-- 11, then 12: what is asked of a file before a buffer is lent
abbrev pub file_checks : List ℕ → List Check
file_checks file = record { applies = wrong_file file; number = 11 } ∷ record { applies = too_many (count_in file); number = 12 } ∷ []

-- then 5: "vertex buffer not nine numbers a facet"
abbrev pub buffer_checks : List ℕ → ℕ → List Check
buffer_checks file numbers = record { applies = not (eqb numbers (9 * count_in file)); number = 5 } ∷ []

-- "writing, 2, numbers not a multiple of nine; then 12; then 5, file buffer not of the exact length"
abbrev pub writing_checks : ℕ → ℕ → List Check
writing_checks numbers bytes =
    record { applies = not (eqb (numbers % 9) 0); number = 2 } ∷
    record { applies = too_many (numbers / 9); number = 12 } ∷
    record { applies = not (eqb bytes (length_for (numbers / 9))); number = 5 } ∷
    []

-- ---- the answer, and what the lent buffer then holds

-- the number of a reply, 0 where nothing is refused; and the facets found, read or written, 0 on a refusal
abbrev pub stl_number : Reply ℕ → ℕ
stl_number (refused n) = n
stl_number (given facets) = 0

abbrev pub stl_facets : Reply ℕ → ℕ
stl_facets (refused n) = 0
stl_facets (given facets) = facets

-- a refusal by n, or, where n is 0, so many facets
abbrev pub answer_by : ℕ → ℕ → Reply ℕ
answer_by zero facets = given facets
answer_by (suc n) facets = refused (suc n)

-- "no buffer is changed" where n is not 0
abbrev pub left_by : {A : Type 0} → ℕ → List A → List A → List A
left_by zero made lent = made
left_by (suc n) made lent = lent

pub record FileOutcome (A : Type 0) : Type 0 where
  pub answer : Reply ℕ
  pub left : List A

abbrev pub outcome_by : {A : Type 0} → ℕ → ℕ → List A → List A → FileOutcome A
outcome_by n facets made lent = record { answer = answer_by n facets; left = left_by n made lent }

-- how many facets a file has
abbrev pub counting : List ℕ → Reply ℕ
counting file = answer_by (first_that_applies (file_checks file)) (count_in file)

-- a file read into a lent buffer: "corners become vertices in order, with no indices"
abbrev pub reading : List ℕ → List Float → FileOutcome Float
reading file lent = outcome_by (first_that_applies (file_checks file ++ buffer_checks file (length lent))) (count_in file) (corners_in file) lent

-- corners written into a lent file
abbrev pub writing : List Float → List ℕ → FileOutcome ℕ
writing vertices lent =
    outcome_by (first_that_applies (writing_checks (length vertices) (length lent))) (facets_in vertices) (stl_of (bits_of vertices)) lent

-- what a call promises: its answer, with number and facets, and what it leaves in the lent buffer are those of the outcome
pub record FileGives {A : Type 0} (o : FileOutcome A) (answer : Result ℕ Refusal) (left : List A) : Type 0 where
  pub answers : reply_of answer ≡ o.answer
  pub numbers : refusal_number answer ≡ stl_number o.answer
  pub facets : stl_facets (reply_of answer) ≡ stl_facets o.answer
  pub leaves : left ≡ o.left
