-- "Reply numbers" (document 01; document 02 adds those from 10 on): the number of each refusal, and a reply in numbers, as the documents
-- speak of it, that an answer of the code is. Definitions only.
use Rattle.std.specs.Prelude.{ℕ, Result, Ok, Err}
use Rattle.refusals.specs.declared.Refusal.{Refusal}
use Rattle.refusals.specs.declared.Refusal.TheVariants as Is

abbrev pub number_of : Refusal → ℕ
number_of Is.OutOfBounds = 1
number_of Is.WrongVertices = 2
number_of Is.TooManyTriangles = 3
number_of Is.NoSuchIndex = 4
number_of Is.WrongLength = 5
number_of Is.NotANumber = 6
number_of Is.QueueFull = 7
number_of Is.PopsSpent = 8
number_of Is.Unreadable = 9
number_of Is.OffGrid = 10
number_of Is.WrongFile = 11
number_of Is.TooManyFacets = 12
number_of Is.Strip = 13
number_of Is.NoSuchEdition = 14
number_of Is.WrongIndexLength = 15
number_of Is.StaleIndex = 18

-- a reply: document 01's number, or what was asked for
pub data Reply (A : Type 0) : Type 0 where
  refused : ℕ → Reply A
  given : A → Reply A

-- the reply that an answer is
abbrev pub reply_of : {A : Type 0} → Result A Refusal → Reply A
reply_of (Ok v) = given v
reply_of (Err r) = refused (number_of r)

-- "0 where nothing is refused"
abbrev pub refusal_number : {A : Type 0} → Result A Refusal → ℕ
refusal_number (Ok v) = 0
refusal_number (Err r) = number_of r
