-- How an answer about a scanner's file reaches C. The outcome is that of crate `stl`, unchanged. Definitions only.
use Rattle.std.specs.Prelude.{ℕ, ◌≡◌, List}
use Rattle.refusals.specs.Numbers.{Reply}
use Rattle.stl.specs.Reply.{FileOutcome, stl_number, stl_facets}
use Rattle.c_stl.specs.declared.SdfStlAnswer.{SdfStlAnswer}

-- document 02's number and facets for each case of the reply
abbrev pub stl_out : Reply ℕ → SdfStlAnswer
stl_out a = record { number = stl_number a; facets = stl_facets a }

-- what a call for C promises: its answer, and what it leaves in the lent buffer, are those of the outcome
pub record GivesStl {A : Type 0} (o : FileOutcome A) (answer : SdfStlAnswer) (left : List A) : Type 0 where
  pub answers : answer ≡ stl_out o.answer
  pub leaves : left ≡ o.left
