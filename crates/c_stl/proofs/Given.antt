-- What reading or writing gave, as C gets it. Assumes nothing.
use mathlib.Core.Path.{◌≡◌, ap, ◌∙◌}
use mathlib.Core.List.{List}
use Prim.Native.Nat.{ℕ}
use Rattle.std.specs.Prelude.{Result}
use Rattle.refusals.specs.declared.Refusal.{Refusal}
use Rattle.refusals.specs.Numbers.{reply_of}
use Rattle.stl.specs.Reply.{FileOutcome, FileGives}
use Rattle.c_stl.specs.declared.SdfStlAnswer.{SdfStlAnswer}
use Rattle.c_stl.specs.Stl.{stl_out, GivesStl}

pub gives_stl : {A : Type 0} {o : FileOutcome A} {a : Result ℕ Refusal} {r : SdfStlAnswer} {left : List A} → r ≡ stl_out (reply_of a) → FileGives o a left → GivesStl o r left
gives_stl e g = record { answers = e ∙ ap stl_out g.answers; leaves = g.leaves }
