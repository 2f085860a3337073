-- One number, one refusal: so two answers that come to one reply are one answer. Assumes nothing.
use Prim.Native.Nat.{ℕ}
use mathlib.Core.Path.{◌≡◌, refl, sym, ap, ◌∙◌}
use mathlib.Core.Bool.{cond}
use lib.Dec.{eqb}
use Rattle.std.specs.Prelude.{Result, Ok, Err}
use Rattle.refusals.specs.declared.Refusal.{Refusal}
use Rattle.refusals.specs.declared.Refusal.TheVariants as Is
use Rattle.refusals.specs.Numbers.{number_of, Reply, reply_of, refused, given}

-- the refusal that has the number, where one has it
refusal_of : ℕ → Refusal
refusal_of n =
    cond (eqb n 1) Is.OutOfBounds (
    cond (eqb n 2) Is.WrongVertices (
    cond (eqb n 3) Is.TooManyTriangles (
    cond (eqb n 4) Is.NoSuchIndex (
    cond (eqb n 5) Is.WrongLength (
    cond (eqb n 6) Is.NotANumber (
    cond (eqb n 7) Is.QueueFull (
    cond (eqb n 8) Is.PopsSpent (
    cond (eqb n 9) Is.Unreadable (
    cond (eqb n 10) Is.OffGrid (
    cond (eqb n 11) Is.WrongFile (
    cond (eqb n 12) Is.TooManyFacets (
    cond (eqb n 13) Is.Strip (
    cond (eqb n 14) Is.NoSuchEdition (
    cond (eqb n 15) Is.WrongIndexLength (
    Is.StaleIndex)))))))))))))))

numbered : (r : Refusal) → refusal_of (number_of r) ≡ r
unfolding refusal_of
numbered Is.OutOfBounds = refl
numbered Is.WrongVertices = refl
numbered Is.TooManyTriangles = refl
numbered Is.NoSuchIndex = refl
numbered Is.WrongLength = refl
numbered Is.NotANumber = refl
numbered Is.QueueFull = refl
numbered Is.PopsSpent = refl
numbered Is.Unreadable = refl
numbered Is.OffGrid = refl
numbered Is.WrongFile = refl
numbered Is.TooManyFacets = refl
numbered Is.Strip = refl
numbered Is.NoSuchEdition = refl
numbered Is.WrongIndexLength = refl
numbered Is.StaleIndex = refl

one_refusal : (r s : Refusal) → number_of r ≡ number_of s → r ≡ s
one_refusal r s e = sym (numbered r) ∙ ap refusal_of e ∙ numbered s

refused_same : {A : Type 0} {m n : ℕ} → ◌≡◌ {A = Reply A} (refused m) (refused n) → m ≡ n
refused_same e = cc

given_same : {A : Type 0} {v w : A} → ◌≡◌ {A = Reply A} (given v) (given w) → v ≡ w
given_same e = cc

pub one_reply : {A : Type 0} (a b : Result A Refusal) → reply_of a ≡ reply_of b → a ≡ b
one_reply (Ok v) (Ok w) e = ap Ok (given_same e)
one_reply (Err r) (Err s) e = ap Err (one_refusal r s (refused_same e))
one_reply (Ok v) (Err s) e = absurd (cc)
one_reply (Err r) (Ok w) e = absurd (cc)
