-- What the code answers is known by its number: no refusal has the number 0, and no two have one. So what is one by its number is one. Assumes
-- nothing.
use Prim.Native.Nat.{ℕ}
use mathlib.Core.Path.{◌≡◌, refl, sym, ap}
use mathlib.Core.List.{List}
use Rattle.std.specs.Prelude.{Ok, Err}
use Rattle.refusals.specs.Numbers.{refused, reply_of, refusal_number}
use Rattle.job_checks.proofs.HandedUp.{not_0}
use Rattle.job_outcome.proofs.OneReply.{one_reply}
use Rattle.facet_index.specs.Index.{Index}
use Rattle.facet_meaning.specs.OneAnswer.{Answer, OneBuildAnswered, OneUpdateAnswered}
use Rattle.facet_meaning.proofs.Theorem.{one_build, one_update}

same_reply : (a b : Answer) → refusal_number a ≡ refusal_number b → reply_of a ≡ reply_of b
same_reply (Ok v) (Ok w) e = refl
same_reply (Err r) (Err s) e = ap refused e
same_reply (Ok v) (Err s) e = absurd (not_0 s (sym e) refl)
same_reply (Err r) (Ok w) e = absurd (not_0 r e refl)

-- so what is said of two numbers is said of two answers
pub one_number : (a b : Answer) → refusal_number a ≡ refusal_number b → a ≡ b
one_number a b e = one_reply a b (same_reply a b e)

pub one_build_answered : (t : ℕ) (names : List ℕ) (lent : Index) (answer : Answer) (left lent' : Index) (answer' : Answer) (left' : Index)
    → OneBuildAnswered t names lent answer left lent' answer' left'
one_build_answered t names lent answer left lent' answer' left' b b' same =
    one_number answer answer' (one_build t names lent (refusal_number answer) left lent' (refusal_number answer') left' b b' same).numbers

pub one_update_answered : (t : ℕ) (old names : List ℕ) (lent : Index) (answer : Answer) (left : Index) (answer' : Answer) (left' : Index)
    → OneUpdateAnswered t old names lent answer left answer' left'
one_update_answered t old names lent answer left answer' left' u u' =
    one_number answer answer' (one_update t old names lent (refusal_number answer) left (refusal_number answer') left' u u').0
