-- What tidying a mesh means for who calls it. A call that is not refused passed every check, so the laws of the tidied mesh hold, and
-- what it left is that mesh with zeros behind it; so a second call, given what was left, is given the tidied mesh. A call from C answers by
-- the call that it makes. One reply is one answer, so what two calls reply alike they answer alike. Assumes nothing.
use Prim.Native.Nat.{ℕ, suc}
use native.Mathlib.Omega.{arith}
use mathlib.Core.Path.{◌≡◌, sym, ap, ◌∙◌, subst}
use mathlib.Core.List.Memᴰ
use Rattle.std.specs.Prelude.{Result}
use Rattle.lists.specs.Checks.{first_that_applies}
use Rattle.mesh.specs.Mesh.{Mesh}
use Rattle.job_checks.specs.Refusals.{mesh_checks}
use Rattle.job_checks.proofs.MeshPassed.{mesh_passed}
use Rattle.tidy.specs.Tidy.{tidied}
use Rattle.tidy_mesh.specs.declared.Kept.{Kept}
use Rattle.refusals.specs.declared.Refusal.{Refusal}
use Rattle.refusals.specs.Numbers.{Reply, given, reply_of}
use Rattle.job_outcome.proofs.OneReply.{one_reply}
use Rattle.tidy_mesh.specs.Outcome.{TidyLent, vertices_kept, triangles_kept, kept_counts, tidy_outcome, GivesTidy}
use Rattle.c_tidy.specs.declared.SdfTidyAnswer.{SdfTidyAnswer}
use Rattle.c_tidy.specs.Tidy.{tidy_out}
use Rattle.tidy_meaning.specs.Tidied.{mesh_left, OneMeaning, TidiedAfterCall, kept_in, TidiedAfterCallFromC}
use Rattle.tidy_meaning.specs.Second.{TwiceByReplies, TwiceAfterCalls, TwiceAfterCallsFromC, OnlyForLengths, OnlyForLengthsFromC}
use Rattle.tidy_meaning.specs.Refused.{TidyRefused, RefusedAfterCall, RefusedAfterCallFromC, OneOutcomeByReplies, OneOutcomeTidy, OneOutcomeTidyFromC}
use Rattle.tidy_meaning.proofs.Replied.{Replied, as_tidied, as_refused, replied, was_tidied, of_c, tidy_number_of, tidied_for_c, refused_for_c, one_tidy_answer, tidied_left}
use Rattle.tidy_meaning.proofs.Left.{means, only_this}
use Rattle.tidy_meaning.proofs.Second.{Unchanged, ByLengths, unchanged, by_lengths}

-- ---- a call that tidies

pub tidied_after_a_call : (m : Mesh) (b : TidyLent) (answer : Reply Kept) (left : TidyLent) → TidiedAfterCall m b answer left
tidied_after_a_call m b answer left gives k e =
    let w = was_tidied m b k (sym gives.answers ∙ e) in
    rw (w.counts, gives.leaves, w.leaves) (means m (mesh_passed m w.passed).indices)

pub tidied_after_a_call_from_c : (m : Mesh) (b : TidyLent) (answer : SdfTidyAnswer) (left : TidyLent) → TidiedAfterCallFromC m b answer left
tidied_after_a_call_from_c m b answer left gives z = tidied_after_a_call m b _ left (of_c gives) (kept_in answer) (tidied_for_c m b gives z)

pub one_meaning : (m : Mesh) (k : Kept) (left : TidyLent) → OneMeaning m k left
one_meaning m k left p = only_this m k left p

-- ---- a second call

-- what is true of the tidied mesh and its counts is true of the mesh that a call leaves and of the counts that it answers
of_left : (m : Mesh) (b : TidyLent) {answer : Reply Kept} {left : TidyLent} → GivesTidy (tidy_outcome m b) answer left
    → (k : Kept) → answer ≡ given k
    → (P : Mesh → Kept → Type 0) → (first_that_applies (mesh_checks m) ≡ 0 → P (tidied m) (kept_counts m))
    → P (mesh_left k left) k
of_left m b {answer} {left} gives k e P h =
    let w = was_tidied m b k (sym gives.answers ∙ e) in
    subst (λ (n : Mesh). P n k) (sym (tidied_after_a_call m b answer left gives k e).is_tidied)
    (subst (P (tidied m)) (sym w.counts) (h w.passed))

pub twice_by_replies : (m : Mesh) (b : TidyLent) (answer : Reply Kept) (left c : TidyLent) (again : Reply Kept) (second : TidyLent)
    → TwiceByReplies m b answer left c again second
twice_by_replies m b answer left c again second gives k e o more =
    let s = of_left m b gives k e (Unchanged c) (unchanged m c) o in
    (more.answers ∙ s.0 ∙ sym e, rw more.leaves s.1)

pub twice_after_calls : (m : Mesh) (b : TidyLent) (answer : Result Kept Refusal) (left c : TidyLent) (again : Result Kept Refusal)
    (second : TidyLent)
    → TwiceAfterCalls m b answer left c again second
twice_after_calls m b answer left c again second gives k e o more =
    let s = twice_by_replies m b (reply_of answer) left c (reply_of again) second gives k (ap reply_of e) o more in
    (one_reply again answer s.0, s.1)

pub twice_after_calls_from_c : (m : Mesh) (b : TidyLent) (answer : SdfTidyAnswer) (left c : TidyLent) (again : SdfTidyAnswer)
    (second : TidyLent)
    → TwiceAfterCallsFromC m b answer left c again second
twice_after_calls_from_c m b answer left c again second gives z o more =
    let s = twice_by_replies m b _ left c _ second (of_c gives) (kept_in answer) (tidied_for_c m b gives z) o (of_c more) in
    (more.answers ∙ ap tidy_out s.0 ∙ sym gives.answers, s.1)

pub only_for_lengths : (m : Mesh) (b : TidyLent) (answer : Reply Kept) (left c second : TidyLent) → OnlyForLengths m b answer left c second
only_for_lengths m b answer left c second gives k e j more = of_left m b gives k e (ByLengths c) (by_lengths m c) j (sym more.answers)

pub only_for_lengths_from_c : (m : Mesh) (b : TidyLent) (answer : SdfTidyAnswer) (left c : TidyLent) (again : SdfTidyAnswer)
    (second : TidyLent)
    → OnlyForLengthsFromC m b answer left c again second
only_for_lengths_from_c m b answer left c again second gives z more h =
    let k = kept_in answer in
    of_left m b (of_c gives) k (tidied_for_c m b gives z) (ByLengths c) (by_lengths m c)
    again.number (refused_for_c (mesh_left k left) c more h)

-- ---- a call that is refused

pub refused_after_call : (m : Mesh) (b : TidyLent) (answer : Reply Kept) (left : TidyLent) → RefusedAfterCall m b answer left
refused_after_call m b answer left gives j e = (go (replied m b), ap vertices_kept e, ap triangles_kept e)
  where
    go : Replied m b (tidy_outcome m b) → TidyRefused m b j left
    go (as_tidied p a l) = absurd (let g = gives.answers in let z : ◌≡◌ {A = ℕ} 0 1 = cc in omega arith)
    go (as_refused n f i a l) =
        let g = gives.answers in
        let s : j ≡ suc n = cc in
        record { first_check = s ∙ f; one_of = Memᴰ.cast s i; unchanged = gives.leaves ∙ l }

pub refused_after_call_from_c : (m : Mesh) (b : TidyLent) (answer : SdfTidyAnswer) (left : TidyLent) → RefusedAfterCallFromC m b answer left
refused_after_call_from_c m b answer left gives h =
    let r = refused_after_call m b _ left (of_c gives) answer.number (refused_for_c m b gives h) in (
      r.0,
      ap (λ (a : SdfTidyAnswer). a.vertices) gives.answers ∙ r.1,
      ap (λ (a : SdfTidyAnswer). a.triangles) gives.answers ∙ r.2,
    )

-- ---- one outcome

pub one_outcome_by_replies : (m : Mesh) (b : TidyLent) (answer : Reply Kept) (left b' : TidyLent) (answer' : Reply Kept) (left' : TidyLent)
    → OneOutcomeByReplies m b answer left b' answer' left'
one_outcome_by_replies m b answer left b' answer' left' p q e =
    record {
      answers = p.answers ∙ one_tidy_answer m b b' e ∙ sym q.answers;
      tidied_alike = λ z. p.leaves ∙ tidied_left m b b' e (sym p.number ∙ z) ∙ sym q.leaves;
      lent_alike = λ h. p.leaves ∙ ap (λ (x : TidyLent). (tidy_outcome m x).left) h ∙ sym q.leaves;
    }

pub one_outcome_tidy : (m : Mesh) (b : TidyLent) (answer : Result Kept Refusal) (left b' : TidyLent) (answer' : Result Kept Refusal)
    (left' : TidyLent)
    → OneOutcomeTidy m b answer left b' answer' left'
one_outcome_tidy m b answer left b' answer' left' p q e =
    let s = one_outcome_by_replies m b (reply_of answer) left b' (reply_of answer') left' p q e in
    record { answers = one_reply answer answer' s.answers; tidied_alike = s.tidied_alike; lent_alike = s.lent_alike }

pub one_outcome_tidy_from_c : (m : Mesh) (b : TidyLent) (answer : SdfTidyAnswer) (left b' : TidyLent) (answer' : SdfTidyAnswer)
    (left' : TidyLent)
    → OneOutcomeTidyFromC m b answer left b' answer' left'
one_outcome_tidy_from_c m b answer left b' answer' left' p q e =
    let s = one_outcome_by_replies m b _ left b' _ left' (of_c p) (of_c q) e in
    record {
      answers = p.answers ∙ ap tidy_out s.answers ∙ sym q.answers;
      tidied_alike = λ z. s.tidied_alike (sym (tidy_number_of p) ∙ z);
      lent_alike = s.lent_alike;
    }
