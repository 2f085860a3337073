-- What the end of a run gives: a refusal, or a run that is done; and that it is told by the lengths of the lent buffers alone. Assumes
-- nothing.
use Prim.Native.Nat.{ℕ}
use mathlib.Core.Path.{◌≡◌, sym, ap, ◌∙◌, subst}
use mathlib.Core.List.{List}
use lib.ListN.{replicate}
use lib.Ieee.{Float}
use Rattle.lists.specs.Turns.{Turn, goes, refuses, told}
use Rattle.lists.proofs.Turns.{told_goes, told_refuses}
use Rattle.terms.specs.declared.SignMethod.{SignMethod}
use Rattle.grid.specs.declared.Grid.{Grid}
use Rattle.mesh.specs.Mesh.{Mesh}
use Rattle.queue.specs.Keys.{by_keys}
use Rattle.queue.specs.Queue.{Held, Cleared}
use Rattle.queue.proofs.Uses.{left_zero}
use Rattle.run.specs.Run.{State, run}
use Rattle.run.specs.Input.{run_input}
use Rattle.run_state.specs.declared.Progress.{Progress}
use Rattle.run_state.specs.Told.{order_in, state_of, Ran}
use Rattle.job_checks.specs.declared.Lengths.{Lengths}
use Rattle.job_checks.specs.Job.{Job, Lent, lent_of}
use Rattle.job_checks.specs.Refusals.{lengths_of}
use Rattle.job_clear.specs.Cleared.{cleared}
use Rattle.job_clear.proofs.Lengths.{all_cleared, same_cleared, cleared_long}
use Rattle.std.specs.Prelude.{Result}
use Rattle.refusals.specs.Numbers.{Reply, refused, given, reply_of}
use Rattle.job_outcome.proofs.OneReply.{one_reply}
use Rattle.job_outcome.specs.declared.Tally.{Tally}
use Rattle.job_outcome.specs.Outcome.{Answer, Outcome, reply_told, number_of, pops_of, peak_of, grazed_of, Gives, GivesReply, filled, tally_of, ended, run_of}
use Rattle.job_outcome.specs.Finished.{Closed}

-- equal answers have one number, pops, peak and total of grazed rays
pub gives : {o : Outcome} {answer : Answer} {left : Lent} → reply_of answer ≡ o.answer → left ≡ o.left → Gives o answer left
gives e l = record { answers = e; number = ap number_of e; pops = ap pops_of e; peak = ap peak_of e; grazed = ap grazed_of e; leaves = l }

pub gives_reply : {o : Outcome} {reply : Reply Tally} {left : Lent} → reply ≡ o.answer → left ≡ o.left → GivesReply o reply left
gives_reply e l = record { answers = e; number = ap number_of e; pops = ap pops_of e; peak = ap peak_of e; grazed = ap grazed_of e; leaves = l }

-- a job's answer gives what was told where it was closed
pub gives_told : {o : Outcome} (r : Result Tally ℕ) {answer : Answer} {left : Lent} → GivesReply o (reply_told r) left → reply_of answer ≡ reply_told r → Gives o answer left
gives_told r h e = gives (e ∙ h.answers) h.leaves

-- ---- what follows the run

-- what a run that came to p gives
abbrev comes_to : Grid → Mesh → SignMethod → ℕ → ℕ → List Float → List ℕ → List ℕ → List ℕ → List ℕ → List ℕ → List ℕ → Progress → Outcome
comes_to g m sign limit edition field names crossings layers ds cs ts p =
    ended (record { grid = g; mesh = m; sign = sign; limit = limit; edition = edition }) (lent_of field names crossings layers ds cs ts) (told p.number (state_of (order_in m) field names ds cs ts p))

-- by what `close` did with all but the queue
module _ (g : Grid) (m : Mesh) (sign : SignMethod) (limit edition : ℕ) (field : List Float) (names crossings layers ds cs ts : List ℕ) (p : Progress)
    {field' : List Float} {names' crossings' layers' : List ℕ} {r : Result Tally ℕ} (closed : Closed g m sign edition p field names crossings layers field' names' crossings' layers' r) where
  pub gives_refused : {ds' cs' ts' : List ℕ} → (p.number ≡ 0 → ⊥) → Cleared ds cs ts ds' cs' ts'
      → GivesReply (comes_to g m sign limit edition field names crossings layers ds cs ts p) (reply_told r) (lent_of field' names' crossings' layers' ds' cs' ts')
  unfolding ended
  gives_refused z q =
      rw (told_refuses p.number (state_of (order_in m) field names ds cs ts p) z)
      (gives_reply (ap reply_told (closed.refused z).0) (all_cleared field names crossings layers ds cs ts (closed.refused z).1 q))

  pub gives_done : p.number ≡ 0 → Ran g field names ds cs ts p
      → GivesReply (comes_to g m sign limit edition field names crossings layers ds cs ts p) (reply_told r) (lent_of field' names' crossings' layers' ds cs ts)
  unfolding ended
  gives_done z ran =
      let h = subst (Held by_keys ds cs ts) (ran.over z) ran.holds.held in
      let q = left_zero ds cs ts h in
      let d = closed.done z in
      rw (told_goes p.number (state_of (order_in m) field names ds cs ts p) z)
      (gives_reply (ap reply_told d.0) (λ i. lent_of (d.2.field i) (d.1 i) (d.2.crossings i) (d.2.rows i) (q.0 i) (q.1 i) (q.2 i)))

-- ---- the same of buffers of the same lengths

pub same_ended : (j : Job) (b c : Lent) (o : Turn State) → lengths_of b ≡ lengths_of c → ended j b o ≡ ended j c o
unfolding ended
same_ended j b c (goes s) e =
    let f = filled j s b in
    λ i. record {
      answer = given (tally_of j s);
      left =
          lent_of f.field f.names f.crossings f.rows (replicate (e i).distances 0) (replicate (e i).cells 0) (replicate (e i).triangles 0);
    }
same_ended j b c (refuses n) e = λ i. record { answer = refused n; left = same_cleared b c e i }

pub same_run : (j : Job) (b c : Lent) → lengths_of b ≡ lengths_of c → run_of j b ≡ run_of j c
same_run j b c e = ap (λ (l : Lengths). run (run_input j.grid j.mesh j.sign l.distances j.limit)) e

pub gives_run : (j : Job) (b c : Lent) {r : Answer} {left : Lent} {o : Turn State} → lengths_of b ≡ lengths_of c → run_of j c ≡ o → Gives (ended j b o) r left
    → Gives (ended j c (run_of j c)) r left
gives_run j b c {r} {left} {o} e q h =
    subst (λ (x : Outcome). Gives x r left) (same_ended j b c o e ∙ ap (ended j c) (sym q)) h

pub gives_cleared : (j : Job) (b c : Lent) {r : Answer} {left : Lent} → c ≡ cleared b → Gives (ended j c (run_of j c)) r left → Gives (ended j b (run_of j b)) r left
gives_cleared j b c e h =
    let l = ap lengths_of e ∙ cleared_long b in
    gives_run j c b l (sym (same_run j c b l)) h

-- ---- "One call has one possible outcome"

pub one_outcome : {o : Outcome} {r r' : Answer} {left left' : Lent} → Gives o r left → Gives o r' left' → (r ≡ r') × (left ≡ left')
one_outcome {o} {r} {r'} p q = (one_reply r r' (p.answers ∙ sym q.answers), p.leaves ∙ sym q.leaves)
