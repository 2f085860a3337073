-- No number is given otherwise: a job is done, or refused by a number of the checks or of the run; so a refusal's number is one of the eleven, and
-- number 0 means that the job is done. Assumes nothing.
use Prim.Native.Nat.{ℕ, zero, suc, ◌≤◌}
use native.Mathlib.Omega.{arith}
use mathlib.Core.Path.{◌≡◌, refl, sym, ap, ◌∙◌, subst}
use mathlib.Core.Logic.{◌⊎◌, inl, inr}
use mathlib.Core.List.Memᴰ
use mathlib.Core.List.{List, Memᴰ}
use lib.Ieee.{Float}
use lib.Dec.{leb}
use borrow.Author.Tests.{leb-true}
use Rattle.std.specs.Prelude.{Result, Ok, Err, IfErr}
use Rattle.lists.specs.Turns.{Turn, goes, refuses, told}
use Rattle.lists.specs.Every.{every}
use Rattle.lists.specs.OnlyBy.{OnlyBy}
use Rattle.lists.proofs.Every.{every_member}
use Rattle.terms.specs.declared.SignMethod.{SignMethod}
use Rattle.grid.specs.declared.Grid.{Grid}
use Rattle.mesh.specs.Mesh.{Mesh}
use Rattle.run.specs.Run.{State}
use Rattle.run.proofs.Numbers.{run_by}
use Rattle.run_state.specs.declared.Progress.{Progress}
use Rattle.job_checks.specs.Job.{Job, Lent}
use Rattle.job_checks.specs.Refusals.{refusal, refusal_by, lengths_of, checks}
use Rattle.lists.proofs.Checks.{first_is}
use Rattle.refusals.specs.Numbers.{Reply, refused}
use Rattle.job_outcome.specs.declared.Tally.{Tally}
use Rattle.job_outcome.specs.Outcome.{reply_told, GivesReply, tally_of, ended, run_of, unless_refused, outcome, number_of}
use Rattle.job_outcome.specs.Finished.{Closed}
use Rattle.job_outcome.specs.Numbers.{check_numbers, run_numbers, refusal_numbers, RunEnds, IsDone, Replies, done, before_the_run, in_the_run}

-- what the checks come to is 0 or one of their numbers
check_given : (j : Job) (b : Lent) → (refusal j b ≡ 0) ⊎ Memᴰ (refusal j b) (check_numbers j b)
unfolding refusal_by
check_given j b = first_is (checks j.grid j.edition j.mesh (lengths_of b))

-- the run refuses by 6, 7 or 8 alone
run_given : (j : Job) (b : Lent) → OnlyBy (λ n. Memᴰ n run_numbers) (run_of j b)
run_given j b =
    run_by (λ n. Memᴰ n run_numbers) _
    (Memᴰ.head refl)
    (Memᴰ.tail (Memᴰ.head refl))
    (Memᴰ.tail (Memᴰ.tail (Memᴰ.head refl)))

-- so what a run tells is 0, or one of these
pub run_ends : (j : Job) (b : Lent) (n : ℕ) (s : State) → run_of j b ≡ told n s → RunEnds n
unfolding told every
run_ends j b n s e = go n (subst (OnlyBy (λ k. Memᴰ k run_numbers)) e (run_given j b))
  where
    go : (k : ℕ) → OnlyBy (λ i. Memᴰ i run_numbers) (told k s) → RunEnds k
    go zero h = (λ z. absurd (z refl), omega arith)
    go (suc k) h = (λ z. leb-true 6 (suc k) (every_member (leb 6) (suc k) run_numbers refl h), leb-true (suc k) 8 (every_member (λ i. leb i 8) (suc k) run_numbers refl h))

pub replies : (j : Job) (b : Lent) → Replies j b (outcome j b)
unfolding outcome unless_refused ended
replies j b = check (refusal j b) (check_given j b)
  where
    turn : (o : Turn State) → OnlyBy (λ n. Memᴰ n run_numbers) o → Replies j b (ended j b o)
    turn (goes s) h = done (record { tally = tally_of j s; is = refl })
    turn (refuses n) h = in_the_run n h refl refl

    check : (n : ℕ) → (n ≡ 0) ⊎ Memᴰ n (check_numbers j b) → Replies j b (unless_refused n b (ended j b (run_of j b)))
    check zero h = turn (run_of j b) (run_given j b)
    check (suc n) (inl e) = absurd (omega arith)
    check (suc n) (inr m) = before_the_run (suc n) m refl refl

-- ---- the numbers

refused_same : {m n : ℕ} → ◌≡◌ {A = Reply Tally} (refused m) (refused n) → m ≡ n
refused_same e = cc

pub refused_by_lem : (j : Job) (b : Lent) (n : ℕ) → (outcome j b).answer ≡ refused n → Memᴰ n refusal_numbers
refused_by_lem j b n h = go (replies j b)
  where
    go : Replies j b (outcome j b) → Memᴰ n refusal_numbers
    go (done d) = absurd (let e = d.is in let z : ◌≡◌ {A = ℕ} 0 1 = cc in omega arith)
    go (before_the_run k m e l) = Memᴰ.append_left run_numbers (Memᴰ.cast (refused_same (sym h ∙ e)) m)
    go (in_the_run k m e l) = Memᴰ.append_right (check_numbers j b) (Memᴰ.cast (refused_same (sym h ∙ e)) m)

-- none of them is 0
above_0 : (n : ℕ) → Memᴰ n refusal_numbers → 1 ≤ n
unfolding every
above_0 n m = leb-true 1 n (every_member (leb 1) n refusal_numbers refl m)

-- number 0 means that the job is done
pub number_0 : (j : Job) (b : Lent) → number_of (outcome j b).answer ≡ 0 → IsDone (outcome j b).answer
number_0 j b h = go (replies j b)
  where
    go : Replies j b (outcome j b) → IsDone (outcome j b).answer
    go (done d) = d
    go (before_the_run k m e l) = absurd (let w = above_0 k (refused_by_lem j b k e) in omega (arith, ap number_of e))
    go (in_the_run k m e l) = absurd (let w = above_0 k (refused_by_lem j b k e) in omega (arith, ap number_of e))

-- ---- what is told where a run is closed

-- a refusal that `close` told has a number from 6 to 8, if the run ended by one of its numbers
pub closed_told : {g : Grid} {m : Mesh} {sign : SignMethod} {edition : ℕ} (p : Progress) {field field' : List Float} {names crossings layers names' crossings' layers' : List ℕ} (r : Result Tally ℕ)
    → Closed g m sign edition p field names crossings layers field' names' crossings' layers' r → RunEnds p.number → IfErr r (λ k. (6 ≤ k) × (k ≤ 8))
closed_told p r c ends = go p.number refl
  where
    go : (n : ℕ) → p.number ≡ n → IfErr r (λ k. (6 ≤ k) × (k ≤ 8))
    go zero e = rw (c.done e).0 tt
    go (suc n) e = let z : p.number ≡ 0 → ⊥ = λ y. absurd (omega (arith, e, y)) in rw (c.refused z).0 (ends.0 z, ends.1)

-- and so has one that `conclude` told
pub concluded_told : (j : Job) (b : Lent) (n : ℕ) (s : State) (r : Result Tally ℕ) {left : Lent}
    → GivesReply (ended j b (told n s)) (reply_told r) left → RunEnds n → IfErr r (λ k. (6 ≤ k) × (k ≤ 8))
unfolding ended told
concluded_told j b n s (Ok t) h ends = tt
concluded_told j b n s (Err k) h ends = go n h.answers ends
  where
    go : (i : ℕ) → refused k ≡ (ended j b (told i s)).answer → RunEnds i → (6 ≤ k) × (k ≤ 8)
    go zero e w = absurd (let z : ◌≡◌ {A = ℕ} 0 1 = cc in omega arith)
    go (suc i) e w = rw (refused_same e) (w.0 (λ y. absurd (omega (arith, y))), w.1)
