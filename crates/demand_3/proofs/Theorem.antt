-- Demand 3. Where a job is done the checks before the run have passed, so what the run is told is fair, and the run has
-- gone to its end; the buffers are then filled from its last state, and Cells.antt says what they hold. Assumes nothing.
use Prim.Native.Nat.{ℕ, zero, suc, ◌≤◌, ◌<◌}
use native.Mathlib.Omega.{arith}
use mathlib.Core.Path.{◌≡◌, refl, sym, ap, ◌∙◌}
use lib.ListN.{length}
use Rattle.lists.specs.Turns.{Turn, goes, refuses}
use Rattle.point.specs.declared.Axis.{Axis}
use Rattle.grid.specs.Axes.{count_on}
use Rattle.grid.proofs.Facts.{bounds_of, on_axis}
use Rattle.mesh.specs.Mesh.{triangles_in}
use Rattle.run.specs.Run.{State, none}
use Rattle.refusals.specs.Numbers.{Reply, refused, given, reply_of}
use Rattle.job_outcome.specs.declared.Tally.{Tally}
use Rattle.job_checks.specs.Job.{Job, Lent}
use Rattle.job_checks.specs.Refusals.{refusal, lengths_of}
use Rattle.job_checks.proofs.Accepted.{accepted}
use Rattle.job_outcome.specs.Outcome.{Answer, filled, ended, run_of, unless_refused, outcome}
use Rattle.demand_3.specs.Demand3.{Demand3, AfterCall}
use Rattle.demand_3.proofs.Cells.{run_means}

-- ---- a job that is done

pub record Ended (j : Job) (b : Lent) : Type 0 where
  pub last : State
  pub passed : refusal j b ≡ 0
  pub ran : run_of j b ≡ goes last
  pub fills : (outcome j b).left ≡ filled j last b

refused_done : (n : ℕ) (t : Tally) → ◌≡◌ {A = Reply Tally} (refused n) (given t) → ⊥
refused_done n t e = let z : ◌≡◌ {A = ℕ} 0 1 = cc in omega arith

pub done_ended : (j : Job) (b : Lent) (t : Tally) → (outcome j b).answer ≡ given t → Ended j b
unfolding outcome unless_refused ended
done_ended j b t h = check (refusal j b) refl h
  where
    turn : (o : Turn State) → refusal j b ≡ 0 → run_of j b ≡ o → (ended j b o).answer ≡ given t → Ended j b
    turn (goes s) r e w = record { last = s; passed = r; ran = e; fills = rw (r, e) }
    turn (refuses n) r e w = absurd (refused_done n t w)

    check : (n : ℕ) → refusal j b ≡ n → (unless_refused n b (ended j b (run_of j b))).answer ≡ given t → Ended j b
    check zero e w = turn (run_of j b) e refl w
    check (suc n) e w = absurd (refused_done (suc n) t w)

-- ---- what the checks have shown

pub record Passed (j : Job) : Type 0 where
  pub some : (a : Axis) → 0 < count_on a j.grid
  pub few : length (triangles_in j.mesh) ≤ none

pub checks_passed : (j : Job) (b : Lent) → refusal j b ≡ 0 → Passed j
checks_passed j b h =
    let fit = (accepted j.grid j.edition j.mesh (lengths_of b) h).fit in
    record {
      some = λ a. (on_axis (bounds_of j.grid fit.ready.bounded) a).some;
      few = omega (arith, fit.few);
    }

-- ---- the theorem

pub demand_3 : (j : Job) (b : Lent) → Demand3 j b
demand_3 j b t h c v =
    let E = done_ended j b t h in
    let p = checks_passed j b E.passed in
    rw E.fills (run_means j.grid j.mesh (length b.distances) j.limit p.some p.few j.sign E.last E.ran c v)

-- ---- the corollary, of the lent buffers after a call

pub after_a_call : (j : Job) (b : Lent) (answer : Answer) (left : Lent) → AfterCall j b answer left
after_a_call j b answer left gives t done c v = rw gives.leaves (demand_3 j b t (sym gives.answers ∙ ap reply_of done) c v)
