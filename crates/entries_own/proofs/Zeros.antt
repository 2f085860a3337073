-- A row that is all zero has three projections that are, and what the job over it gives is what the job over three buffers that are all zero gives.
-- Assumes nothing.
use Prim.Native.Nat.{ℕ, ◌≤◌}
use mathlib.Core.Path.{◌≡◌, refl, sym, ap, subst, ◌∙◌}
use mathlib.Core.List.{List, map}
use lib.ListN.{length, replicate, take, length-map, length-replicate}
use lib.Seq.{length-take-le}
use lib.Ieee.{Float}
use Rattle.queue.specs.declared.Entry.{Entry}
use Rattle.job_checks.specs.Job.{Job, Lent}
use Rattle.job_outcome.specs.Outcome.{Answer, Gives, outcome}
use Rattle.entries_generate.specs.LentRow.{lent_row}
use Rattle.entries_generate.proofs.Same.{Agree, same_outcome}
use Rattle.job_clear.proofs.Lengths.{lengths_same}
use Rattle.entries_own.specs.Own.{lent_own, GivesFour}

-- the first k of n
pub first_long : (n k : ℕ) (x : Entry) → k ≤ n → length (take k (replicate n x)) ≡ k
first_long n k x h = length-take-le k (replicate n x) (subst (λ (m : ℕ). k ≤ m) (sym (length-replicate n x)) h)

pub gives_four : (j : Job) (field : List Float) (names crossings rows : List ℕ) (queue : List Entry) (room : ℕ) → length queue ≡ room
    → (answer : Answer) (field' : List Float) (names' crossings' rows' : List ℕ) (queue' : List Entry)
    → Gives (outcome j (lent_row field names crossings rows queue)) answer (lent_row field' names' crossings' rows' queue')
    → GivesFour (outcome j (lent_own field names crossings rows room)) answer field' names' crossings' rows'
gives_four j field names crossings rows queue room e answer field' names' crossings' rows' queue' h =
    record {
      answers = h.answers ∙ same.answer;
      field_left = ap (λ (l : Lent). l.field) h.leaves ∙ same.left.field;
      names_left = ap (λ (l : Lent). l.names) h.leaves ∙ same.left.names;
      crossings_left = ap (λ (l : Lent). l.crossings) h.leaves ∙ same.left.crossings;
      rows_left = ap (λ (l : Lent). l.rows) h.leaves ∙ same.left.rows;
    }
  where
    long : (f : Entry → ℕ) → length (map f queue) ≡ length {A = ℕ} (replicate room 0)
    long f = length-map queue f ∙ e ∙ sym (length-replicate {A = ℕ} room 0)

    same : Agree (outcome j (lent_row field names crossings rows queue)) (outcome j (lent_own field names crossings rows room))
    same =
        same_outcome j (lent_row field names crossings rows queue) (lent_own field names crossings rows room) (record { field = refl; names = refl; crossings = refl; rows = refl })
        (lengths_same (lent_row field names crossings rows queue) (lent_own field names crossings rows room) refl refl refl refl (long (λ (x : Entry). x.distance)) (long (λ (x : Entry). x.cell)) (long (λ (x : Entry). x.triangle)))
