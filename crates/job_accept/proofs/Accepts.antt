-- What an accepted job begins with, once its buffers are cleared. Assumes nothing.
use Prim.Native.Nat.{ℕ}
use mathlib.Core.Path.{◌≡◌, ap, ◌∙◌}
use mathlib.Core.List.{List}
use lib.ListN.{replicate}
use lib.Ieee.{Float}
use Rattle.float.specs.Arith.{f_max}
use Rattle.queue.specs.Keys.{by_keys}
use Rattle.queue.proofs.Uses as Queue
use Rattle.run.specs.Run.{none}
use Rattle.job_checks.specs.declared.Lengths.{Lengths}
use Rattle.job_checks.specs.Job.{Job, Lent, lent_of}
use Rattle.job_checks.specs.Refusals.{refusal, lengths_of}
use Rattle.job_checks.proofs.Accepted.{Accepted, accepted}
use Rattle.job_clear.specs.Cleared.{cleared}
use Rattle.job_clear.proofs.Lengths.{cleared_long}
use Rattle.run_field.specs.Running.{Fresh}
use Rattle.job_outcome.specs.Finished.{Long}

module _ (j : Job) (b : Lent) (h : refusal j b ≡ 0) where
  a : Accepted j.grid j.edition j.mesh (lengths_of b)
  a = accepted j.grid j.edition j.mesh (lengths_of b) h

  module _ {field : List Float} {names crossings rows ds cs ts : List ℕ} (e : lent_of field names crossings rows ds cs ts ≡ cleared b) where
    pub fresh : Fresh j.grid field names ds cs ts
    fresh =
        record {
          field_bare = ap (λ (l : Lent). l.field) e ∙ ap (λ (n : ℕ). replicate n f_max) a.long.field;
          names_bare = ap (λ (l : Lent). l.names) e ∙ ap (λ (n : ℕ). replicate n none) a.long.names;
          empty =
              Queue.cleared by_keys b.distances b.cells b.triangles ds cs ts (record { cells = a.long.cells; triangles = a.long.triangles })
              (record {
                distances = ap (λ (l : Lent). l.distances) e;
                cells = ap (λ (l : Lent). l.cells) e;
                triangles = ap (λ (l : Lent). l.triangles) e;
              });
        }

    pub long : Long j.grid crossings rows
    long =
        let l = ap lengths_of e ∙ cleared_long b in
        record {
          crossings_long = ap (λ (n : Lengths). n.crossings) l ∙ a.long.crossings;
          rows_long = ap (λ (n : Lengths). n.rows) l ∙ a.long.rows;
        }
