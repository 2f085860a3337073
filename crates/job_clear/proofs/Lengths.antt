-- What clearing leaves is told by the lengths of the buffers alone: so it is the same of the buffers as they are lent, cleared, or run
-- over. Assumes nothing.
use Prim.Native.Nat.{ℕ}
use mathlib.Core.Path.{◌≡◌, ap}
use mathlib.Core.List.{List}
use lib.ListN.{length, replicate, length-replicate}
use lib.Ieee.{Float}
use Rattle.float.specs.Arith.{f_max}
use Rattle.queue.specs.Queue.{Cleared}
use Rattle.run.specs.Run.{none}
use Rattle.job_checks.specs.declared.Lengths.{Lengths}
use Rattle.job_checks.specs.Job.{Lent, lent_of}
use Rattle.job_checks.specs.Refusals.{lengths_of}
use Rattle.job_clear.specs.Cleared.{cleared, ClearedFields}

pub all_cleared : (field : List Float) (names crossings rows ds cs ts : List ℕ) {field' : List Float} {names' crossings' rows' ds' cs' ts' : List ℕ}
    → ClearedFields field field' names crossings rows names' crossings' rows' → Cleared ds cs ts ds' cs' ts'
    → lent_of field' names' crossings' rows' ds' cs' ts' ≡ cleared (lent_of field names crossings rows ds cs ts)
all_cleared field names crossings rows ds cs ts f q =
    λ i. lent_of (f.field_is i) (f.names_is i) (f.crossings_is i) (f.rows_is i) (q.distances i) (q.cells i) (q.triangles i)

-- ---- by the lengths

abbrev cleared_by : Lengths → Lent
cleared_by l =
    lent_of (replicate l.field f_max) (replicate l.names none) (replicate l.crossings 0) (replicate l.rows 0) (replicate l.distances 0)
    (replicate l.cells 0)
    (replicate l.triangles 0)

pub same_cleared : (b c : Lent) → lengths_of b ≡ lengths_of c → cleared b ≡ cleared c
same_cleared b c e = ap cleared_by e

-- ---- clearing keeps them

pub cleared_long : (b : Lent) → lengths_of (cleared b) ≡ lengths_of b
cleared_long b =
    λ i.
    record {
      field = length-replicate (length b.field) f_max i;
      names = length-replicate {A = ℕ} (length b.names) none i;
      crossings = length-replicate {A = ℕ} (length b.crossings) 0 i;
      rows = length-replicate {A = ℕ} (length b.rows) 0 i;
      distances = length-replicate {A = ℕ} (length b.distances) 0 i;
      cells = length-replicate {A = ℕ} (length b.cells) 0 i;
      triangles = length-replicate {A = ℕ} (length b.triangles) 0 i;
    }

-- each list as long as it was
pub lengths_same : (b c : Lent) → length b.field ≡ length c.field → length b.names ≡ length c.names → length b.crossings ≡ length c.crossings
    → length b.rows ≡ length c.rows → length b.distances ≡ length c.distances → length b.cells ≡ length c.cells
    → length b.triangles ≡ length c.triangles → lengths_of b ≡ lengths_of c
lengths_same b c f n k r ds cs ts =
    λ i. record { field = f i; names = n i; crossings = k i; rows = r i; distances = ds i; cells = cs i; triangles = ts i }
