-- The lent buffers as a refusal of the run leaves them. Definitions only.
use Rattle.std.specs.Prelude.{ℕ, ◌≡◌, List, length, replicate, Float}
use Rattle.float.specs.Arith.{f_max}
use Rattle.run.specs.Run.{none}
use Rattle.job_checks.specs.Job.{Lent}

abbrev pub zeros : List ℕ → List ℕ
zeros l = replicate (length l) 0

-- 6 to 8 "leave the field all f32::MAX, the names all 4,294,967,295, rows zero. On 0 and 6 to 8 the queue is left all zero; on 6 to 8
-- the crossings too"
abbrev pub cleared : Lent → Lent
cleared b =
    record {
      field = replicate (length b.field) f_max;
      names = replicate (length b.names) none;
      crossings = zeros b.crossings;
      rows = zeros b.rows;
      distances = zeros b.distances;
      cells = zeros b.cells;
      triangles = zeros b.triangles;
    }

-- the same of all but the queue: field to rows, cleared, are field' to rows'
pub record ClearedFields (field field' : List Float) (names crossings rows names' crossings' rows' : List ℕ) : Type 0 where
  pub field_is : field' ≡ replicate (length field) f_max
  pub names_is : names' ≡ replicate (length names) none
  pub crossings_is : crossings' ≡ zeros crossings
  pub rows_is : rows' ≡ zeros rows
