-- What a call is given: the job, and the buffers that are lent to it. Definitions only.
use Rattle.std.specs.Prelude.{ℕ, List, Float}
use Rattle.grid.specs.declared.Grid.{Grid}
use Rattle.terms.specs.declared.SignMethod.{SignMethod}
use Rattle.terms.specs.declared.Terms.{Terms}
use Rattle.mesh.specs.Mesh.{Mesh}

pub record Job : Type 0 where
  pub grid : Grid
  pub mesh : Mesh
  -- the method of the signs, and the pop limit
  pub sign : SignMethod
  pub limit : ℕ
  -- the edition of the layer table
  pub edition : ℕ

-- of the terms all but the pass: no job has a pass, so what a call promises of its answer and its buffers cannot show one
abbrev pub job_of : Grid → Mesh → Terms → Job
job_of grid mesh terms =
    record {
      grid = grid;
      mesh = mesh;
      sign = terms.sign;
      limit = terms.limit;
      edition = terms.edition;
    }

-- the lent buffers: the field, the names, the crossings, the rows, and the queue's distances, cells and triangles
pub record Lent : Type 0 where
  pub field : List Float
  pub names : List ℕ
  pub crossings : List ℕ
  pub rows : List ℕ
  pub distances : List ℕ
  pub cells : List ℕ
  pub triangles : List ℕ

abbrev pub lent_of : List Float → List ℕ → List ℕ → List ℕ → List ℕ → List ℕ → List ℕ → Lent
lent_of field names crossings rows distances cells triangles =
    record {
      field = field;
      names = names;
      crossings = crossings;
      rows = rows;
      distances = distances;
      cells = cells;
      triangles = triangles;
    }
