-- Two jobs whose meshes have the same vertices and name the same triangles come to the same run, and end alike. Assumes nothing.
use Prim.Native.Nat.{ℕ}
use mathlib.Core.Path.{◌≡◌, refl, ap}
use lib.ListN.{length}
use Rattle.lists.specs.Turns.{Turn, goes, refuses}
use Rattle.terms.specs.declared.SignMethod.{SignMethod}
use Rattle.grid.specs.declared.Grid.{Grid}
use Rattle.mesh.specs.Mesh.{Mesh}
use Rattle.run.specs.Run.{State, run}
use Rattle.run.specs.Signs.{rows}
use Rattle.run.proofs.SameMesh.{SameMesh, input_same, field_by_same, crossings_by_same, grazed_by_same}
use Rattle.job_checks.specs.Job.{Job, Lent}
use Rattle.job_clear.specs.Cleared.{zeros}
use Rattle.refusals.specs.Numbers.{given}
use Rattle.job_outcome.specs.Outcome.{ended, run_of}

abbrev pub job_with : Grid → SignMethod → ℕ → ℕ → Mesh → Job
job_with g sign limit edition m = record { grid = g; mesh = m; sign = sign; limit = limit; edition = edition }

module _ (g : Grid) (sign : SignMethod) (limit edition : ℕ) {m n : Mesh} (same : SameMesh m n) (b : Lent) where
  pub run_same : run_of (job_with g sign limit edition m) b ≡ run_of (job_with g sign limit edition n) b
  run_same = ap run (input_same g same sign (length b.distances) limit)

  pub ended_same : (o : Turn State) → ended (job_with g sign limit edition m) b o ≡ ended (job_with g sign limit edition n) b o
  unfolding ended
  ended_same (goes s) =
      let field = field_by_same g same sign s.field in
      λ i.
      record {
        answer = given (record { pops = s.pops; peak = s.peak; grazed = grazed_by_same g same sign i });
        left = record {
          field = field i;
          names = s.names;
          crossings = crossings_by_same g same sign i;
          rows = rows edition g (field i);
          distances = zeros b.distances;
          cells = zeros b.cells;
          triangles = zeros b.triangles;
        };
      }
  ended_same (refuses k) = refl
