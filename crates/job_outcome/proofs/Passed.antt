-- No table goes out of a strip, nor with a triangle off the grid, nor of another edition than 1 and 2: a job that is done was not refused, so no check
-- applied, neither 13 nor 10 nor 14. Assumes nothing.
use Prim.Native.Nat.{ℕ, zero, suc, ◌<◌}
use mathlib.Core.Path.{◌≡◌, refl}
use mathlib.Core.Bool.{false, not}
use mathlib.Core.Logic.{◌⊎◌}
use native.Mathlib.Omega.{arith}
use lib.ListN.{length}
use borrow.Author.Tests.{not-true}
use Rattle.lists.proofs.Every.{every_at}
use Rattle.mesh_topology.specs.declared.Topology.TheVariants.{TriangleList}
use Rattle.mesh_topology.specs.Topology.{triangle}
use Rattle.mesh.specs.Mesh.{triangles_in, corners_of, corners_at}
use Rattle.mesh_off_grid.specs.OffGrid.{off_grid, all_on_grid}
use Rattle.job_checks.specs.Job.{Job, Lent}
use Rattle.job_checks.specs.Refusals.{refusal, lengths_of}
use Rattle.job_checks.proofs.Accepted.{accepted}
use Rattle.refusals.specs.Numbers.{given}
use Rattle.job_outcome.specs.declared.Tally.{Tally}
use Rattle.job_outcome.specs.Outcome.{ended, run_of, unless_refused, outcome}

passed : (j : Job) (b : Lent) (t : Tally) → (outcome j b).answer ≡ given t → refusal j b ≡ 0
unfolding outcome unless_refused
passed j b t h = go (refusal j b) h
  where
    go : (n : ℕ) → (unless_refused n b (ended j b (run_of j b))).answer ≡ given t → n ≡ 0
    go zero e = refl
    go (suc n) e = absurd (let z : ◌≡◌ {A = ℕ} 0 1 = cc in omega arith)

pub done_a_list : (j : Job) (b : Lent) (t : Tally) → (outcome j b).answer ≡ given t → j.mesh.topology ≡ TriangleList
done_a_list j b t h = (accepted j.grid j.edition j.mesh (lengths_of b) (passed j b t h)).a_list

pub done_edition : (j : Job) (b : Lent) (t : Tally) → (outcome j b).answer ≡ given t → (j.edition ≡ 1) ⊎ (j.edition ≡ 2)
done_edition j b t h = (accepted j.grid j.edition j.mesh (lengths_of b) (passed j b t h)).edition

pub done_on_grid : (j : Job) (b : Lent) (t : Tally) → (outcome j b).answer ≡ given t
    → (k : ℕ) → k < length (triangles_in j.mesh) → off_grid j.grid (corners_at j.mesh k) ≡ false
unfolding all_on_grid corners_at
done_on_grid j b t h k below =
    not-true _ (every_at (λ T. not (off_grid j.grid (corners_of j.mesh.vertices T))) (triangle 0 0 0) (triangles_in j.mesh) k
    (accepted j.grid j.edition j.mesh (lengths_of b) (passed j b t h)).on_grid below)
