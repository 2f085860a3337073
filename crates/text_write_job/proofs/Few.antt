-- A job that can be written has no more indices than the buffer for them holds. Assumes nothing.
use Prim.Native.Nat.{ℕ, ◌≤◌}
use native.Mathlib.Omega.{arith}
use Rattle.mesh_topology.specs.declared.Topology.{Topology}
use Rattle.mesh_topology.specs.declared.Indices.{Indices}
use Rattle.mesh_topology.specs.declared.Indices.TheVariants.{Given, None}
use Rattle.text.specs.Limits.{index_room}
use Rattle.text.proofs.Job.{most_held}
use Rattle.text_write_job.specs.Written.{most_given}

pub few_indices : (t : Topology) (g : Indices) (n : ℕ) → n ≤ most_given t g → n ≤ index_room
few_indices t Given n h = omega (arith, most_held t)
few_indices t None n h = omega arith
