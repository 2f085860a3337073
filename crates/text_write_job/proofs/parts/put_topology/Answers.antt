-- `text_write_job::parts::put_topology` meets its contract, by the two topologies. Assumes nothing.
use native.Mathlib.Omega.{arith}
use mathlib.Core.Path.{ap}
use Rattle.mesh_topology.specs.declared.Topology.{Topology}
use Rattle.text.specs.Words.{line}
use Rattle.text.specs.TextJob.{topology_text}
use Rattle.text_write_job.proofs.Word.{word_put}
use Rattle.text_write_job.proofs.parts.put_topology.Goals as goal

pub returns-in-TriangleList : goal.returns-in-TriangleList
unfolding line
returns-in-TriangleList c = let all = word_put _ 15 (ap (λ (t : Topology). line "topology=" (topology_text t)) c.in-TriangleList.is) (omega arith) c.put_all.ensures in record { put = all.0; upper_bound = all.1 }

pub returns-in-TriangleStrip : goal.returns-in-TriangleStrip
unfolding line
returns-in-TriangleStrip c = let all = word_put _ 15 (ap (λ (t : Topology). line "topology=" (topology_text t)) c.in-TriangleStrip.is) (omega arith) c.put_all-in-TriangleStrip.ensures in record { put = all.0; upper_bound = all.1 }
