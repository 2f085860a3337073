-- `text_write_job::whole::put_job` meets its contract: the parts stand one after the other. Assumes nothing.
use Prim.Native.Nat.{◌≤◌}
use native.Mathlib.Omega.{arith}
use Rattle.text.specs.Limits.{index_room}
use Rattle.text.specs.TextJob.{job_text}
use Rattle.lists.proofs.Puts.{and_then}
use Rattle.text_write_job.proofs.Few.{few_indices}
use Rattle.text_write_job.proofs.whole.put_job.Goals as goal

pub put_indices-c-requires : goal.put_indices-c-requires
put_indices-c-requires c =
    let few : c.args.asked.indices ≤ index_room = let a = c.args.asked in few_indices a.head.topology a.given a.indices c.requires.indices_few in
    let n = few in record { n_le_index_room = n; n_in_bounds = c.requires.indices_held; n_in_bounds_2 = omega (arith, c.requires.room, c.requires.vertices_few, n, c.put_head-a.ensures.put.long, c.put_head-a.ensures.upper_bound, c.put_vertices-b.ensures.put.long, c.put_vertices-b.ensures.upper_bound) }

pub put_tail-requires : goal.put_tail-requires
put_tail-requires c =
    let few : c.args.asked.indices ≤ index_room = let a = c.args.asked in few_indices a.head.topology a.given a.indices c.requires.indices_few in
    omega (arith, c.requires.room, c.requires.vertices_few, few, c.put_head-a.ensures.put.long, c.put_head-a.ensures.upper_bound, c.put_vertices-b.ensures.put.long, c.put_vertices-b.ensures.upper_bound, c.put_indices-c.ensures.put.long, c.put_indices-c.ensures.upper_bound)

pub returns : goal.returns
unfolding job_text
returns c =
    and_then (and_then (and_then c.put_head-a.ensures.put c.put_vertices-b.ensures.put) c.put_indices-c.ensures.put) c.put_tail.ensures
