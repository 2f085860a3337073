-- `text_write_job::parts::put_head` meets its contract: its lines stand one after the other. Assumes nothing.
use native.Mathlib.Omega.{arith}
use Rattle.text.specs.Words.{line}
use Rattle.text.specs.TextJob.{head_text}
use Rattle.lists.proofs.Puts.{and_then}
use Rattle.text_write_job.proofs.parts.put_head.Goals as goal

pub returns : goal.returns
unfolding head_text line
returns c = record { put = and_then (and_then (and_then (and_then (and_then c.put_three-a.ensures.put c.put_three-b.ensures.put) c.put_three-c.ensures.put) c.put_upright-d.ensures.put) c.put_topology-e.ensures.put) c.put_sign.ensures.put; upper_bound = omega (arith, c.put_three-a.ensures.upper_bound, c.put_three-b.ensures.upper_bound, c.put_three-c.ensures.upper_bound, c.put_upright-d.ensures.upper_bound, c.put_topology-e.ensures.upper_bound, c.put_sign.ensures.upper_bound) }
