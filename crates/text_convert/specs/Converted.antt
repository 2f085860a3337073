-- "For old job files a converter program prints the same job with its triangles listed by explicit indices, strips without indices
-- included, and prints a list job unchanged. .. It prints `answer=9` for a job it can't read or beyond the old limits." (document 02, §7).
-- Definitions only.
use Rattle.std.specs.Prelude.{ℕ, ◌≤◌, ◌≡◌, List, length}
use Rattle.mesh_topology.specs.declared.Topology.{Topology}
use Rattle.mesh_topology.specs.declared.Topology.TheVariants.{TriangleList, TriangleStrip}
use Rattle.mesh_topology.specs.declared.Triangle.{Triangle}
use Rattle.mesh_topology.specs.Topology.{triangles_of}
use Rattle.mesh_explicit.specs.Explicit.{explicit}
use Rattle.text.specs.declared.Head.{Head}
use Rattle.text.specs.TextJob.{TextJob, these, index_list, given_of, Readable, job_text}
use Rattle.text.specs.Answering.{answer_line}

-- ---- the same job, its triangles listed

-- the triangles that a job names, in the order in which they are numbered
abbrev pub triangles_named : TextJob → List Triangle
triangles_named j = triangles_of j.head.topology (given_of j.indices) (index_list j.indices) (length j.vertices)

-- the same lines before the vertices, those that may be left out as they were said or not, but for `topology=list`
abbrev pub list_head : Head → Head
list_head h =
    record { count = h.count; first = h.first; size = h.size; upright = h.upright; topology = TriangleList; sign = h.sign }

-- "its triangles listed by explicit indices": all of them, where there is none `indices=0`; all else is the same
abbrev pub as_list : TextJob → TextJob
as_list j = record { head = list_head j.head; vertices = j.vertices; indices = these (explicit (triangles_named j)); tail = j.tail }

-- a strip is listed; "a list job unchanged", with its left-over indices or none
unfoldable pub converted_by : Topology → TextJob → TextJob
converted_by TriangleList j = j
converted_by TriangleStrip j = as_list j

abbrev pub converted : TextJob → TextJob
converted j = converted_by j.head.topology j

-- ---- the converter

-- "the old limits": those of document 01, "256 vertices, 768 indices, 512 cells, 2,048 entries". All but the second still hold, and of
-- that one what a list may have was raised (`most_indices`, crates/text/specs/Limits.antt).
abbrev pub old_most_indices : ℕ
old_most_indices = 768

pub record OldJob (j : TextJob) : Type 0 where
  pub readable : Readable j
  pub few_indices : length (index_list j.indices) ≤ old_most_indices

-- Input and output of the converter. A text is that of one job at most (`one_job`, crates/text/proofs/Job.antt), so an input has one output.
pub data Converts (input output : List ℕ) : Type 0 where
  conversion_of : (j : TextJob) → OldJob j → input ≡ job_text j → output ≡ job_text (converted j) → Converts input output
  no_old_job : ((j : TextJob) → OldJob j → input ≡ job_text j → ⊥) → output ≡ answer_line 9 → Converts input output
