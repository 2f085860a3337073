-- "It reads a job and prints `merge=` (vertex, its first) for each merge, `drop=` (triangle; 1 for equal numbers, else 2) for each drop,
-- both ascending, then the tidied job with explicit indices. .. Refusals: 2, 13, 3, 4" (document 02, §10). What merges, drops and the
-- tidied mesh are is crate `tidy`'s to say. No grid and no edition is looked at. Definitions only.
use Rattle.std.specs.Prelude.{ℕ, zero, suc, ◌≡◌, cond, List, [], ◌∷◌, ◌++◌, eqb, Float}
use Prim.Native.String.{String}
use Rattle.lists.specs.Checks.{first_that_applies}
use Rattle.lists.specs.Joined.{joined}
use Rattle.lists.specs.Table.{table}
use Rattle.mesh.specs.Mesh.{Mesh}
use Rattle.job_checks.specs.Refusals.{mesh_checks}
use Rattle.tidy.specs.Tidy.{vertex_bits, vertex_total, triangle_total, first_of, cause, kept_vertices, tidied}
use Rattle.text.specs.declared.Three.{Three}
use Rattle.text.specs.declared.Head.{Head}
use Rattle.text.specs.declared.Tail.{Tail}
use Rattle.text.specs.Words.{space, decimal, line}
use Rattle.text.specs.TextJob.{TextJob, these, Readable, job_text}
use Rattle.text.specs.Answering.{answer_line}
use Rattle.listing.specs.Listing.{asked_job}
use Rattle.text_tidy.specs.declared.Went.{Went}
use Rattle.text_tidy.specs.declared.Went.TheVariants.{Merged, Dropped}

-- ---- the mesh of a job

-- the one that the job program gives to the generator
abbrev pub mesh_asked : TextJob → Mesh
mesh_asked j = (asked_job j).mesh

-- "Refusals: 2, 13, 3, 4", the job's own checks of a mesh: the first that applies, and 0 where none does. 5, "for lent lengths", cannot
-- come, since the program lends the right ones (`never_five`, proofs/Left.antt).
abbrev pub mesh_refusal : Mesh → ℕ
mesh_refusal m = first_that_applies (mesh_checks m)

-- ---- what went

-- `merge=` tells of a vertex and its first, `drop=` of a triangle and its cause
abbrev pub went_key : Went → String
went_key Merged = "merge="
went_key Dropped = "drop="

-- the value that number i has where it stays: a vertex is its own first, a triangle has no cause
abbrev pub staying : Went → ℕ → ℕ
staying Merged i = i
staying Dropped i = 0

-- "for each": a line of number i and its value, and none where it stays
unfoldable pub went_line : Went → (ℕ → ℕ) → ℕ → List ℕ
went_line w value i = cond (eqb (value i) (staying w i)) [] (line (went_key w) (decimal i ++ space ∷ decimal (value i)))

-- "ascending": those of the numbers below n, one behind the other
abbrev pub went_lines : Went → (ℕ → ℕ) → ℕ → List ℕ
went_lines w value n = joined (went_line w value) n

abbrev pub merge_lines : Mesh → List ℕ
merge_lines m = went_lines Merged (first_of m) (vertex_total m)

abbrev pub drop_lines : Mesh → List ℕ
drop_lines m = went_lines Dropped (cause m) (triangle_total m)

-- ---- the tidied job

-- the bits of vertex i, as its line has them
abbrev pub vertex_said : List Float → ℕ → Three
vertex_said vs i = record { x = (vertex_bits vs i).a; y = (vertex_bits vs i).b; z = (vertex_bits vs i).c }

-- "the tidied job with explicit indices": the vertices and the indices of the tidied mesh; all other lines as they were said
abbrev pub tidied_by : Head → Mesh → Tail → TextJob
tidied_by h m t =
    record {
      head = h;
      vertices = table (vertex_said (tidied m).vertices) (kept_vertices m);
      indices = these (tidied m).indices;
      tail = t;
    }

abbrev pub tidied_job : TextJob → TextJob
tidied_job j = tidied_by j.head (mesh_asked j) j.tail

-- ---- what is printed

-- for a mesh that no check refuses what went, "then the tidied job"; else the number of the refusal alone
unfoldable pub printed_by : ℕ → Head → Mesh → Tail → List ℕ
printed_by zero h m t = merge_lines m ++ drop_lines m ++ job_text (tidied_by h m t)
printed_by (suc n) h m t = answer_line (suc n)

abbrev pub printed : TextJob → List ℕ
printed j = printed_by (mesh_refusal (mesh_asked j)) j.head (mesh_asked j) j.tail

-- Input and output of the program: what is printed for the job that the input is the text of, or `answer=9` where it is the text of no
-- job within the job program's limits. A text is that of one job at most (`one_job`, crates/text/proofs/Job.antt), so an input has one
-- output.
pub data Tidies (input output : List ℕ) : Type 0 where
  tidying_of : (j : TextJob) → Readable j → input ≡ job_text j → output ≡ printed j → Tidies input output
  no_job : ((j : TextJob) → Readable j → input ≡ job_text j → ⊥) → output ≡ answer_line 9 → Tidies input output

-- The bytes that must be lent: as many as a program's large buffer has, and more than the longest output needs. That has 255 lines of
-- merges, of at most 14 bytes, 766 of drops, of at most 11, and a job's text, for which 40,960 are lent (`text_room`).
abbrev pub tidy_room : ℕ
tidy_room = 65536
