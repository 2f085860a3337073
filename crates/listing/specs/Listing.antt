-- What the job program prints (document 01, "One job, one listing"): a function of the job, whose outcome is that of
-- `sdf::generate_grid_sdf`, and so one output for every input. Definitions only.
use Rattle.std.specs.Prelude.{ℕ, ◌*◌, ◌≡◌, List, ◌∷◌, ◌++◌, length, get_or, replicate, Float}
use Rattle.std.specs.Float.{nan, binary32}
use Rattle.std.specs.Float.Ieee.{of_bits, to_bits}
use Rattle.float.specs.Arith.{f0}
use Rattle.point.specs.Point.{vec}
use Rattle.point.specs.declared.Point.{Point}
use Rattle.grid.specs.declared.Grid.{Grid}
use Rattle.grid.specs.Index.{total}
use Rattle.grid.specs.Layers.{layers}
use Rattle.terms.specs.declared.Pass.{Pass}
use Rattle.terms.specs.declared.Terms.{Terms}
use Rattle.refusals.specs.Numbers.{Reply}
use Rattle.refusals.specs.Numbers as Is
use Rattle.job_outcome.specs.declared.Tally.{Tally}
use Rattle.mesh_topology.specs.declared.Indices.{Indices}
use Rattle.mesh.specs.Mesh.{mesh_of}
use Rattle.job_checks.specs.Job.{Job, Lent}
use Rattle.job_outcome.specs.Outcome.{Outcome, outcome}
use Rattle.text.specs.declared.Three.{Three}
use Rattle.text.specs.declared.Head.{Head}
use Rattle.text.specs.declared.Tail.{Tail}
use Rattle.text.specs.Words.{space, decimal, decimal_long, hex8, spaced, line}
use Rattle.lists.specs.Joined.{joined}
use Rattle.float_bits.specs.Patterns.{floats_of}
use Rattle.text.specs.Answering.{answer_line}
use Rattle.text.specs.TextJob.{TextJob, Readable, job_text, upright_meant, table_meant, index_list, given_of, flat}

-- ---- the job that a text asks for

abbrev pub point_of : Three → Point
point_of t = vec (of_bits binary32 t.x) (of_bits binary32 t.y) (of_bits binary32 t.z)

abbrev pub grid_of : Head → Grid
grid_of h =
    record {
      first_cell = point_of h.first;
      cell_size = point_of h.size;
      count_x = h.count.x;
      count_y = h.count.y;
      count_z = h.count.z;
      upright = upright_meant h.upright;
    }

-- a text says the pop limit, the method of the signs and the edition of the layer table, and no pass, which the program picks
abbrev pub terms_of : Head → Tail → Pass → Terms
terms_of h t pass = record { limit = t.limit; pass = pass; sign = h.sign; edition = table_meant t.table }

-- by the parts of a text, with the floats of its coordinates
abbrev pub job_by : Head → List Float → Indices → List ℕ → Tail → Job
job_by h vertices given indices t =
    record {
      grid = grid_of h;
      mesh = mesh_of vertices h.topology given indices;
      sign = h.sign;
      limit = t.limit;
      edition = table_meant t.table;
    }

abbrev pub asked_job : TextJob → Job
asked_job j = job_by j.head (floats_of (flat j.vertices)) (given_of j.indices) (index_list j.indices) j.tail

-- buffers for so many cells, layers and entries
abbrev pub lent_by : ℕ → ℕ → ℕ → Lent
lent_by cells layers entries =
    record {
      field = replicate cells f0;
      names = replicate cells 0;
      crossings = replicate (3 * cells) 0;
      rows = replicate layers 0;
      distances = replicate entries 0;
      cells = replicate entries 0;
      triangles = replicate entries 0;
    }

-- of the lengths that refusal 5 asks for, and a queue of the room that the text gives; nothing depends on what they hold
abbrev pub lent_for : Head → Tail → Lent
lent_for h t = lent_by (total (grid_of h)) (layers (grid_of h)) t.room

abbrev pub outcome_of : TextJob → Outcome
outcome_of j = outcome (asked_job j) (lent_for j.head j.tail)

-- ---- the listing

-- "`cell`: index, distance bits, named triangle (4294967295 for none)."
abbrev pub cell_line : Lent → ℕ → List ℕ
cell_line b i = line "cell=" (spaced (decimal i) (hex8 (to_bits binary32 (get_or b.field i nan))) (decimal (get_or b.names i 0)))

-- "`row`: layer, count."
abbrev pub row_line : Lent → ℕ → List ℕ
row_line b n = line "row=" (decimal n ++ space ∷ decimal (get_or b.rows n 0))

-- a job that is done: its counts, of which the grazed rays are "printed as `grazed=` after `peak=`" (document 02, §3), and a line for
-- each cell and for each layer; a refusal: "Other refusals print one line too."
unfoldable pub listed : Reply Tally → Lent → List ℕ
listed (Is.refused n) b = answer_line n
listed (Is.given t) b =
    answer_line 0
    ++ line "pops=" (decimal t.pops)
    ++ line "peak=" (decimal t.peak)
    ++ line "grazed=" (decimal_long t.grazed)
    ++ joined (cell_line b) (length b.field)
    ++ joined (row_line b) (length b.rows)

abbrev pub listing : TextJob → List ℕ
listing j = listed (outcome_of j).answer (outcome_of j).left

-- ---- the program

-- Input and output of the program: the listing of the job that the input is the text of, or, "a job it can't read, or above these
-- limits, gives `answer=9` alone". A job has one text, and a text one job (`one_job`, crates/text/proofs/Job.antt), so an input has one output.
pub data Prints (input output : List ℕ) : Type 0 where
  listing_of : (j : TextJob) → Readable j → input ≡ job_text j → output ≡ listing j → Prints input output
  unreadable : ((j : TextJob) → Readable j → input ≡ job_text j → ⊥) → output ≡ answer_line 9 → Prints input output
