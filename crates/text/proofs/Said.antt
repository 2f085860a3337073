-- What is said of the upright axis is one line of a text, directly behind that of the cell size: jobs that differ in it alone have texts that
-- differ in that line alone, and are readable together. No line means what `upright=z` means. What is said of the table's edition is one line
-- likewise, the last one: no line means what `table=1` means. By the definitions. Assumes nothing.
use mathlib.Core.Path.{◌≡◌, refl}
use mathlib.Core.List.{List, ◌++◌, append_assoc}
use Prim.Native.Nat.{ℕ}
use Rattle.mesh_topology.specs.declared.Topology.{Topology}
use Rattle.terms.specs.declared.SignMethod.{SignMethod}
use Rattle.text.specs.declared.Head.{Head}
use Rattle.point.specs.declared.Axis.{Axis}
use Rattle.point.specs.declared.Axis.TheVariants.{Z}
use Rattle.std.specs.Prelude.{Option, Some, None}
use Rattle.text.specs.Words.{line, decimal}
use Rattle.text.specs.TextJob.{
  TextJob,
  numbers,
  floats,
  upright_text,
  topology_text,
  sign_text,
  head_text,
  vertices_text,
  indices_text,
  table_text,
  tail_text,
  job_text,
  upright_meant,
  table_meant,
  HeadFits,
  TableFits,
  Readable,
}
use Rattle.text.specs.Reader.{head, tail, assembled}

-- ---- the upright axis

-- the same job with this said of the axis
abbrev pub saying : Option Axis → TextJob → TextJob
saying u j = let h = j.head in assembled (head h.count h.first h.size u h.topology h.sign) j.vertices j.indices j.tail

module _ (j : TextJob) where
  -- the lines up to that of the cell size, and those from that of the topology on
  abbrev pub up_to_size : List ℕ
  up_to_size = line "count=" (numbers j.head.count) ++ line "first=" (floats j.head.first) ++ line "size=" (floats j.head.size)

  abbrev pub from_topology : List ℕ
  from_topology =
      line "topology=" (topology_text j.head.topology)
      ++ sign_text j.head.sign
      ++ vertices_text j.vertices
      ++ indices_text j.indices
      ++ tail_text j.tail

  pub said_between : (u : Option Axis) → job_text (saying u j) ≡ up_to_size ++ upright_text u ++ from_topology
  unfolding job_text head_text
  said_between u =
      regrouped (up_to_size ++ upright_text u) (line "topology=" (topology_text j.head.topology)) (sign_text j.head.sign) (vertices_text j.vertices)
      (indices_text j.indices)
      (tail_text j.tail)
    where
      regrouped : (before topology sign vertices indices tail : List ℕ)
          → before ++ topology ++ sign ++ vertices ++ indices ++ tail ≡ before ++ (topology ++ sign ++ vertices ++ indices ++ tail)
      regrouped before topology sign vertices indices tail = simp append_assoc

-- of a head the limits know the numbers alone
pub numbers_fit : (h : Head) (u : Option Axis) (t : Topology) (s : SignMethod) → HeadFits h → HeadFits (head h.count h.first h.size u t s)
numbers_fit h u t s f =
    record { counts_fit = f.counts_fit; cells_few = f.cells_few; first_fits = f.first_fits; size_fits = f.size_fits }

pub said_readable : (u : Option Axis) (j : TextJob) → Readable j → Readable (saying u j)
said_readable u j r =
    record {
      head_fits = numbers_fit j.head u j.head.topology j.head.sign r.head_fits;
      vertices_fit = r.vertices_fit;
      indices_fit = r.indices_fit;
      tail_fits = r.tail_fits;
    }

-- "without the line it is z"
pub unsaid_is_z : upright_meant None ≡ upright_meant (Some Z)
unsaid_is_z = refl

-- ---- the edition of the layer table

-- the same job with this said of the edition
abbrev pub saying_table : Option ℕ → TextJob → TextJob
saying_table t j = assembled j.head j.vertices j.indices (tail j.tail.room j.tail.limit t)

module _ (j : TextJob) where
  -- the lines up to that of the pop limit
  abbrev pub up_to_pops : List ℕ
  up_to_pops =
      head_text j.head
      ++ vertices_text j.vertices
      ++ indices_text j.indices
      ++ line "queue=" (decimal j.tail.room)
      ++ line "pops=" (decimal j.tail.limit)

  -- "as its last line"
  pub said_last : (t : Option ℕ) → job_text (saying_table t j) ≡ up_to_pops ++ table_text t
  unfolding job_text tail_text
  said_last t =
      regrouped (head_text j.head ++ vertices_text j.vertices ++ indices_text j.indices) (line "queue=" (decimal j.tail.room))
      (line "pops=" (decimal j.tail.limit))
      (table_text t)
    where
      regrouped : (before queue pops table : List ℕ) → before ++ (queue ++ pops ++ table) ≡ before ++ queue ++ pops ++ table
      regrouped before queue pops table = simp append_assoc

-- whatever number of the format is said
pub table_readable : (t : Option ℕ) (j : TextJob) → TableFits t → Readable j → Readable (saying_table t j)
table_readable t j f r =
    record {
      head_fits = r.head_fits;
      vertices_fit = r.vertices_fit;
      indices_fit = r.indices_fit;
      tail_fits = record { room_few = r.tail_fits.room_few; limit_fits = r.tail_fits.limit_fits; table_fits = f };
    }

-- "a job without it is edition 1"
pub unsaid_is_one : table_meant None ≡ table_meant (Some 1)
unsaid_is_one = refl
