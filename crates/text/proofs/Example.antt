-- The example of document 01, "One job, one listing": the definitions give the text that the document shows, byte for byte. Asked with Normal
-- signs (document 02, §8), with an upright axis said (§9), or with an edition of the layer table (§11), it has one line more; these lines have
-- no other spelling, and no other place.
use Prim.Native.Nat.{ℕ}
use mathlib.Core.Path.{◌≡◌, refl}
use mathlib.Core.List.{List, [], ◌∷◌, ◌++◌}
use Rattle.mesh_topology.specs.declared.Topology.TheVariants.{TriangleList}
use Rattle.terms.specs.declared.SignMethod.{SignMethod}
use Rattle.terms.specs.declared.SignMethod.TheVariants.{Raycast, Normal}
use Rattle.lists.specs.Joined.{each}
use Rattle.point.specs.declared.Axis.{Axis}
use Rattle.point.specs.declared.Axis.TheVariants.{X, Y, Z}
use Rattle.std.specs.Prelude.{Option, Some, None}
use Rattle.text.specs.Words.{bytes, digits, hex, line}
use Rattle.text.specs.TextJob.{TextJob, these, head_text, vertices_text, indices_text, tail_text, job_text, Readable}
use Rattle.text.specs.Reader.{
  nothing,
  follow,
  kept,
  or_try,
  optional,
  word_at,
  one_of,
  hex_value,
  digits_at,
  number_at,
  end_at,
  hex_at,
  three,
  three_numbers,
  number_line,
  floats_line,
  count_line,
  upright_line,
  topology_line,
  normal_line,
  table_line,
  lines_at,
  head,
  head_at,
  vertices_at,
  indices_at,
  tail,
  tail_at,
  job_at,
  at_end,
  whole_job,
}
use Rattle.text.proofs.Job.{whole_refused}

unfoldable pub example : Option Axis → SignMethod → Option ℕ → TextJob
example upright sign table =
    record {
      head = head (three 1 1 1) (three 0x3f80_0000 0x3f80_0000 0x3f80_0000) (three 0x3f80_0000 0x3f80_0000 0x4000_0000) upright TriangleList sign;
      vertices = three 0 0 0 ∷ three 0x4080_0000 0 0 ∷ three 0 0x4080_0000 0 ∷ [];
      indices = these (0 ∷ 1 ∷ 2 ∷ []);
      tail = tail 8 100 table;
    }

-- the lines before that of the upright axis, the one between it and that of the method, and those behind: of the mesh, of the queue, of the
-- pops
abbrev before : List ℕ
before = bytes "count=1 1 1\nfirst=3f800000 3f800000 3f800000\nsize=3f800000 3f800000 40000000\n"

abbrev list : List ℕ
list = bytes "topology=list\n"

abbrev mesh : List ℕ
mesh =
    bytes "vertices=3\nv=00000000 00000000 00000000\nv=40800000 00000000 00000000\nv=00000000 40800000 00000000\n"
    ++ bytes "indices=3\ni=0\ni=1\ni=2\n"

abbrev behind : List ℕ
behind = mesh ++ bytes "queue=8\npops=100\n"

pub example_text : job_text (example None Raycast None) ≡ before ++ list ++ behind
unfolding example digits hex line each head_text vertices_text indices_text tail_text job_text
example_text = refl

pub normal_text : job_text (example None Normal None) ≡ before ++ list ++ bytes "sign=normal\n" ++ behind
unfolding example digits hex line each head_text vertices_text indices_text tail_text job_text
normal_text = refl

pub upright_text_lem : (job_text (example (Some X) Raycast None) ≡ before ++ bytes "upright=x\n" ++ list ++ behind)
    × (job_text (example (Some Y) Normal None) ≡ before ++ bytes "upright=y\n" ++ list ++ bytes "sign=normal\n" ++ behind)
    × (job_text (example (Some Z) Raycast None) ≡ before ++ bytes "upright=z\n" ++ list ++ behind)
unfolding example digits hex line each head_text vertices_text indices_text tail_text job_text
upright_text_lem = (refl, refl, refl)

-- editions that there are, and ones that there are not
pub table_text_lem : (job_text (example None Raycast (Some 2)) ≡ before ++ list ++ behind ++ bytes "table=2\n")
    × (job_text (example (Some Y) Normal (Some 1)) ≡ before ++ bytes "upright=y\n" ++ list ++ bytes "sign=normal\n" ++ behind ++ bytes "table=1\n")
    × (job_text (example None Raycast (Some 0)) ≡ before ++ list ++ behind ++ bytes "table=0\n")
    × (job_text (example None Raycast (Some 4294967295)) ≡ before ++ list ++ behind ++ bytes "table=4294967295\n")
unfolding example digits hex line each head_text vertices_text indices_text tail_text job_text
table_text_lem = (refl, refl, refl, refl)

-- no job has such a text
abbrev NoJob : List ℕ → Type 0
NoJob s = (j : TextJob) → Readable j → s ≡ job_text j → ⊥

-- whatever follows them: another method said, another axis, the axis behind the topology, or twice
refused : (rest : List ℕ)
    → (whole_job (before ++ list ++ bytes "sign=raycast\n" ++ rest) ≡ nothing)
    × (whole_job (before ++ bytes "upright=w\n" ++ rest) ≡ nothing)
    × (whole_job (before ++ list ++ bytes "upright=x\n" ++ rest) ≡ nothing)
    × (whole_job (before ++ bytes "upright=z\nupright=z\n" ++ rest) ≡ nothing)
unfolding whole_job job_at head_at vertices_at count_line floats_line upright_line topology_line normal_line number_line three_numbers hex_at end_at number_at digits_at hex_value line one_of word_at optional or_try kept follow
refused rest = (refl, refl, refl, refl)

pub no_raycast_line : (rest : List ℕ) → NoJob (before ++ list ++ bytes "sign=raycast\n" ++ rest)
no_raycast_line rest = whole_refused _ (refused rest).0

pub no_fourth_axis : (rest : List ℕ) → NoJob (before ++ bytes "upright=w\n" ++ rest)
no_fourth_axis rest = whole_refused _ (refused rest).1

pub not_behind_the_topology : (rest : List ℕ) → NoJob (before ++ list ++ bytes "upright=x\n" ++ rest)
not_behind_the_topology rest = whole_refused _ (refused rest).2

pub not_twice : (rest : List ℕ) → NoJob (before ++ bytes "upright=z\nupright=z\n" ++ rest)
not_twice rest = whole_refused _ (refused rest).3

-- the edition before the queue or before the pops, with a zero in front, too large, or without a number, whatever follows; and anything behind it
edition_refused : (rest : List ℕ)
    → (whole_job (before ++ list ++ mesh ++ bytes "table=2\n" ++ rest) ≡ nothing)
    × (whole_job (before ++ list ++ mesh ++ bytes "queue=8\ntable=2\n" ++ rest) ≡ nothing)
    × (whole_job (before ++ list ++ behind ++ bytes "table=02\n" ++ rest) ≡ nothing)
    × (whole_job (before ++ list ++ behind ++ bytes "table=4294967296\n" ++ rest) ≡ nothing)
    × (whole_job (before ++ list ++ behind ++ bytes "table=\n" ++ rest) ≡ nothing)
    × ((b : ℕ) → whole_job (before ++ list ++ behind ++ bytes "table=2\n" ++ b ∷ rest) ≡ nothing)
unfolding whole_job job_at at_end head_at vertices_at indices_at tail_at count_line floats_line upright_line topology_line normal_line table_line number_line lines_at three_numbers hex_at end_at number_at digits_at hex_value line one_of word_at optional or_try kept follow
edition_refused rest = (refl, refl, refl, refl, refl, λ b. refl)

pub edition_not_before_queue : (rest : List ℕ) → NoJob (before ++ list ++ mesh ++ bytes "table=2\n" ++ rest)
edition_not_before_queue rest = whole_refused _ (edition_refused rest).0

pub edition_not_before_pops : (rest : List ℕ) → NoJob (before ++ list ++ mesh ++ bytes "queue=8\ntable=2\n" ++ rest)
edition_not_before_pops rest = whole_refused _ (edition_refused rest).1

pub no_zero_in_front : (rest : List ℕ) → NoJob (before ++ list ++ behind ++ bytes "table=02\n" ++ rest)
no_zero_in_front rest = whole_refused _ (edition_refused rest).2

pub no_edition_of_33_bits : (rest : List ℕ) → NoJob (before ++ list ++ behind ++ bytes "table=4294967296\n" ++ rest)
no_edition_of_33_bits rest = whole_refused _ (edition_refused rest).3

pub no_edition_without_number : (rest : List ℕ) → NoJob (before ++ list ++ behind ++ bytes "table=\n" ++ rest)
no_edition_without_number rest = whole_refused _ (edition_refused rest).4

pub nothing_behind_the_edition : (b : ℕ) (rest : List ℕ) → NoJob (before ++ list ++ behind ++ bytes "table=2\n" ++ b ∷ rest)
nothing_behind_the_edition b rest = whole_refused _ ((edition_refused rest).5 b)

pub edition_not_twice : (rest : List ℕ) → NoJob (before ++ list ++ behind ++ bytes "table=2\n" ++ bytes "table=2\n" ++ rest)
edition_not_twice rest = whole_refused _ ((edition_refused (bytes "able=2\n" ++ rest)).5 116)
