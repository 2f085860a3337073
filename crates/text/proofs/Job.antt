-- The reader of `specs/Reader.antt` takes the text of every job within the limits, and nothing else: each line by the laws of numbers, and the
-- lines one behind the other by the law of chains.
use Prim.Native.Nat.{ℕ, ◌+◌, ◌^◌, ◌≤◌, ◌<◌}
use native.Mathlib.Omega.{arith}
use mathlib.Core.Path.{◌≡◌, refl, sym, ap, ◌∙◌, subst}
use mathlib.Core.Logic.{◌⊎◌, inl, inr}
use mathlib.Core.List.{List, [], ◌∷◌, ◌++◌, append_assoc, append-nil, Memᴰ}
use Prim.Native.String.{String}
use lib.Dec.{leb}
use lib.ListN.{length}
use borrow.Author.Tests.{leb-true, le-leb, ne_eqb}
use Rattle.lists.specs.Every.{every}
use Rattle.mesh_topology.specs.declared.Topology.{Topology}
use Rattle.mesh_topology.specs.declared.Topology.TheVariants.{TriangleList, TriangleStrip}
use Rattle.terms.specs.declared.SignMethod.{SignMethod}
use Rattle.terms.specs.declared.SignMethod.TheVariants.{Raycast, Normal}
use Rattle.text.specs.declared.Three.{Three}
use Rattle.point.specs.declared.Axis.{Axis}
use Rattle.point.specs.declared.Axis.TheVariants.{X, Y, Z}
use Rattle.text.specs.declared.Head.{Head}
use Rattle.std.specs.Prelude.{Option, Some, None}
use Rattle.text.specs.declared.Tail.{Tail}
use Rattle.text.specs.Words.{bytes, space, lf, decimal, hex8, spaced, line, lines}
use Rattle.text.specs.Limits.{most_vertices, most_indices, most_cells, most_entries, index_room}
use Rattle.text.specs.TextJob.{
  TextJob,
  TextIndices,
  none,
  these,
  numbers,
  floats,
  upright_text,
  topology_text,
  sign_text,
  head_text,
  vertex_line,
  vertices_text,
  index_line,
  indices_text,
  table_text,
  tail_text,
  job_text,
  table_meant,
  Word,
  Words,
  All,
  index_list,
  cells_of,
  HeadFits,
  VerticesFit,
  IndicesFit,
  TableFits,
  TailFits,
  Readable,
}
use Rattle.text.specs.Reader.{
  Got,
  took,
  nothing,
  follow,
  kept,
  or_try,
  word_at,
  one_of,
  number_at,
  bits_at,
  three,
  three_numbers,
  number_line,
  floats_line,
  few_cells,
  count_line,
  axes_said,
  upright_line,
  topology_line,
  normal_line,
  sign_at,
  table_line,
  table_at,
  lines_at,
  head,
  head_at,
  vertex_line_at,
  vertices_at,
  index_at,
  indices_at,
  tail,
  tail_at,
  assembled,
  job_at,
  whole_job,
}
use Rattle.text.proofs.Formats.{
  Reads,
  ReadsBefore,
  ReadsLast,
  reshaped,
  kept_reads,
  chain_before,
  chain,
  finished,
  either_reads,
  option_reads,
  option_then,
  option_last,
  whole_sound,
  whole_complete,
  keyed_reads,
  constant_reads,
  differ,
  all_differ,
  one_reads,
  follows_not,
  never,
}
use Rattle.text.proofs.Numbers.{number_reads, bits_reads, starts}
use Rattle.text.proofs.Lines.{lines_reads}

-- ---- lines

-- a key before a value
line_reads : {A : Type 0} {In : A → Type 0} {p : List ℕ → Got A} (f : A → List ℕ) (key : String)
    → Reads In (λ a. f a ++ lf ∷ []) p
    → Reads In (λ a. line key (f a)) (λ s. follow (word_at (bytes key) s) (λ u s. p s))
unfolding line
line_reads f key reads =
    reshaped (keyed_reads (bytes key) reads) (λ a h. h) (λ a h. h) (λ a h. sym (append_assoc (bytes key) (f a) (lf ∷ [])))

three_reads : {p : ℕ → List ℕ → Got ℕ} (f : ℕ → List ℕ)
    → ((stop : ℕ) → stop < 48 → Reads Word (λ n. f n ++ stop ∷ []) (p stop))
    → Reads Words (λ t. spaced (f t.x) (f t.y) (f t.z) ++ lf ∷ []) (three_numbers p)
unfolding three_numbers
three_reads {p = p} f reads =
    reshaped
    (chain {g = λ t. (f t.y ++ space ∷ []) ++ ((f t.z ++ lf ∷ []) ++ [])} (λ (t : Three). t.x) _ (reads space (omega arith)) (λ t w. w.x_fits)
    (λ x ix.
    chain {g = λ t. (f t.z ++ lf ∷ []) ++ []} (λ (t : Three). t.y) _ (reads space (omega arith)) (λ t w. w.0.y_fits)
    (λ y iy.
    chain (λ (t : Three). t.z) _ (reads lf (omega arith)) (λ t w. w.0.0.z_fits)
    (λ z iz.
    finished (three x y z) (((record { x_fits = ix; y_fits = iy; z_fits = iz }, refl), refl), refl)
    (λ t h. rw (← h.0.0.1, ← h.0.1, ← h.1))))))
    (λ t h. h)
    (λ t h. h)
    (λ t h. simp (append_assoc, append-nil))

-- a number up to `most`
number_line_lem : (key : String) (most : ℕ)
    → most < 2 ^ 32
    → Reads (λ n. n ≤ most) (λ n. line key (decimal n)) (number_line (bytes key) most)
unfolding number_line
number_line_lem key most h =
    reshaped (kept_reads (λ n. leb n most) (line_reads decimal key (number_reads lf (omega arith)))) (λ n i. leb-true n most i.1)
    (λ n i. (omega arith, le-leb n most i))
    (λ n i. refl)

floats_line_lem : (key : String) → Reads Words (λ t. line key (floats t)) (floats_line (bytes key))
unfolding floats_line
floats_line_lem key = line_reads floats key (three_reads {p = bits_at} hex8 (λ stop h. bits_reads stop))

count_line_lem : Reads (λ c. Words c × (cells_of c ≤ most_cells)) (λ c. line "count=" (numbers c)) count_line
unfolding count_line
count_line_lem =
    reshaped (kept_reads few_cells (line_reads numbers "count=" (three_reads decimal number_reads))) (λ c i. (i.0, leb-true _ most_cells i.1))
    (λ c i. (i.0, le-leb _ most_cells i.1))
    (λ c i. refl)

-- where the line is said
upright_line_lem : Reads (λ u. Memᴰ u axes_said) upright_text upright_line
unfolding upright_line line differ all_differ every
upright_line_lem = one_reads upright_text axes_said refl

said_or_not : (u : Option Axis) → Memᴰ u axes_said ⊎ (u ≡ None)
said_or_not None = inr refl
said_or_not (Some X) = inl (Memᴰ.head refl)
said_or_not (Some Y) = inl (Memᴰ.tail (Memᴰ.head refl))
said_or_not (Some Z) = inl (Memᴰ.tail (Memᴰ.tail (Memᴰ.head refl)))

topology_line_lem : Reads (λ t. Unit) (λ t. line "topology=" (topology_text t)) topology_line
unfolding topology_line line differ all_differ every
topology_line_lem = reshaped (one_reads _ (TriangleList ∷ TriangleStrip ∷ []) refl) (λ t h. tt) (λ t h. one t) (λ t h. refl)
  where
    one : (t : Topology) → Memᴰ t (TriangleList ∷ TriangleStrip ∷ [])
    one TriangleList = Memᴰ.head refl
    one TriangleStrip = Memᴰ.tail (Memᴰ.head refl)

-- the line of the topology does not begin as that of the upright axis does
before_topology : (t : Topology) (others r : List ℕ) → upright_line ((line "topology=" (topology_text t) ++ others) ++ r) ≡ nothing
unfolding upright_line one_of word_at follow or_try line
before_topology t others r = refl

-- what does not begin with the line of the method
abbrev NoSign : List ℕ → Type 0
NoSign r = normal_line r ≡ nothing

sign_line : ReadsBefore NoSign (λ m. Unit) sign_text sign_at
unfolding normal_line all_differ every
sign_line = reshaped (option_reads Raycast (one_reads sign_text (Normal ∷ []) refl) refl) (λ m h. tt) (λ m h. one m) (λ m h. refl)
  where
    one : (m : SignMethod) → Memᴰ m (Normal ∷ []) ⊎ (m ≡ Raycast)
    one Normal = inl (Memᴰ.head refl)
    one Raycast = inr refl

-- where the edition is said
abbrev Saying : Option ℕ → Type 0
Saying None = ⊥
Saying (Some n) = Word n

table_line_lem : Reads Saying table_text table_line
unfolding table_line
table_line_lem =
    reshaped
    (chain table_meant _ (number_line_lem "table=" 4294967295 (omega arith)) few
    (λ n i. finished (Some n) (omega arith, refl) (λ t h. same t n h.0 h.1)))
    (λ t h. h)
    (λ t h. h)
    text
  where
    few : (t : Option ℕ) → Saying t → table_meant t ≤ 4294967295
    few None h = absurd h
    few (Some n) h = omega arith

    same : (t : Option ℕ) (n : ℕ) → Saying t → table_meant t ≡ n → t ≡ Some n
    same None n h e = absurd h
    same (Some m) n h e = ap Some e

    text : (t : Option ℕ) → Saying t → line "table=" (decimal (table_meant t)) ++ [] ≡ table_text t
    text None h = absurd h
    text (Some n) h = append-nil _

-- the last line of a text, which may be left out
table_read : ReadsLast TableFits table_text table_at
unfolding table_line number_line word_at kept follow
table_read = reshaped (option_last None table_line_lem refl refl) fits said (λ t h. refl)
  where
    fits : (t : Option ℕ) → Saying t ⊎ (t ≡ None) → TableFits t
    fits None h = tt
    fits (Some n) (inl h) = h
    fits (Some n) (inr e) = absurd (let z : ◌≡◌ {A = ℕ} 0 1 = cc in omega arith)

    said : (t : Option ℕ) → TableFits t → Saying t ⊎ (t ≡ None)
    said None h = inr refl
    said (Some n) h = inl h

-- ---- the parts of a job

vertices_read : Reads VerticesFit vertices_text vertices_at
unfolding vertices_at vertices_text
vertices_read =
    chain length _ (number_line_lem "vertices=" most_vertices (omega arith)) (λ vs h. h.few)
    (λ n i.
    reshaped (lines_reads (floats_line_lem "v=") n)
    (λ vs h. (record { few = subst (λ (k : ℕ). k ≤ most_vertices) (sym h.0) i; fit = h.1 }, h.0))
    (λ vs h. (h.1, h.0.fit))
    (λ vs h. refl))

-- the buffer for indices holds those of either topology
pub most_held : (t : Topology) → most_indices t ≤ index_room
most_held TriangleList = omega arith
most_held TriangleStrip = omega arith

module _ (t : Topology) where
  -- indices that are given
  Many : TextIndices → Type 0
  Many none = ⊥
  Many (these is) = IndicesFit t (these is)

  given_read : Reads Many indices_text
      (λ s. follow (number_line (bytes "indices=") (most_indices t) s) (λ n s. follow (lines_at n index_at s) (λ is s. took (these is) s)))
  unfolding Many indices_text
  given_read =
      reshaped
      (chain {g = λ l. lines index_line (index_list l) ++ []} (λ (l : TextIndices). length (index_list l)) _
      (number_line_lem "indices=" (most_indices t) (omega (arith, most_held t)))
      (λ l h. few l h)
      (λ n i.
      chain index_list _ (lines_reads index n) (λ l h. (h.1, fit l h.0))
      (λ is k.
      finished (these is) ((record { few = subst (λ (m : ℕ). m ≤ most_indices t) (sym k.0) i; fit = k.1 }, k.0), refl)
      (λ l h. same l is h.0.0 h.1))))
      (λ l h. h)
      (λ l h. h)
      (λ l h. text l h)
    where
      index : Reads Word index_line index_at
      index = reshaped (number_line_lem "i=" 4294967295 (omega arith)) (λ n h. omega arith) (λ n h. omega arith) (λ n h. refl)

      few : (l : TextIndices) → Many l → length (index_list l) ≤ most_indices t
      few none h = absurd h
      few (these is) h = h.few

      fit : (l : TextIndices) → Many l → All Word (index_list l)
      fit none h = absurd h
      fit (these is) h = h.fit

      same : (l : TextIndices) (is : List ℕ) → Many l → index_list l ≡ is → l ≡ these is
      same none is h e = absurd h
      same (these js) is h e = ap these e

      text : (l : TextIndices) → Many l → line "indices=" (decimal (length (index_list l))) ++ (lines index_line (index_list l) ++ []) ≡ indices_text l
      text none h = absurd h
      text (these is) h = ap (λ (k : List ℕ). line "indices=" (decimal (length is)) ++ k) (append-nil (lines index_line is))

-- the digit that a count begins with is not the n of `none`
not_none : (c : ℕ) (s : List ℕ) → c < 58 → word_at (bytes "indices=none\n") (bytes "indices=" ++ (c ∷ s)) ≡ nothing
unfolding word_at
not_none c s h = rw (ne_eqb c 110 (λ e. omega arith))

digits_then : (is : List ℕ) (r : List ℕ)
    → indices_text (these is) ++ r ≡ bytes "indices=" ++ (decimal (length is) ++ (lf ∷ (lines index_line is ++ r)))
unfolding indices_text line
digits_then is r = simp append_assoc

module _ (t : Topology) where
  apart : (l : TextIndices) (r : List ℕ)
      → Many t l
      → follow (word_at (bytes "indices=none\n") (indices_text l ++ r)) (λ u s. took none s) ≡ nothing
  unfolding Many
  apart none r h = absurd h
  apart (these is) r h =
      let d = starts 9 (length is) (omega (arith, h.few, most_held t)) in
      let rest = lf ∷ (lines index_line is ++ r) in
      follows_not _
      (ap (word_at (bytes "indices=none\n")) (digits_then is r ∙ ap (λ (l : List ℕ). bytes "indices=" ++ (l ++ rest)) d.2)
      ∙ not_none d.0 (d.1 ++ rest) d.3)

  indices_read : Reads (IndicesFit t) indices_text (indices_at t)
  unfolding indices_at Many All indices_text line
  indices_read =
      reshaped (either_reads (constant_reads (bytes "indices=none\n") none refl) (given_read t) (λ l r h b. apart l r h)) (λ l h. fits l h) (λ l h. one l h)
      (λ l h. refl)
    where
      fits : (l : TextIndices) → (l ≡ none) ⊎ Many t l → IndicesFit t l
      fits none h = record { few = omega arith; fit = tt }
      fits (these is) (inl e) = absurd (let z : ◌≡◌ {A = ℕ} 0 1 = cc in omega arith)
      fits (these is) (inr h) = h

      one : (l : TextIndices) → IndicesFit t l → (l ≡ none) ⊎ Many t l
      one none h = inl refl
      one (these is) h = inr h

-- a line that may be left out is read before the line that must follow it; the last of the head is one, which is read before the vertices
head_read : ReadsBefore NoSign HeadFits head_text head_at
unfolding head_at head_text
head_read =
    reshaped
    (chain {g = λ h. line "first=" (floats h.first) ++ (line "size=" (floats h.size) ++ (upright_text h.upright ++ (line "topology=" (topology_text h.topology) ++ (sign_text h.sign ++ []))))}
    (λ (h : Head). h.count) _ count_line_lem (λ h i. (i.counts_fit, i.cells_few))
    (λ count ic.
    chain {g = λ h. line "size=" (floats h.size) ++ (upright_text h.upright ++ (line "topology=" (topology_text h.topology) ++ (sign_text h.sign ++ [])))}
    (λ (h : Head). h.first) _ (floats_line_lem "first=") (λ h i. i.0.first_fits)
    (λ first if.
    chain {g = λ h. upright_text h.upright ++ (line "topology=" (topology_text h.topology) ++ (sign_text h.sign ++ []))}
    (λ (h : Head). h.size) _ (floats_line_lem "size=") (λ h i. i.0.0.size_fits)
    (λ size is.
    option_then None upright_line_lem refl {g = λ h. line "topology=" (topology_text h.topology) ++ (sign_text h.sign ++ [])}
    (λ (h : Head). h.upright) _ (λ h r i b. before_topology h.topology _ r) (λ h i. said_or_not h.upright)
    (λ upright iu.
    chain {g = λ h. sign_text h.sign ++ []} (λ (h : Head). h.topology) _ topology_line_lem (λ h i. tt)
    (λ topology it.
    chain_before (λ (h : Head). h.sign) _ sign_line (λ h r i b. b) (λ h i. tt)
    (λ sign ig.
    finished (head count first size upright topology sign)
    ((((((record { counts_fit = ic.0; cells_few = ic.1; first_fits = if; size_fits = is }, refl), refl), refl), refl), refl), refl)
    (λ h i. rw (← i.0.0.0.0.0.1, ← i.0.0.0.0.1, ← i.0.0.0.1, ← i.0.0.1, ← i.0.1, ← i.1)))))))))
    (λ h i. i)
    (λ h i. i)
    (λ h i. simp (append_assoc, append-nil))

-- the last line of the tail may be left out, and is read before the end of the text
tail_read : ReadsLast TailFits tail_text tail_at
unfolding tail_at tail_text
tail_read =
    reshaped
    (chain {g = λ t. line "pops=" (decimal t.limit) ++ (table_text t.table ++ [])} (λ (t : Tail). t.room) _
    (number_line_lem "queue=" most_entries (omega arith))
    (λ t i. i.room_few)
    (λ room ir.
    chain {g = λ t. table_text t.table ++ []} (λ (t : Tail). t.limit) _ (number_line_lem "pops=" 4294967295 (omega arith))
    (λ t i. let w = i.0.limit_fits in omega arith)
    (λ limit il.
    chain_before (λ (t : Tail). t.table) _ table_read (λ t r i b. b) (λ t i. i.0.0.table_fits)
    (λ table it.
    finished (tail room limit table) (((record { room_few = ir; limit_fits = omega arith; table_fits = it }, refl), refl), refl)
    (λ t i. rw (← i.0.0.1, ← i.0.1, ← i.1))))))
    (λ t i. i)
    (λ t i. i)
    (λ t i. simp (append_assoc, append-nil))

-- ---- the whole

-- the vertices do not begin as the line that may be left out does
before_vertices : (vs : List Three) (others r : List ℕ) → NoSign ((vertices_text vs ++ others) ++ r)
unfolding normal_line one_of word_at follow or_try vertices_text line
before_vertices vs others r = refl

-- where the text ends
job_reads : ReadsLast Readable job_text job_at
unfolding job_at job_text
job_reads =
    reshaped
    (chain_before {g = λ j. vertices_text j.vertices ++ (indices_text j.indices ++ (tail_text j.tail ++ []))} (λ (j : TextJob). j.head) _ head_read
    (λ j r i b. before_vertices j.vertices _ r)
    (λ j i. i.head_fits)
    (λ h ih.
    chain {g = λ j. indices_text j.indices ++ (tail_text j.tail ++ [])} (λ (j : TextJob). j.vertices) _ vertices_read
    (λ j i. i.0.vertices_fit)
    (λ vs iv.
    chain {g = λ j. tail_text j.tail ++ []} (λ (j : TextJob). j.indices) _ (indices_read h.topology)
    (λ j i. subst (λ (k : Head). IndicesFit k.topology j.indices) i.0.1 i.0.0.indices_fit)
    (λ is ii.
    chain_before (λ (j : TextJob). j.tail) _ tail_read (λ j r i b. b) (λ j i. i.0.0.0.tail_fits)
    (λ t it.
    finished (assembled h vs is t)
    ((((record { head_fits = ih; vertices_fit = iv; indices_fit = ii; tail_fits = it }, refl), refl), refl), refl)
    (λ j i. rw (← i.0.0.0.1, ← i.0.0.1, ← i.0.1, ← i.1)))))))
    (λ j i. i)
    (λ j i. i)
    (λ j i. simp (append_assoc, append-nil))

-- what is taken whole is the text of a job within the limits
pub whole_taken : (s : List ℕ) (j : TextJob) (r : List ℕ) → whole_job s ≡ took j r → Readable j × (s ≡ job_text j)
unfolding whole_job
whole_taken = whole_sound job_reads

pub whole_takes : (j : TextJob) → Readable j → whole_job (job_text j) ≡ took j []
unfolding whole_job
whole_takes = whole_complete job_reads

-- what is refused is the text of no such job
pub whole_refused : (s : List ℕ) → whole_job s ≡ nothing → (j : TextJob) → Readable j → s ≡ job_text j → ⊥
whole_refused s e j i q = never (sym (ap whole_job q) ∙ e) (whole_takes j i)

-- a job has one text by the definition of `job_text`, and a text has one job
pub one_job : (j k : TextJob) → Readable j → Readable k → job_text j ≡ job_text k → j ≡ k
one_job j k i h e =
    let p = whole_takes j i in
    let q : whole_job (job_text j) ≡ took k [] = ap whole_job e ∙ whole_takes k h in
    cc
