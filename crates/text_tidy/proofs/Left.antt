-- What the call comes to over outputs of the right lengths, printed, is what is owed. 5 cannot come, so it is refused by the mesh's own
-- checks, or its outputs hold the tidied mesh in front of zeros, with the firsts and the causes, which are few and small. Assumes nothing.
use Prim.Native.Nat.{ℕ, zero, suc, ◌+◌, ◌-◌, ◌*◌, ◌≤◌, ◌<◌}
use native.Mathlib.Decide.{ℕ_discrete}
use native.Mathlib.Omega.{arith}
use mathlib.Core.Path.{◌≡◌, refl, sym, ap, ap₂, ◌∙◌}
use mathlib.Core.Bool.{Bool, true, false, cond}
use mathlib.Core.List.{List, ◌++◌}
use lib.ListN.{length, get_or, take, replicate, length-append, length-replicate, get_or-append}
use lib.Seq.{take_at}
use lib.Ieee.{Float, nan}
use borrow.Author.Tests.{eq-eqb}
use Rattle.lists.specs.Table.{table}
use Rattle.lists.proofs.Joined.{joined_same}
use Rattle.lists.proofs.Table.{length_table, table_at, table_same}
use Rattle.mesh_topology.specs.declared.Topology.TheVariants.{TriangleList}
use Rattle.mesh_explicit.specs.Explicit.{explicit}
use Rattle.mesh_explicit.proofs.Laws.{explicit_long}
use Rattle.mesh.specs.Mesh.{Mesh}
use Rattle.job_checks.proofs.MeshPassed.{mesh_passed}
use Rattle.picks.specs.Picks.{some}
use Rattle.refusals.specs.Numbers.{Reply, refused, given}
use Rattle.tidy.specs.Padded.{padded, plus_zero}
use Rattle.tidy.specs.Numbers.{two_equal_numbers, same_numbers}
use Rattle.tidy.specs.Tidy.{vertex_bits, vertex_total, triangle_total, first_of, merged, cause, kept_vertices, kept_triangles}
use Rattle.tidy.specs.Tidy.{tidied_coordinates, tidied_triangles, tidied}
use Rattle.tidy.proofs.Kept.{first}
use Rattle.tidy.proofs.Tidied.{vertices_are, coordinates_long, triangles_are, triangles_long}
use Rattle.tidy.proofs.Again.{no_more_vertices, no_more_triangles}
use Rattle.tidy_mesh.specs.declared.Kept.{Kept}
use Rattle.tidy_mesh.specs.Outcome.{TidyLent, outputs_of, wrong_outputs, tidy_refusal, tidy_left, kept_counts, tidy_by, tidy_outcome, GivesTidy}
use Rattle.tidy_mesh.proofs.Refused.{by_mesh, by_none}
use Rattle.text.specs.declared.Head.{Head}
use Rattle.text.specs.declared.Tail.{Tail}
use Rattle.text.specs.TextJob.{these, job_text}
use Rattle.text.specs.Answering.{answer_line}
use Rattle.text.specs.Reader.{assembled}
use Rattle.text_read_job.specs.declared.Asked.{Asked}
use Rattle.text_tidy.specs.declared.Went.{Went}
use Rattle.text_tidy.specs.declared.Went.TheVariants.{Merged, Dropped}
use Rattle.text_tidy.specs.Tidied.{mesh_refusal, went_line, went_lines, merge_lines, drop_lines, vertex_said, tidied_by, printed_by}
use Rattle.text_tidy.specs.Parts.{Short, left_text, RoomForLeft, RightlyLent}

-- ---- what the outputs hold, as text

-- a table's lines are those of its entries
table_lines : (w : Went) (f : ℕ → ℕ) (n : ℕ) → went_lines w (λ i. get_or (table f n) i 0) (length (table f n)) ≡ went_lines w f n
unfolding went_line
table_lines w f n =
    ap (went_lines w (λ i. get_or (table f n) i 0)) (length_table f n)
    ∙ joined_same (went_line w (λ i. get_or (table f n) i 0)) (went_line w f) n (λ i h.
    ap (λ (v : ℕ). went_line w (λ _. v) i) (table_at f n i 0 h))

module _ (m : Mesh) where
  -- the tidied coordinates and what stands behind them
  vertex_in_front : (rest : List Float) (i : ℕ) → i < kept_vertices m
      → vertex_said ((tidied m).vertices ++ rest) i ≡ vertex_said (tidied m).vertices i
  unfolding vertex_bits
  vertex_in_front rest i h =
      let at : (j : ℕ) → j < 3 * kept_vertices m → get_or ((tidied m).vertices ++ rest) j nan ≡ get_or (tidied m).vertices j nan =
      λ j w. get_or-append (tidied m).vertices rest nan j (omega (arith, coordinates_long m)) in
      rw (at (3 * i) (omega arith), at (3 * i + 1) (omega arith), at (3 * i + 2) (omega arith))

  -- in front of zeros
  vertices_left : (n : ℕ) → let zeros-behind = padded plus_zero n (tidied_coordinates m) in
      table (vertex_said zeros-behind) (kept_vertices m) ≡ table (vertex_said (tidied m).vertices) (kept_vertices m)
  vertices_left n =
      let rest = replicate (n - length (tidied_coordinates m)) plus_zero in
      ap (λ (l : List Float). table (vertex_said (l ++ rest)) (kept_vertices m)) (sym (vertices_are m))
      ∙ table_same (vertex_said ((tidied m).vertices ++ rest)) (vertex_said (tidied m).vertices) (kept_vertices m) (vertex_in_front rest)

  -- three indices for each kept triangle
  indices_long : length (explicit (tidied_triangles m)) ≡ 3 * kept_triangles m
  indices_long = omega (arith, explicit_long (tidied_triangles m), ap length (triangles_are m), triangles_long m)

  indices_left : (n : ℕ) → take (3 * kept_triangles m) (padded 0 n (explicit (tidied_triangles m))) ≡ (tidied m).indices
  unfolding tidied
  indices_left n =
      let is = explicit (tidied_triangles m) in
      take_at is (replicate (n - length is) 0) (3 * kept_triangles m) indices_long

  left_is : (a : Asked) → left_text a (kept_counts m) (tidy_left m) ≡ merge_lines m ++ drop_lines m ++ job_text (tidied_by a.head m a.tail)
  left_is a =
      let merges = table_lines Merged (first_of m) (vertex_total m) in
      let drops = table_lines Dropped (cause m) (triangle_total m) in
      let vs = vertices_left (length m.vertices) in
      let is = indices_left (3 * triangle_total m) in
      λ i. merges i ++ drops i ++ job_text (assembled a.head (vs i) (these (is i)) a.tail)

  -- ---- the room for it

  cause_small : (k : ℕ) → cause m k < 1000
  unfolding cause
  cause_small k = by (two_equal_numbers (merged m k)) (some (λ j. same_numbers (merged m j) (merged m k)) k)
    where
      by : (a b : Bool) → cond a 1 (cond b 2 0) < 1000
      by true b = omega arith
      by false true = omega arith
      by false false = omega arith

  -- a table of few small numbers
  table_short : (f : ℕ → ℕ) (n : ℕ) → n ≤ 1000 → ((i : ℕ) → i < n → f i < 1000) → Short (table f n)
  table_short f n few small =
      record {
        few = omega (arith, length_table f n);
        small = λ i h. let w : i < n = omega (arith, length_table f n) in rw (table_at f n i 0 w) (small i w);
      }

  module _ (lent : TidyLent) {out : List ℕ} (r : RightlyLent m lent out) where
    left_fits : (a : Asked) → a.head.topology ≡ TriangleList → RoomForLeft a (kept_counts m) (tidy_left m) out
    left_fits a list =
        let n = vertex_total m in
        let t = triangle_total m in
        let few_vertices = no_more_vertices m in
        let few_triangles = no_more_triangles m in
        let coordinates : length (tidied_coordinates m) ≡ 3 * kept_vertices m = sym (ap length (vertices_are m)) ∙ coordinates_long m in
        let tail = length m.vertices - length (tidied_coordinates m) in
        let padded-coordinates = length-append (tidied_coordinates m) (replicate tail plus_zero) in
        let zeros = length-replicate tail plus_zero in
        let padded-indices = length-append (explicit (tidied_triangles m)) (replicate (3 * t - length (explicit (tidied_triangles m))) 0) in
        record {
          merges_short =
              table_short (first_of m) n (omega (arith, r.vertices_few)) (λ i h. omega (arith, (first m i).not_after_lem, r.vertices_few));
          drops_short = table_short (cause m) t (omega (arith, r.triangles_few)) (λ i h. cause_small i);
          kept_fits = record {
            room = omega (arith, length_table (first_of m) n, length_table (cause m) t, r.vertices_few, r.triangles_few, r.room);
            vertices_few = omega (arith, r.vertices_few);
            vertices_held = omega arith;
            coordinates_few = omega (arith, r.vertices_few);
            indices_few = rw list (omega (arith, r.triangles_few));
            indices_held = omega (arith, indices_long);
          };
        }

-- ---- the answer

module _ {m : Mesh} {lent : TidyLent} {out : List ℕ} (r : RightlyLent m lent out) where
  right_lengths : wrong_outputs m (outputs_of lent) ≡ false
  right_lengths =
      rw (eq-eqb _ _ r.coordinates_long, eq-eqb _ _ r.indices_long, eq-eqb _ _ r.firsts_long, eq-eqb _ _ r.causes_long)

  -- "then 5 for lent lengths", which are right
  pub never_five : tidy_refusal m lent ≡ mesh_refusal m
  never_five = by (ℕ_discrete (mesh_refusal m) 0)
    where
      by : Dec (mesh_refusal m ≡ 0) → tidy_refusal m lent ≡ mesh_refusal m
      by (yes z) = by_none m lent z right_lengths ∙ sym z
      by (no z) = by_mesh m lent z

  module _ {answer : Reply Kept} {left : TidyLent} (g : GivesTidy (tidy_outcome m lent) answer left) where
    answers_so : answer ≡ (tidy_by (mesh_refusal m) m lent).answer
    unfolding tidy_outcome
    answers_so = g.answers ∙ ap (λ (n : ℕ). (tidy_by n m lent).answer) never_five

    leaves_so : left ≡ (tidy_by (mesh_refusal m) m lent).left
    unfolding tidy_outcome
    leaves_so = g.leaves ∙ ap (λ (n : ℕ). (tidy_by n m lent).left) never_five

    -- a refusal is printed alone
    pub refused_so : (h : Head) (t : Tail) (n : ℕ) → answer ≡ refused n → printed_by (mesh_refusal m) h m t ≡ answer_line n
    unfolding printed_by
    refused_so h t n e = by (mesh_refusal m) (sym e ∙ answers_so)
      where
        by : (k : ℕ) → refused n ≡ (tidy_by k m lent).answer → printed_by k h m t ≡ answer_line n
        by zero f = absurd (let z : ◌≡◌ {A = ℕ} 0 1 = cc in omega arith)
        by (suc k) f = let z : suc k ≡ n = cc in ap answer_line z

    -- what is tidied was not refused, and the outputs are those of the mesh
    tidied_so : (k : Kept) → answer ≡ given k → (mesh_refusal m ≡ 0) × (k ≡ kept_counts m) × (left ≡ tidy_left m)
    tidied_so k e = by (mesh_refusal m) refl (sym e ∙ answers_so) leaves_so
      where
        by : (n : ℕ) → mesh_refusal m ≡ n → given k ≡ (tidy_by n m lent).answer → left ≡ (tidy_by n m lent).left
            → (mesh_refusal m ≡ 0) × (k ≡ kept_counts m) × (left ≡ tidy_left m)
        by zero z f l = let same : k ≡ kept_counts m = cc in (z, same, l)
        by (suc n) z f l = absurd (let w : ◌≡◌ {A = ℕ} 0 1 = cc in omega arith)

    module _ (a : Asked) (k : Kept) (e : answer ≡ given k) where
      pub tidied_fits : a.head.topology ≡ m.topology → RoomForLeft a k left out
      tidied_fits same =
          let so = tidied_so k e in
          rw (so.1, so.2) (left_fits m lent r a (same ∙ (mesh_passed m so.0).a_list))

      pub tidied_printed : left_text a k left ≡ printed_by (mesh_refusal m) a.head m a.tail
      unfolding printed_by
      tidied_printed =
          let so = tidied_so k e in
          ap₂ (λ (q : Kept) (l : TidyLent). left_text a q l) so.1 so.2
          ∙ left_is m a
          ∙ sym (ap (λ (n : ℕ). printed_by n a.head m a.tail) so.0)
