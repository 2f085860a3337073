-- What is known of the tidier's output: an input has one; a refusal is by 2, 13, 3 or 4; the tidied job says what the job said besides its
-- mesh, is within the limits, and is printed again as it is, with no merge and no drop. The last is from crate `tidy`: the tidied mesh
-- passes the checks, and tidying it once more loses nothing. Assumes nothing.
use Prim.Native.Nat.{ℕ, zero, suc, ◌≤◌, ◌<◌}
use native.Mathlib.Omega.{arith}
use mathlib.Core.Path.{◌≡◌, refl, sym, ap, ap₂, ◌∙◌, subst}
use mathlib.Core.Logic.{◌⊎◌}
use mathlib.Core.List.{List, [], ◌∷◌, ◌++◌, Memᴰ}
use lib.ListN.{length, get_or, get_or-replicate}
use Rattle.lists.specs.Joined.{joined, each}
use Rattle.lists.specs.Table.{table}
use Rattle.lists.proofs.Checks.{first_is}
use Rattle.lists.proofs.Table.{length_table, table_at}
use Rattle.mesh_topology.specs.declared.Topology.{Topology}
use Rattle.mesh_topology.specs.declared.Triangle.{Triangle}
use Rattle.mesh_topology.specs.Topology.{kth}
use Rattle.mesh_explicit.specs.Explicit.{explicit}
use Rattle.mesh_explicit.proofs.Laws.{explicit_long}
use Rattle.mesh.specs.Mesh.{Mesh, mesh_of, triangles_in}
use Rattle.float_bits.specs.Patterns.{floats_of}
use Rattle.job_checks.specs.Refusals.{mesh_checks}
use Rattle.job_checks.proofs.MeshPassed.{mesh_passed}
use Rattle.tidy.specs.Meaning.{NothingGoes}
use Rattle.tidy.specs.Tidy.{vertex_total, triangle_total, first_of, cause, kept_vertices, kept_triangles, vertex_from, tidied_triangles, tidied}
use Rattle.tidy.proofs.Numbers.{On, on_of}
use Rattle.tidy.proofs.Tidied.{triangles_are, triangles_long, vertices_in_turn, tidied_below}
use Rattle.tidy.proofs.Again.{no_more_vertices, no_more_triangles}
use Rattle.tidy.proofs.Twice.{nothing_more, counts_stay, twice}
use Rattle.tidy_mesh.proofs.Passes.{tidied_passes}
use Rattle.text.specs.Limits.{most_vertices, most_indices}
use Rattle.text.specs.TextJob.{TextJob, Word, Words, All, IndicesFit, Readable, index_list, given_of, flat, job_text, these}
use Rattle.text.specs.Reader.{three, assembled}
use Rattle.text.proofs.Job.{one_job}
use Rattle.text_tidy.specs.declared.Went.{Went}
use Rattle.text_tidy.specs.declared.Went.TheVariants.{Merged, Dropped}
use Rattle.text_tidy.specs.Tidied.{mesh_asked, mesh_refusal, staying, went_lines, merge_lines, drop_lines, vertex_said, tidied_by, tidied_job}
use Rattle.text_tidy.specs.Tidied.{printed_by, printed, Tidies, tidying_of, no_job}
use Rattle.text_tidy.proofs.Line.{stayed}
use Rattle.text_tidy.proofs.Read.{few_triangles}
use Rattle.text_tidy.proofs.Given.{all_at, vertices_counted, vertices_as_given, asks_for_tidied}

-- ---- of the program

-- an input has one output
pub one_tidying : {input : List ℕ} (o p : List ℕ) → Tidies input o → Tidies input p → o ≡ p
one_tidying o p (tidying_of j r e u) (tidying_of k s f v) = u ∙ ap printed (one_job j k r s (sym e ∙ f)) ∙ sym v
one_tidying o p (tidying_of j r e u) (no_job n v) = absurd (n j r e)
one_tidying o p (no_job n u) (tidying_of k s f v) = absurd (n k s f)
one_tidying o p (no_job n u) (no_job l v) = u ∙ sym v

-- "Refusals: 2, 13, 3, 4": no other number is printed for a job. (5 is `never_five` in Left.)
pub refused_by_lem : (m : Mesh) → (mesh_refusal m ≡ 0) ⊎ Memᴰ (mesh_refusal m) (2 ∷ 13 ∷ 3 ∷ 4 ∷ [])
refused_by_lem m = first_is (mesh_checks m)

-- No grid and no edition is looked at: what is printed but for the other lines goes by the mesh alone, and jobs of one topology, with the same
-- vertices and indices, have one mesh, whatever their grids and editions.
pub grid_not_asked : (j k : TextJob) → j.head.topology ≡ k.head.topology → j.vertices ≡ k.vertices → j.indices ≡ k.indices
    → mesh_asked j ≡ mesh_asked k
grid_not_asked j k t vs is = λ i. mesh_of (floats_of (flat (vs i))) (t i) (given_of (is i)) (index_list (is i))

-- ---- of the tidied job

-- all lines but those of the mesh are as they were said: of the grid, of the upright axis and of the signs, queue room, pop limit and the table's
-- edition
pub said_as_before : (j : TextJob) → ((tidied_job j).head ≡ j.head) × ((tidied_job j).tail ≡ j.tail)
said_as_before j = (refl, refl)

-- a table has what each of its entries has
table_all : {A : Type 0} (P : A → Type 0) (f : ℕ → A) (n : ℕ) → ((i : ℕ) → i < n → P (f i)) → All P (table f n)
unfolding table All
table_all P f zero h = tt
table_all P f (suc n) h = (h 0 (omega arith), table_all P (λ i. f (suc i)) n (λ i w. h (suc i) (omega arith)))

-- and a list of triangles what each of their numbers has
explicit_all : (P : ℕ → Type 0) (ts : List Triangle) → ((k : ℕ) → k < length ts → On P (kth ts k)) → All P (explicit ts)
unfolding each All
explicit_all P [] h = tt
explicit_all P (t ∷ ts) h =
    let on = h 0 (omega arith) in
    (on.a, (on.b, (on.c, explicit_all P ts (λ k w. h (suc k) (omega arith)))))

module _ (j : TextJob) (r : Readable j) (z : mesh_refusal (mesh_asked j) ≡ 0) where
  abbrev m : Mesh
  m = mesh_asked j

  few_kept : kept_vertices m ≤ most_vertices
  few_kept = omega (arith, no_more_vertices m, vertices_counted j r z, r.vertices_fit.few)

  -- its indices are those of the kept triangles
  indices_are : (tidied m).indices ≡ explicit (tidied_triangles m)
  unfolding tidied
  indices_are = refl

  indices_fit : IndicesFit j.head.topology (tidied_job j).indices
  indices_fit =
      let ts = tidied_triangles m in
      let long : length ts ≡ kept_triangles m = sym (ap length (triangles_are m)) ∙ triangles_long m in
      let few = few_triangles j.head.topology (given_of j.indices) (index_list j.indices) (vertex_total m) r.indices_fit.few
      (omega (arith, vertices_counted j r z, r.vertices_fit.few)) in
      let below : (k : ℕ) → k < length ts → On Word (kth (triangles_in (tidied m)) k) =
      λ k h.
      on_of (λ v. v < kept_vertices m) Word (kth (triangles_in (tidied m)) k) (λ v l. omega (arith, l, few_kept))
      (tidied_below m (mesh_passed m z).indices k (omega arith)) in
      record {
        few =
            subst (λ (t : Topology). length (tidied m).indices ≤ most_indices t) (sym (mesh_passed m z).a_list)
            (omega (arith, ap length indices_are, explicit_long ts, no_more_triangles m));
        fit =
            subst (All Word) (sym indices_are)
            (explicit_all Word ts (λ k h. subst (λ (l : List Triangle). On Word (kth l k)) (triangles_are m) (below k h)));
      }

  pub still_readable : Readable (tidied_job j)
  still_readable =
      let d = three 0 0 0 in
      record {
        head_fits = r.head_fits;
        vertices_fit = record {
          few = omega (arith, length_table (vertex_said (tidied m).vertices) (kept_vertices m), few_kept);
          fit = subst (All Words) (sym (vertices_as_given j r z d))
              (table_all Words (λ i. get_or j.vertices (vertex_from m i) d) (kept_vertices m) (λ i h.
              all_at Words d j.vertices (vertex_from m i) r.vertices_fit.fit
              (omega (arith, (vertices_in_turn m).below i h, vertices_counted j r z))));
        };
        indices_fit = indices_fit;
        tail_fits = r.tail_fits;
      }

-- ---- once more

-- where every number stays, no line is printed
none_went : (w : Went) (value : ℕ → ℕ) (n : ℕ) → ((i : ℕ) → i < n → value i ≡ staying w i) → went_lines w value n ≡ []
unfolding joined
none_went w value zero h = refl
none_went w value (suc n) h =
    ap₂ (λ (a : List ℕ) (b : List ℕ). a ++ b) (none_went w value n (λ i l. h i (omega arith))) (stayed w value n (h n (omega arith)))

pub no_merges : (m : Mesh) → NothingGoes m → merge_lines m ≡ []
no_merges m g =
    none_went Merged (first_of m) (vertex_total m) (λ v h.
    sym (table_at (first_of m) (vertex_total m) v 0 h)
    ∙ ap (λ (l : List ℕ). get_or l v 0) g.none_merged
    ∙ table_at (λ v. v) (vertex_total m) v 0 h)

pub no_drops : (m : Mesh) → NothingGoes m → drop_lines m ≡ []
no_drops m g =
    none_went Dropped (cause m) (triangle_total m) (λ k h.
    sym (table_at (cause m) (triangle_total m) k 0 h)
    ∙ ap (λ (l : List ℕ). get_or l k 0) g.none_dropped
    ∙ get_or-replicate (triangle_total m) k 0 0 h)

module _ (j : TextJob) (r : Readable j) (z : mesh_refusal (mesh_asked j) ≡ 0) where
  -- the tidied job is tidied to itself
  pub tidied_once : tidied_job (tidied_job j) ≡ tidied_job j
  tidied_once =
      let m = mesh_asked j in
      let ok = (mesh_passed m z).indices in
      let again = ap (λ (n : Mesh). tidied_by j.head n j.tail) (asks_for_tidied j r z) in
      let count = (counts_stay m ok).0 in
      again ∙ (λ i. assembled j.head (table (vertex_said (twice m ok i).vertices) (count i)) (these (twice m ok i).indices) j.tail)

  -- its text is printed as it is, with no merge and no drop
  pub printed_again : printed (tidied_job j) ≡ job_text (tidied_job j)
  unfolding printed_by
  printed_again =
      let m = mesh_asked j in
      let asks = asks_for_tidied j r z in
      let goes = nothing_more m (mesh_passed m z).indices in
      let none = ap mesh_refusal asks ∙ tidied_passes m z in
      let merges = ap merge_lines asks ∙ no_merges (tidied m) goes in
      let drops = ap drop_lines asks ∙ no_drops (tidied m) goes in
      ap (λ (n : ℕ). printed_by n j.head (mesh_asked (tidied_job j)) j.tail) none
      ∙ (λ i. merges i ++ drops i ++ job_text (tidied_once i))

  pub tidies_once : (output : List ℕ) → Tidies (job_text (tidied_job j)) output → output ≡ job_text (tidied_job j)
  tidies_once output t =
      one_tidying output (job_text (tidied_job j)) t (tidying_of (tidied_job j) (still_readable j r z) refl (sym printed_again))
