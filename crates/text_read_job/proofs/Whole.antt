-- From what the reader on lists finds to what `whole_job` promises: what it took is the text of the job that the record and the slices hold,
-- and what it refused is the text of no job within the limits.
use Prim.Native.Nat.{ℕ, ◌≤◌, ◌<◌}
use native.Mathlib.Omega.{arith}
use mathlib.Core.Path.{◌≡◌, refl, sym, ap, ◌∙◌, subst}
use mathlib.Core.List.{List, []}
use lib.ListN.{length, take, drop}
use Rattle.std.specs.Prelude.{Some}
use Rattle.mesh_topology.specs.declared.Topology.{Topology}
use Rattle.mesh_topology.specs.declared.Indices.{Indices}
use Rattle.mesh_topology.specs.declared.Indices.TheVariants.{Given, None}
use Rattle.text.specs.Limits.{most_vertices, most_indices, coordinate_room}
use Rattle.text.specs.TextJob.{TextJob, Readable, job_text, given_of, index_list}
use Rattle.text.specs.Reader.{took, nothing, job_at, at_end, whole_job}
use Rattle.text.proofs.Job.{whole_taken, whole_refused}
use Rattle.text.proofs.Calls.{onward, stopped}
use Rattle.text.proofs.Places.{here, past}
use Rattle.text_read_job.specs.declared.Asked.{Asked}
use Rattle.text_read_parts.specs.Told.{listed_as, stored}
use Rattle.text_read_job.specs.Told.{job_in}
use Rattle.text_read_job.specs.Reading.{ReadsAs}
use Rattle.text_read_parts.proofs.Threes.{threes_flat, threes_length}

given_told : (g : Indices) (l : List ℕ) → g ≡ given_of (listed_as g l)
given_told Given l = refl
given_told None l = refl

indices_told : (t : Topology) (g : Indices) (n : ℕ) (l : List ℕ) → stored t g n → take n l ≡ index_list (listed_as g (take n l))
indices_told t Given n l h = refl
indices_told t None n l h = ap (λ (k : ℕ). take k l) h

few_told : (t : Topology) (g : Indices) (n : ℕ) → stored t g n → n ≤ most_indices t
few_told t Given n h = h
few_told t None n h = omega arith

-- all parts were taken, and the text ends there
pub tells : (text : List ℕ) (k : ℕ) (vertices indices : List ℕ) (a : Asked)
    → coordinate_room ≤ length vertices
    → stored a.head.topology a.given a.indices
    → length text ≤ k
    → took (job_in a vertices indices) (drop k text) ≡ job_at text
    → ReadsAs text vertices indices (Some a)
unfolding whole_job at_end
tells text k vertices indices a long n end e =
    let j = job_in a vertices indices in
    let whole : took j [] ≡ whole_job text = ap (λ (s : List ℕ). at_end j s) (sym (past text k end)) ∙ onward at_end e in
    let h = whole_taken text j [] (sym whole) in
    let few : a.vertices ≤ most_vertices = subst (λ (m : ℕ). m ≤ most_vertices) (threes_length a.vertices vertices) h.0.vertices_fit.few in (
      j,
      h.0,
      h.1,
      record {
        head_is = refl;
        vertices_are = sym (threes_flat a.vertices vertices (omega arith));
        vertices_few = few;
        given_is = given_told a.given _;
        indices_are = indices_told a.head.topology a.given a.indices indices n;
        indices_few = few_told a.head.topology a.given a.indices n;
        tail_is = refl;
      },
    )

-- a part was not found
pub refuses : (text : List ℕ) → nothing ≡ job_at text → (j : TextJob) → Readable j → text ≡ job_text j → ⊥
unfolding whole_job
refuses text e = whole_refused text (sym (stopped at_end e))

-- something stands behind the last line
pub refuses_more : (text : List ℕ) (k : ℕ) {i : TextJob}
    → k < length text
    → took i (drop k text) ≡ job_at text
    → (j : TextJob)
    → Readable j
    → text ≡ job_text j
    → ⊥
unfolding whole_job at_end
refuses_more text k {i = i} h e =
    let whole : nothing ≡ whole_job text = ap (λ (s : List ℕ). at_end i s) (sym (here text k h)) ∙ onward at_end e in
    whole_refused text (sym whole)
