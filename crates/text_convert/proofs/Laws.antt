-- What a conversion keeps: it names the same triangles in the same order, it says of upright axis, signs and edition what the job said, it is within
-- the limits where the job was, and a conversion is converted to itself. A strip of n corners has n − 2 triangles, and 3 · (768 − 2) is 2,298.
-- Assumes nothing.
use Prim.Native.Nat.{ℕ, zero, suc, ◌+◌, ◌*◌, ◌≤◌}
use native.Mathlib.Omega.{arith}
use mathlib.Core.Path.{◌≡◌, refl, sym, ap, ◌∙◌, subst}
use mathlib.Core.List.{List, [], ◌∷◌}
use lib.ListN.{length}
use Rattle.lists.specs.Joined.{each}
use Rattle.mesh_topology.specs.declared.Topology.{Topology}
use Rattle.mesh_topology.specs.declared.Topology.TheVariants.{TriangleList, TriangleStrip}
use Rattle.mesh_topology.specs.declared.Indices.{Indices}
use Rattle.mesh_topology.specs.Topology.{count_from, corners, windows, triangles, triangles_of}
use Rattle.mesh_topology.proofs.Laws.{corners_fit, count_is}
use Rattle.mesh_explicit.specs.Explicit.{explicit}
use Rattle.mesh_explicit.proofs.Laws.{explicit_names, explicit_long}
use Rattle.text.specs.Limits.{most_vertices, most_indices}
use Rattle.text.specs.TextJob.{TextJob, TextIndices, none, these, Word, All, index_list, given_of, IndicesFit, Readable, job_text}
use Rattle.text.proofs.Job.{one_job}
use Rattle.text.proofs.Said.{numbers_fit}
use Rattle.text_convert.specs.Converted.{triangles_named, as_list, converted_by, converted, OldJob, Converts, conversion_of, no_old_job}

pub list_stays : (j : TextJob) → j.head.topology ≡ TriangleList → converted j ≡ j
unfolding converted_by
list_stays j e = ap (λ (t : Topology). converted_by t j) e

pub strip_listed : (j : TextJob) → j.head.topology ≡ TriangleStrip → converted j ≡ as_list j
unfolding converted_by
strip_listed j e = ap (λ (t : Topology). converted_by t j) e

-- "both name the same triangles in the same order"
pub same_triangles : (j : TextJob) → triangles_named (converted j) ≡ triangles_named j
unfolding converted_by
same_triangles j = by j.head.topology
  where
    by : (t : Topology) → triangles_named (converted_by t j) ≡ triangles_named j
    by TriangleList = refl
    by TriangleStrip = explicit_names (triangles_named j) (length j.vertices)

-- each line that may be left out is there where it was, with what it said, and nowhere else
pub said_as_before : (j : TextJob)
    → ((converted j).head.upright ≡ j.head.upright)
    × ((converted j).head.sign ≡ j.head.sign)
    × ((converted j).tail.table ≡ j.tail.table)
unfolding converted_by
said_as_before j = by j.head.topology
  where
    by : (t : Topology)
        → ((converted_by t j).head.upright ≡ j.head.upright)
        × ((converted_by t j).head.sign ≡ j.head.sign)
        × ((converted_by t j).tail.table ≡ j.tail.table)
    by TriangleList = (refl, refl, refl)
    by TriangleStrip = (refl, refl, refl)

-- a conversion is a list
pub list_of : (j : TextJob) → (converted j).head.topology ≡ TriangleList
unfolding converted_by
list_of j = by j.head.topology refl
  where
    by : (t : Topology) → j.head.topology ≡ t → (converted_by t j).head.topology ≡ TriangleList
    by TriangleList e = e
    by TriangleStrip e = refl

-- so it is converted to itself
pub converted_once : (j : TextJob) → converted (converted j) ≡ converted j
converted_once j = list_stays (converted j) (list_of j)

-- ---- within the limits of today

-- "so the longest old strip of 768 still fits": its corners are its indices, or its vertices
pub few_triangles : (given : Indices) (is : List ℕ) (vertices : ℕ)
    → length is ≤ most_indices TriangleStrip
    → vertices ≤ most_vertices
    → 3 * length (triangles_of TriangleStrip given is vertices) ≤ most_indices TriangleList
few_triangles given is vertices i v =
    omega (arith, count_is TriangleStrip (corners given is vertices), corners_fit given is vertices (most_indices TriangleStrip + 1) (omega arith) (omega arith))

words_from : (a n : ℕ) → a + n ≤ most_vertices → All Word (count_from a n)
unfolding count_from All
words_from a zero h = tt
words_from a (suc n) h = (omega arith, words_from (suc a) n (omega arith))

corner_words : (l : TextIndices) (vertices : ℕ) → All Word (index_list l) → vertices ≤ most_vertices → All Word (corners (given_of l) (index_list l) vertices)
corner_words none vertices w v = words_from 0 vertices (omega arith)
corner_words (these is) vertices w v = w

-- what holds of each corner holds of each number of each window
window_words : (cs : List ℕ) → All Word cs → All Word (explicit (windows cs))
unfolding windows each All
window_words [] h = tt
window_words (a ∷ []) h = tt
window_words (a ∷ b ∷ []) h = tt
window_words (a ∷ b ∷ c ∷ cs) h = (h.0, (h.1.0, (h.1.1.0, window_words (b ∷ c ∷ cs) h.1)))

-- a strip's triangles fit the lines of a list
strip_fits : (j : TextJob) → Readable j → j.head.topology ≡ TriangleStrip → IndicesFit TriangleList (these (explicit (triangles_named j)))
unfolding triangles
strip_fits j r e =
    let n = length j.vertices in
    let given = given_of j.indices in
    let is = index_list j.indices in
    let few : length is ≤ most_indices TriangleStrip = subst (λ (t : Topology). length is ≤ most_indices t) e r.indices_fit.few in
    rw e (
    record {
      few = omega (arith, explicit_long (triangles_of TriangleStrip given is n), few_triangles given is n few r.vertices_fit.few);
      fit = window_words (corners given is n) (corner_words j.indices n r.indices_fit.fit r.vertices_fit.few);
    })

pub still_readable : (j : TextJob) → Readable j → Readable (converted j)
unfolding converted_by
still_readable j r = by j.head.topology refl
  where
    by : (t : Topology) → j.head.topology ≡ t → Readable (converted_by t j)
    by TriangleList e = r
    by TriangleStrip e =
        record {
          head_fits = numbers_fit j.head j.head.upright TriangleList j.head.sign r.head_fits;
          vertices_fit = r.vertices_fit;
          indices_fit = strip_fits j r e;
          tail_fits = r.tail_fits;
        }

-- ---- of the program: an input has one output, and an output within the old limits is converted to itself

pub one_conversion : {input : List ℕ} (o p : List ℕ) → Converts input o → Converts input p → o ≡ p
one_conversion o p (conversion_of j i e u) (conversion_of k h f v) =
    u ∙ ap (λ (l : TextJob). job_text (converted l)) (one_job j k i.readable h.readable (sym e ∙ f)) ∙ sym v
one_conversion o p (conversion_of j i e u) (no_old_job n v) = absurd (n j i e)
one_conversion o p (no_old_job n u) (conversion_of k h f v) = absurd (n k h f)
one_conversion o p (no_old_job n u) (no_old_job m v) = u ∙ sym v

pub converts_once : (j : TextJob) → OldJob j → OldJob (converted j) → Converts (job_text (converted j)) (job_text (converted j))
converts_once j i h = conversion_of (converted j) h refl (ap job_text (sym (converted_once j)))

-- a list is printed unchanged, to the byte
pub list_unchanged : (j : TextJob) (output : List ℕ) → OldJob j → j.head.topology ≡ TriangleList → Converts (job_text j) output → output ≡ job_text j
list_unchanged j output i e c = one_conversion output (job_text j) c (conversion_of j i refl (ap job_text (sym (list_stays j e))))
