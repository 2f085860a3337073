-- What the converter comes to, from what its text was read as: the conversion of an old job, or `answer=9` for a text that is unreadable, or
-- readable today with more indices than an old job has. Assumes nothing.
use Prim.Native.Nat.{ℕ, ◌≤◌, ◌<◌}
use native.Mathlib.Omega.{arith}
use mathlib.Core.Path.{◌≡◌, refl, sym, ap, ◌∙◌}
use mathlib.Core.List.{List}
use lib.ListN.{length}
use lib.Seq.{length-take-le}
use Rattle.mesh_topology.specs.declared.Indices.{Indices}
use Rattle.mesh_topology.specs.declared.Indices.TheVariants.{Given, None}
use Rattle.lists.specs.Put.{Put}
use Rattle.lists.proofs.Puts.{said}
use Rattle.text.specs.Limits.{coordinate_room, index_room, text_room}
use Rattle.text.specs.TextJob.{TextJob, index_list, Readable, job_text}
use Rattle.text.specs.Answering.{Answered, answer_line}
use Rattle.text.proofs.Job.{one_job}
use Rattle.text_read_job.specs.declared.Asked.{Asked}
use Rattle.text_read_job.specs.Told.{job_in}
use Rattle.text_read_job.specs.Reading.{HoldsJob}
use Rattle.text_read_job.proofs.Held.{held_is, held_none, bits_held, indices_held}
use Rattle.text_write_job.specs.Written.{most_given, RoomToWrite}
use Rattle.text_convert.specs.Converted.{converted, old_most_indices, OldJob, Converts, conversion_of, no_old_job}

module _ {j : TextJob} {a : Asked} {vertices indices : List ℕ} (h : HoldsJob j a vertices indices) (bits_long : coordinate_room ≤ length vertices) (indices_long : index_room ≤ length indices) where
  few_given : (g : Indices) → a.given ≡ g → a.indices ≤ most_given a.head.topology g
  few_given Given e = h.indices_few
  few_given None e = omega (arith, held_none h (indices_held h indices_long) e)

  pub writable : {out : List ℕ} → text_room ≤ length out → RoomToWrite a vertices indices out
  writable room =
      record {
        room = room;
        vertices_few = h.vertices_few;
        vertices_held = bits_held h bits_long;
        indices_few = few_given a.given refl;
        indices_held = indices_held h indices_long;
      }

  -- as many indices as the job has
  counted : length (index_list j.indices) ≡ a.indices
  counted = sym (ap length h.indices_are) ∙ length-take-le a.indices indices (indices_held h indices_long)

  pub answered : {text old new : List ℕ} {n : ℕ}
      → Readable j
      → text ≡ job_text j
      → a.indices ≤ old_most_indices
      → Put old 0 (job_text (converted (job_in a vertices indices))) new n
      → Answered Converts text old new n
  answered r e few p =
      let is = held_is h (bits_held h bits_long) in
      record {
        output = job_text (converted j);
        owes = conversion_of j (record { readable = r; few_indices = omega (arith, counted) }) e refl;
        put = said (ap (λ (k : TextJob). job_text (converted k)) (sym is)) refl p;
      }

  -- a text has one job, and that one has too many indices
  pub too_many_lem : {text : List ℕ} → Readable j → text ≡ job_text j → old_most_indices < a.indices → (k : TextJob) → OldJob k → text ≡ job_text k → ⊥
  too_many_lem r e many k o f =
      let same = ap (λ (l : TextJob). length (index_list l.indices)) (one_job j k r o.readable (sym e ∙ f)) in
      omega (arith, counted, same, o.few_indices)

pub nine : {text old new : List ℕ} {n : ℕ} → ((j : TextJob) → OldJob j → text ≡ job_text j → ⊥) → Put old 0 (answer_line 9) new n → Answered Converts text old new n
nine none p = record { output = answer_line 9; owes = no_old_job none refl; put = p }
