-- A job that was read, by its parts, is listed as its text asks; and a text has one answer, which is the same with the line `upright=z` as
-- without it, the same with the line `table=1` as without it, and 14 with another edition than 1 and 2. Assumes nothing.
use Prim.Native.Nat.{ℕ, ◌*◌, ◌≤◌}
use native.Mathlib.Omega.{arith}
use mathlib.Core.Path.{◌≡◌, refl, sym, ap, ◌∙◌, subst}
use mathlib.Core.Bool.{true, false}
use mathlib.Core.List.{List}
use lib.ListN.{length, take}
use lib.Seq.{length-take-le}
use Rattle.text.specs.declared.Head.{Head}
use Rattle.text.specs.declared.Tail.{Tail}
use Rattle.point.specs.declared.Axis.TheVariants.{Z}
use Rattle.std.specs.Prelude.{Some, None}
use Rattle.text.specs.Limits.{most_cells, most_entries, coordinate_room, listing_room}
use Rattle.text.specs.Answering.{Answered, answer_line}
use Rattle.text.specs.TextJob.{TextJob, cells_of, Word, Readable, job_text}
use Rattle.text.proofs.Job.{one_job}
use Rattle.text.proofs.Said.{saying, said_readable, saying_table, table_readable}
use Rattle.text_read_job.specs.declared.Asked.{Asked}
use Rattle.text_read_job.specs.Reading.{HoldsJob}
use Rattle.lists.specs.Put.{Put}
use Rattle.lists.proofs.Puts.{said}
use Rattle.float_bits.specs.Patterns.{floats_of}
use Rattle.job_checks.specs.Refusals.{wrong_grid, wrong_edition}
use Rattle.listing.specs.Listing.{grid_of, job_by, lent_for, listing, Prints, listing_of, unreadable}
use Rattle.listing.proofs.AskedJob.{z_or_nothing_listed, one_or_nothing_listed, other_edition_listed}
use Rattle.listing_run.specs.Parts.{listed_of, held_job, Small}

module _ {j : TextJob} {a : Asked} {vertices indices : List ℕ} (h : HoldsJob j a vertices indices) where
  -- the job that the record holds, over buffers for it
  abbrev pub held : List ℕ
  held = listed_of (held_job a (floats_of (take (3 * a.vertices) vertices)) (take a.indices indices)) (lent_for a.head a.tail)

  -- is listed as its text asks
  held_listed : held ≡ listing j
  unfolding listed_of
  held_listed =
      λ i.
      listed_of (job_by (h.head_is i) (floats_of (h.vertices_are i)) (h.given_is i) (h.indices_are i) (h.tail_is i))
      (lent_for (h.head_is i) (h.tail_is i))

  pub small : {out : List ℕ} → Readable j → coordinate_room ≤ length vertices → listing_room ≤ length out → Small a (take (3 * a.vertices) vertices) out
  small r long room =
      record {
        cells_few = subst (λ (k : Head). cells_of k.count ≤ most_cells) (sym h.head_is) r.head_fits.cells_few;
        coordinates_few = omega (arith, length-take-le (3 * a.vertices) vertices (omega (arith, h.vertices_few)), h.vertices_few);
        entries_few = subst (λ (k : Tail). k.room ≤ most_entries) (sym h.tail_is) r.tail_fits.room_few;
        room = room;
      }

  pub answered : {text old new : List ℕ} {n : ℕ} → Readable j → text ≡ job_text j → Put old 0 held new n → Answered Prints text old new n
  answered r e p = record { output = listing j; owes = listing_of j r e refl; put = said held_listed refl p }

-- "One call has one possible outcome": an input has one output
pub one_output : {input : List ℕ} (o p : List ℕ) → Prints input o → Prints input p → o ≡ p
one_output o p (listing_of j r e u) (listing_of k s f v) = u ∙ ap listing (one_job j k r s (sym e ∙ f)) ∙ sym v
one_output o p (listing_of j r e u) (unreadable n v) = absurd (n j r e)
one_output o p (unreadable n u) (listing_of k s f v) = absurd (n k s f)
one_output o p (unreadable n u) (unreadable m v) = u ∙ sym v

-- that of a job's text is its listing
printed_is : (j : TextJob) → Readable j → (o : List ℕ) → Prints (job_text j) o → o ≡ listing j
printed_is j r o p = one_output o (listing j) p (listing_of j r refl refl)

-- "without the line it is z": the line `upright=z` can be put in or left out (`said_between`, crates/text/proofs/Said.antt, has where)
pub z_or_nothing_printed : (j : TextJob) → Readable j → (o p : List ℕ)
    → Prints (job_text (saying None j)) o
    → Prints (job_text (saying (Some Z) j)) p
    → o ≡ p
z_or_nothing_printed j r o p without with =
    printed_is (saying None j) (said_readable None j r) o without
    ∙ z_or_nothing_listed j
    ∙ sym (printed_is (saying (Some Z) j) (said_readable (Some Z) j r) p with)

-- "a job without it is edition 1": the line `table=1` can be put at the end or left out (`said_last`, likewise)
pub one_or_nothing_printed : (j : TextJob) → Readable j → (o p : List ℕ)
    → Prints (job_text (saying_table None j)) o
    → Prints (job_text (saying_table (Some 1) j)) p
    → o ≡ p
one_or_nothing_printed j r o p without with =
    printed_is (saying_table None j) (table_readable None j tt r) o without
    ∙ one_or_nothing_listed j
    ∙ sym (printed_is (saying_table (Some 1) j) (table_readable (Some 1) j (omega arith) r) p with)

-- "any other edition is 14, after 1": whatever number of the format is said, so none is answered 9
pub other_edition_printed : (j : TextJob) → Readable j → (n : ℕ) → Word n
    → wrong_grid (grid_of j.head) ≡ false
    → wrong_edition n ≡ true
    → (o : List ℕ)
    → Prints (job_text (saying_table (Some n) j)) o
    → o ≡ answer_line 14
other_edition_printed j r n w g e o p =
    printed_is (saying_table (Some n) j) (table_readable (Some n) j w r) o p ∙ other_edition_listed j n g e
