-- What is kept of a mesh, as a record and slices hold it, is the job that is printed of it: its vertices, three patterns each, are the
-- front of the slice. It can be written where there is room for any text, and what was put into a part of a slice was put into the slice.
-- By induction over the vertices. Assumes nothing.
use Prim.Native.Nat.{ℕ, zero, suc, ◌+◌, ◌*◌, ◌-◌, ◌≤◌, ◌<◌}
use native.Mathlib.Omega.{arith}
use mathlib.Core.Path.{◌≡◌, refl, sym, ap, ap₂, ◌∙◌}
use mathlib.Core.List.{List, [], ◌∷◌, ◌++◌}
use lib.ListN.{length, get_or, take, length-append, length-map, get_or-append}
use lib.Ieee.{Float, nan, binary32, to_bits}
use borrow.Rule.Slice.PartMut.{mid_of, put_mid}
use Rattle.lists.specs.Put.{Put}
use Rattle.lists.specs.Table.{table}
use Rattle.lists.proofs.Puts.{said}
use Rattle.tidy.specs.Tidy.{vertex_bits}
use Rattle.tidy_mesh.specs.declared.Kept.{Kept}
use Rattle.float_bits.specs.Patterns.{bits_of}
use Rattle.tidy_words.proofs.Words.{bits_at}
use Rattle.text.specs.declared.Three.{Three}
use Rattle.text.specs.Limits.{text_room}
use Rattle.text.specs.Reader.{three, assembled}
use Rattle.text.specs.TextJob.{these, job_text}
use Rattle.text_read_parts.specs.Told.{threes_in}
use Rattle.text_read_job.specs.declared.Asked.{Asked}
use Rattle.text_read_job.specs.Told.{job_in}
use Rattle.text_write_job.specs.Written.{RoomToWrite}
use Rattle.text_tidy.specs.Tidied.{vertex_said}
use Rattle.text_tidy.proofs.Within.{within}
use Rattle.text_tidy.specs.Parts.{kept_asked, kept_job, RoomForKept}

table_last : {A : Type 0} (f : ℕ → A) (n : ℕ) → table f (suc n) ≡ table f n ++ f n ∷ []
unfolding table
table_last f zero = refl
table_last f (suc n) = ap (λ l. f 0 ∷ l) (table_last (λ i. f (suc i)) n)

module _ (coordinates : List Float) (rest : List ℕ) where
  -- the patterns of the coordinates, and whatever stands behind them
  abbrev pub patterns : List ℕ
  patterns = bits_of coordinates ++ rest

  pattern_at : (i : ℕ) → i < length coordinates → get_or patterns i 0 ≡ to_bits binary32 (get_or coordinates i nan)
  pattern_at i h =
      get_or-append (bits_of coordinates) rest 0 i (omega (arith, length-map coordinates (to_bits binary32))) ∙ bits_at coordinates i nan h

  pub threes_said : (n : ℕ) → 3 * n ≤ length coordinates → threes_in n patterns ≡ table (vertex_said coordinates) n
  unfolding threes_in table vertex_bits
  threes_said zero h = refl
  threes_said (suc n) h =
      let x = pattern_at (3 * n) (omega arith) in
      let y = pattern_at (3 * n + 1) (omega arith) in
      let z = pattern_at (3 * n + 2) (omega arith) in
      ap₂ (λ (l : List Three) (v : Three). l ++ v ∷ []) (threes_said n (omega arith)) (λ i. three (x i) (y i) (z i))
      ∙ sym (table_last (vertex_said coordinates) n)

  module _ {a : Asked} {k : Kept} {indices : List ℕ} {at : ℕ} {out : List ℕ} (r : RoomForKept a k coordinates indices at out) where
    pub kept_is : job_in (kept_asked a k) patterns indices ≡ kept_job a k coordinates indices
    kept_is =
        let vs = threes_said k.vertices r.vertices_held in
        λ i. assembled a.head (vs i) (these (take (3 * k.triangles) indices)) a.tail

    pub kept_fits : {part : List ℕ} → text_room ≤ length part → RoomToWrite (kept_asked a k) patterns indices part
    kept_fits room =
        record {
          room = room;
          vertices_few = r.vertices_few;
          vertices_held =
              omega (arith, r.vertices_held, length-append (bits_of coordinates) rest, length-map coordinates (to_bits binary32));
          indices_few = r.indices_few;
          indices_held = r.indices_held;
        }

    -- what is put at the front of the part from `at` on, by a record and slices that hold what is kept, is put into the whole there
    pub kept_put : {tidied : Asked} {front part : List ℕ} {n : ℕ}
        → tidied ≡ kept_asked a k
        → front ≡ bits_of coordinates
        → Put (mid_of at (length out - at) out) 0 (job_text (job_in tidied (front ++ rest) indices)) part n
        → Put out at (job_text (kept_job a k coordinates indices)) (put_mid at (length out - at) out part) (at + n)
    kept_put {part = part} {n = n} t b p =
        let is = ap₂ (λ (z : Asked) (l : List ℕ). job_in z (l ++ rest) indices) t b ∙ kept_is in
        within out part _ at (length out - at) n (omega (arith, r.room)) (said (ap job_text is) refl p)
