-- What a file is read as depends on its length, its count and its corners alone: the words of these are the same. Assumes nothing.
use Prim.Native.Nat.{ℕ, ◌+◌, ◌*◌, ◌≤◌}
use native.Mathlib.Omega.{arith}
use mathlib.Core.Path.{◌≡◌, sym, ap, ◌∙◌}
use mathlib.Core.List.{List, ◌++◌}
use lib.ListN.{length, get_or, drop, length-append, length-drop}
use lib.Seq.{get_or-drop, get_or-append-add}
use lib.Ieee.{Float}
use Rattle.lists.proofs.Joined.{joined_same}
use Rattle.lists.specs.Joined.{joined}
use Rattle.lists.proofs.Table.{table_same}
use Rattle.stl.specs.File.{count_in, length_for, record_at, nine_of, patterns_in}
use Rattle.stl.specs.Alike.{Alike}
use Rattle.stl.proofs.Vertices.{same_word, at_corner}
use Rattle.stl.specs.Reply.{counting, reading}

module _ (file other : List ℕ) (a : Alike file other) where
  same_count : count_in file ≡ count_in other
  same_count = same_word file other 80 80 a.count

  same_corners : (k : ℕ) → nine_of (record_at file k) ≡ nine_of (record_at other k)
  unfolding nine_of
  same_corners k =
      table_same _ _ 9 (λ i h.
      same_word (record_at file k) (record_at other k) (12 + 4 * i) (12 + 4 * i) (λ n w.
      at_corner file k i n h w ∙ a.corners k (4 * i + n) (omega arith) ∙ sym (at_corner other k i n h w)))

  same_patterns : patterns_in file ≡ patterns_in other
  unfolding patterns_in
  same_patterns = joined_same _ _ (count_in file) (λ k h. same_corners k) ∙ ap (joined _) same_count

  pub no_influence : (lent : List Float) → (counting file ≡ counting other) × (reading file lent ≡ reading other lent)
  no_influence lent = (rw (a.long, same_count), rw (a.long, same_count, same_patterns))

-- another header, as one that begins with "solid"
pub any_header : (head file : List ℕ) → length head ≡ 80 → 80 ≤ length file → Alike (head ++ drop 80 file) file
any_header head file h w =
    record {
      long = omega (arith, length-append head (drop 80 file), length-drop 80 file);
      count = λ i l. behind i;
      corners = λ k i l. ap (λ (m : ℕ). get_or (head ++ drop 80 file) m 0) (place k i) ∙ behind (4 + 50 * k + (12 + i)) ∙ ap (λ (m : ℕ). get_or file m 0) (sym (place k i));
    }
  where
    behind : (i : ℕ) → get_or (head ++ drop 80 file) (80 + i) 0 ≡ get_or file (80 + i) 0
    behind i = ap (λ (n : ℕ). get_or (head ++ drop 80 file) (n + i) 0) (sym h) ∙ get_or-append-add head (drop 80 file) i 0 ∙ get_or-drop 80 file i 0

    place : (k i : ℕ) → length_for k + (12 + i) ≡ 80 + (4 + 50 * k + (12 + i))
    place k i = omega arith
