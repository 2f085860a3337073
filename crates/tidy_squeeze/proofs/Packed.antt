-- Pieces of three put to the front for those numbers that pass a test, and zeros behind them: the i-th piece is that of the i-th such
-- number. Assumes nothing.
use Prim.Native.Nat.{ℕ, ◌+◌, ◌-◌, ◌*◌, ◌≤◌, ◌<◌}
use native.Mathlib.Omega.{arith}
use mathlib.Core.Path.{◌≡◌, refl, sym, ap, ◌∙◌}
use mathlib.Core.Bool.{Bool, true, false, cond}
use mathlib.Core.List.{List, [], ◌++◌}
use lib.ListN.{length, get_or, replicate, length-replicate}
use lib.Seq.{get_or-drop}
use lib.Ieee.{Float, nan, binary32, to_bits}
use borrow.Rule.Slice.PartMut.{mid_of, put_mid, mid_len}
use Rattle.lists.specs.Range.{count_below}
use Rattle.lists.specs.Joined.{joined}
use Rattle.lists.specs.Put.{Put}
use Rattle.lists.proofs.Joined.{length_joined}
use Rattle.lists.proofs.Puts.{and_then, whole, nothing, said, part, inside}
use Rattle.picks.specs.Picks.{select}
use Rattle.picks.proofs.Joined.{joined_picked}
use Rattle.tidy.specs.Padded.{padded}
use Rattle.tidy_words.proofs.Words.{bits_at}
use Rattle.tidy_marks.specs.Marks.{mark_at}
use Rattle.tidy_squeeze.specs.InFront.{piece_if}

module _ {A : Type 0} (p : ℕ → Bool) (f : ℕ → List A) (three : (k : ℕ) → length (f k) ≡ 3) where
  -- a piece has three elements at most
  pub piece_short : (k r s : ℕ) → s ≡ r + length (piece_if p f k) → s ≤ r + 3
  piece_short k r s e = go (p k) e
    where
      go : (b : Bool) → s ≡ r + length (cond b (f k) []) → s ≤ r + 3
      go true h = omega (arith, three k)
      go false h = omega arith

  pub packed : (z : A) (n : ℕ) {old mid new : List A} {r : ℕ}
      → Put old 0 (joined (piece_if p f) n) mid r → Put mid r (replicate (length old - r) z) new (length old)
      → (r ≡ 3 * count_below p n) × (new ≡ padded z (length old) (joined (λ i. f (select p n i)) (count_below p n)))
  packed z n {old} {r = r} front back =
      let picked = joined_picked p f n n (omega arith) in
      let long : length (joined (λ i. f (select p n i)) (count_below p n)) ≡ r = ap length (sym picked) ∙ sym (front.next ∙ omega arith) in
      let count = length_joined (λ i. f (select p n i)) 3 (λ i. three (select p n i)) (count_below p n) in (
        omega (arith, long, count),
        whole refl (and_then front back)
            ∙ ap (λ (l : List A). l ++ replicate (length old - r) z) picked
            ∙ ap (λ (k : ℕ). joined (λ i. f (select p n i)) (count_below p n) ++ replicate (length old - k) z) (sym long),
      )

-- the rest of a list, lent on to be filled
pub filled_behind : {A : Type 0} (z : A) {old mid what xs : List A} {r : ℕ} → Put old 0 xs mid r → what ≡ replicate (length (mid_of r (length mid - r) mid)) z
    → Put mid r (replicate (length old - r) z) (put_mid r (length mid - r) mid what) (length old)
filled_behind z {old} {mid} {what} {r = r} p e =
    let fits : r ≤ length mid = inside (omega arith) p in
    let all = mid_len r (length mid) mid (omega arith) in
    said (e ∙ ap (λ (k : ℕ). replicate k z) (all ∙ ap (λ (k : ℕ). k - r) p.long)) p.long
    (part mid what r (length mid) fits (omega arith) (ap length e ∙ length-replicate (length (mid_of r (length mid - r) mid)) z ∙ all))

-- nothing is put where the test fails, and the piece where it holds
pub put_none : {A : Type 0} (b : Bool) (piece old : List A) (at : ℕ) → b ≡ false → Put old at (cond b piece []) old at
put_none b piece old at e = rw e (nothing old at)

pub put_piece : {A : Type 0} (b : Bool) {piece old new : List A} {at r : ℕ} → b ≡ true → Put old at piece new r → Put old at (cond b piece []) new r
put_piece b {piece} e h = said (sym (ap (λ (x : Bool). cond x piece []) e)) refl h

-- ---- marks behind what was put

-- what stands behind is as it was
behind : {A : Type 0} (d : A) {old new xs : List A} {r : ℕ} (i : ℕ) → Put old 0 xs new r → r ≤ i → get_or new i d ≡ get_or old i d
behind {A} d {old} {new} {r = r} i p h =
    let e : r + (i - r) ≡ i = omega arith in
    ap (λ (k : ℕ). get_or new k d) (sym e) ∙ sym (get_or-drop r new (i - r) d) ∙ ap (λ (l : List A). get_or l (i - r) d) p.back
    ∙ get_or-drop r old (i - r) d ∙ ap (λ (k : ℕ). get_or old k d) e

pub mark_behind : {old new xs : List Float} {r : ℕ} (n v : ℕ) → Put old 0 xs new r → r ≤ 2 * n + v → 2 * n + v < length old → mark_at n new v ≡ mark_at n old v
mark_behind {old} {new} n v p h l =
    bits_at new (2 * n + v) nan (omega (arith, p.long)) ∙ ap (to_bits binary32) (behind nan (2 * n + v) p h) ∙ sym (bits_at old (2 * n + v) nan l)
