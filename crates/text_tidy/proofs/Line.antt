-- The line of a number and its value: none where the number stays, and short where both are below 1,000. By the definitions. Assumes
-- nothing.
use Prim.Native.Nat.{ℕ, ◌+◌, ◌≤◌, ◌<◌}
use native.Mathlib.Omega.{arith}
use mathlib.Core.Path.{◌≡◌, refl, sym, ap, ◌∙◌}
use mathlib.Core.List.{List, [], ◌∷◌, ◌++◌}
use lib.ListN.{length, length-append}
use borrow.Author.Tests.{eq-eqb, ne_eqb}
use Rattle.lists.specs.Put.{Put}
use Rattle.lists.proofs.Puts.{said}
use Rattle.text.specs.Words.{bytes, space, decimal, line}
use Rattle.text_write.proofs.Spelled.{short}
use Rattle.text_tidy.specs.declared.Went.{Went}
use Rattle.text_tidy.specs.declared.Went.TheVariants.{Merged, Dropped}
use Rattle.text_tidy.specs.Tidied.{went_key, staying, went_line}

-- a number that stays has no line
pub stayed : (w : Went) (value : ℕ → ℕ) (i : ℕ) → value i ≡ staying w i → went_line w value i ≡ []
unfolding went_line
stayed w value i e = rw (eq-eqb (value i) (staying w i) e)

-- its line
abbrev line_of : Went → ℕ → ℕ → List ℕ
line_of w i v = line (went_key w) (decimal i ++ space ∷ decimal v)

-- which one that does not stay has
went_so : (w : Went) (value : ℕ → ℕ) (i : ℕ) → (value i ≡ staying w i → ⊥) → went_line w value i ≡ line_of w i (value i)
unfolding went_line
went_so w value i n = rw (ne_eqb (value i) (staying w i) n)

key_short : (w : Went) → length (bytes (went_key w)) ≤ 6
key_short Merged = omega arith
key_short Dropped = omega arith

line_short : (w : Went) (i v : ℕ) → i < 1000 → v < 1000 → length (line_of w i v) ≤ 14
unfolding line
line_short w i v h l =
    simp length-append (omega (arith, key_short w, short 9 2 i h, short 9 2 v l))

pub line_put : {old new : List ℕ} {at r : ℕ} (w k : Went) (i v : ℕ) → w ≡ k → (v ≡ staying w i → ⊥) → i < 1000 → v < 1000
    → Put old at (line_of k i v) new r
    → Put old at (went_line w (λ _. v) i) new r × (r ≤ at + 14)
line_put w k i v e n h l p =
    let is = ap (λ (z : Went). line_of z i v) (sym e) ∙ sym (went_so w (λ _. v) i n) in
    (said is refl p, omega (arith, p.next, line_short k i v h l))
