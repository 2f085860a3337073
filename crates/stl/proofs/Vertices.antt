-- "Corners become vertices in order" (document 02, §1): number i of corner j of facet k, which is vertex 3 k + j, is the word that stands there
-- in the file. Assumes nothing.
use Prim.Native.Nat.{ℕ, ◌+◌, ◌*◌, ◌<◌}
use native.Mathlib.Omega.{arith}
use mathlib.Core.Path.{◌≡◌, sym, ap, ap₂, ◌∙◌}
use mathlib.Core.List.{List}
use lib.ListN.{get_or, drop}
use lib.Seq.{get_or-take, get_or-drop}
use Rattle.lists.specs.Joined.{joined}
use Rattle.lists.proofs.Joined.{joined_at}
use Rattle.lists.proofs.Table.{table_at}
use Rattle.stl.specs.File.{u32_at, count_in, length_for, record_at, nine_of, patterns_in}
use Rattle.stl.proofs.Pieces.{corners_long}

-- a word by its four bytes
pub same_word : (a b : List ℕ) (i j : ℕ) → ((n : ℕ) → n < 4 → get_or a (i + n) 0 ≡ get_or b (j + n) 0) → u32_at a i ≡ u32_at b j
unfolding u32_at
same_word a b i j h =
    let p : i ≡ i + 0 = omega arith in
    let q : j ≡ j + 0 = omega arith in
    ap₂ (λ (x y : ℕ). x + y)
    (ap₂ (λ (x y : ℕ). x + y)
    (ap₂ (λ (x y : ℕ). x + y)
    (ap (λ (k : ℕ). get_or a k 0) p ∙ h 0 (omega arith) ∙ ap (λ (k : ℕ). get_or b k 0) (sym q))
    (ap (λ (x : ℕ). 256 * x) (h 1 (omega arith))))
    (ap (λ (x : ℕ). 65536 * x) (h 2 (omega arith))))
    (ap (λ (x : ℕ). 16777216 * x) (h 3 (omega arith)))

-- byte n of number i of facet k
pub at_corner : (f : List ℕ) (k i n : ℕ) → i < 9 → n < 4 → get_or (record_at f k) (12 + 4 * i + n) 0 ≡ get_or f (length_for k + (12 + (4 * i + n))) 0
at_corner f k i n h w =
    get_or-take 50 (drop (length_for k) f) (12 + 4 * i + n) 0 (omega arith) ∙ get_or-drop (length_for k) f (12 + 4 * i + n) 0 ∙ ap (λ (m : ℕ). get_or f m 0) place
  where
    place : length_for k + (12 + 4 * i + n) ≡ length_for k + (12 + (4 * i + n))
    place = omega arith

regrouped : (k m n : ℕ) → length_for k + (12 + (4 * m + n)) ≡ length_for k + (12 + 4 * m) + n
regrouped k m n = omega arith

pub vertex_is : (file : List ℕ) (k j i : ℕ) → k < count_in file → j < 3 → i < 3
    → get_or (patterns_in file) (3 * (3 * k + j) + i) 0 ≡ u32_at file (length_for k + (12 + (12 * j + 4 * i)))
unfolding patterns_in nine_of
vertex_is file k j i h w v =
    let facets : ℕ → List ℕ = λ k. nine_of (record_at file k) in
    let m = 3 * j + i in
    let place : 3 * (3 * k + j) + i ≡ 9 * k + m = omega arith in
    let there : length_for k + (12 + 4 * m) ≡ length_for k + (12 + (12 * j + 4 * i)) = omega arith in
    ap (λ (n : ℕ). get_or (joined facets (count_in file)) n 0) place
    ∙ sym (get_or-drop (9 * k) (joined facets (count_in file)) m 0)
    ∙ sym (get_or-take 9 (drop (9 * k) (joined facets (count_in file))) m 0 (omega arith))
    ∙ ap (λ (l : List ℕ). get_or l m 0) (joined_at facets 9 (λ n. corners_long (record_at file n)) (count_in file) k h)
    ∙ table_at _ 9 m 0 (omega arith)
    ∙ same_word (record_at file k) file (12 + 4 * m) (length_for k + (12 + 4 * m)) (λ n l. at_corner file k m n (omega arith) l ∙ ap (λ (p : ℕ). get_or file p 0) (regrouped k m n))
    ∙ ap (u32_at file) there
