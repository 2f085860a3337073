-- "What we write reads back as the same corner bits" (document 02, §1): for every list of bit patterns, nine for each facet, those of NaNs too;
-- and for every list of floats. A word's bytes are found where they were put, a record where its facet's is, and the file is its head and
-- its records. Assumes nothing.
use Prim.Native.Nat.{ℕ, suc, ◌+◌, ◌*◌, ◌/◌, ◌%◌, ◌^◌, ◌<◌}
use native.Mathlib.Decide.{dec_lt}
use native.Mathlib.Nat.{div-add-mod', div-div-eq-div-mul}
use native.Mathlib.Omega.{arith}
use mathlib.Core.Path.{◌≡◌, refl, sym, ap, ap₂, ◌∙◌, subst}
use mathlib.Core.Bool.{not}
use mathlib.Core.List.{List, [], ◌∷◌, ◌++◌}
use lib.ListN.{length, get_or, take, drop, replicate, length-take, length-drop, get_or-eq_default, get_or-map, length-map}
use lib.Seq.{get_or-take, get_or-drop, drop-drop, drop_at, drop-append-le, take-append-le, take_all, take_at, length-take-le}
use lib.Dec.{T}
use lib.Ieee.{Float, nan, is_nan, binary32, of_bits, to_bits}
use lib.Ieee.Bits.{of_bits-to_bits, to_bits-of_bits, to_bits-lt}
use Rattle.lists.specs.Joined.{joined}
use Rattle.lists.proofs.Joined.{joined_same, joined_at, joined_parts, length_joined}
use Rattle.lists.proofs.Table.{is_table, get_d_any}
use Rattle.float_bits.specs.Patterns.{floats_of, bits_of}
use Rattle.stl.specs.File.{u32_at, bytes_of, count_in, record_at, nine_of, patterns_in, head_of, record_of, nine_at, facets_in, stl_of, Patterns, Binary32, corners_in}
use Rattle.stl.proofs.Pieces.{word_long, record_long}

-- ---- a word

digits : (w a b c q r s t : ℕ) → a * 256 + q ≡ w → b * 256 + r ≡ a → c * 256 + s ≡ b → t ≡ c → q + 256 * r + 65536 * s + 16777216 * t ≡ w
digits w a b c q r s t = λ e f g h. omega arith

four : (w : ℕ) → w < 2 ^ 32 → w % 256 + 256 * (w / 256 % 256) + 65536 * (w / 65536 % 256) + 16777216 * (w / 16777216 % 256) ≡ w
four w h =
    digits w (w / 256) (w / 65536) (w / 16777216) (w % 256) (w / 256 % 256) (w / 65536 % 256) (w / 16777216 % 256)
    (div-add-mod' w 256)
    (ap (λ (n : ℕ). n * 256 + w / 256 % 256) (sym (div-div-eq-div-mul w 256 256)) ∙ div-add-mod' (w / 256) 256)
    (ap (λ (n : ℕ). n * 256 + w / 65536 % 256) (sym (div-div-eq-div-mul w 65536 256)) ∙ div-add-mod' (w / 65536) 256)
    (omega arith)

-- a word is read where its bytes stand
word_there : (l : List ℕ) (at w : ℕ) → w < 2 ^ 32 → take 4 (drop at l) ≡ bytes_of w → u32_at l at ≡ w
unfolding u32_at bytes_of
word_there l at w h e =
    let start : at ≡ at + 0 = omega arith in
    ap₂ (λ (a b : ℕ). a + b)
    (ap₂ (λ (a b : ℕ). a + b)
    (ap₂ (λ (a b : ℕ). a + b) (ap (λ (k : ℕ). get_or l k 0) start ∙ byte 0 (omega arith)) (ap (λ (b : ℕ). 256 * b) (byte 1 (omega arith))))
    (ap (λ (b : ℕ). 65536 * b) (byte 2 (omega arith))))
    (ap (λ (b : ℕ). 16777216 * b) (byte 3 (omega arith)))
    ∙ four w h
  where
    byte : (j : ℕ) → j < 4 → get_or l (at + j) 0 ≡ get_or (bytes_of w) j 0
    byte j b = sym (get_or-drop at l j 0) ∙ sym (get_or-take 4 (drop at l) j 0 b) ∙ ap (λ (r : List ℕ). get_or r j 0) e

-- ---- a record

-- the bytes of number i
number_there : (ps : List ℕ) (i : ℕ) → i < 9 → take 4 (drop (12 + 4 * i) (record_of ps)) ≡ bytes_of (get_or ps i 0)
unfolding record_of
number_there ps i h =
    let numbers : ℕ → List ℕ = λ j. bytes_of (get_or ps j 0) in
    let long : length (joined numbers 9) ≡ 36 = length_joined numbers 4 (λ j. word_long (get_or ps j 0)) 9 in
    ap (take 4) (sym (drop-drop (4 * i) 12 (replicate 12 0 ++ joined numbers 9 ++ replicate 2 0)) ∙ drop-append-le (4 * i) (joined numbers 9) (replicate 2 0) (omega arith))
    ∙ take-append-le 4 (drop (4 * i) (joined numbers 9)) (replicate 2 0) (omega (arith, length-drop (4 * i) (joined numbers 9)))
    ∙ joined_at numbers 4 (λ j. word_long (get_or ps j 0)) 9 i h

corners_there : (ps : List ℕ) → length ps ≡ 9 → Patterns ps → nine_of (record_of ps) ≡ ps
unfolding nine_of
corners_there ps n p = sym (is_table 0 _ 9 ps n (λ i h. sym (word_there (record_of ps) (12 + 4 * i) (get_or ps i 0) (p i) (number_there ps i h))))

-- ---- a file

pub head_long : (n : ℕ) → length (head_of n) ≡ 84
unfolding head_of bytes_of
head_long n = refl

pub count_there : (ps : List ℕ) → facets_in ps < 2 ^ 32 → count_in (stl_of ps) ≡ facets_in ps
unfolding stl_of head_of
count_there ps h = word_there (stl_of ps) 80 (facets_in ps) h (take_at (bytes_of (facets_in ps)) _ 4 (word_long (facets_in ps)))

record_there : (ps : List ℕ) (k : ℕ) → k < facets_in ps → record_at (stl_of ps) k ≡ record_of (nine_at ps k)
unfolding stl_of
record_there ps k h =
    let records : ℕ → List ℕ = λ j. record_of (nine_at ps j) in
    let n = facets_in ps in
    ap (take 50) (sym (drop-drop (50 * k) 84 (head_of n ++ joined records n)) ∙ ap (drop (50 * k)) (drop_at (head_of n) (joined records n) 84 (head_long n)))
    ∙ joined_at records 50 (λ j. record_long (nine_at ps j)) n k h

-- ---- all corners

nine_long : (ps : List ℕ) (k : ℕ) → k < facets_in ps → length (nine_at ps k) ≡ 9
nine_long ps k h = length-take-le 9 (drop (9 * k) ps) (omega (arith, length-drop (9 * k) ps))

nine_patterns : (ps : List ℕ) (k : ℕ) → Patterns ps → Patterns (nine_at ps k)
nine_patterns ps k p i = by (dec_lt i 9)
  where
    by : Dec (i < 9) → get_or (nine_at ps k) i 0 < 2 ^ 32
    by (yes h) = rw (get_or-take 9 (drop (9 * k) ps) i 0 h, get_or-drop (9 * k) ps i 0) (p (9 * k + i))
    by (no h) = rw (get_or-eq_default (nine_at ps k) 0 {n = i} (omega (arith, length-take 9 (drop (9 * k) ps)))) (omega arith)

pub round_trip : (ps : List ℕ) → Patterns ps → length ps % 9 ≡ 0 → facets_in ps < 2 ^ 32 → patterns_in (stl_of ps) ≡ ps
unfolding patterns_in
round_trip ps p e h =
    ap (joined _) (count_there ps h)
    ∙ joined_same _ _ (facets_in ps) (λ k w. ap nine_of (record_there ps k w) ∙ corners_there (nine_at ps k) (nine_long ps k w) (nine_patterns ps k p))
    ∙ joined_parts 9 (facets_in ps) ps
    ∙ take_all (9 * facets_in ps) ps (omega arith)

-- ---- floats: each has a pattern below 2^32, and is what its pattern stands for

pub round_trip_floats : (xs : List Float) → Binary32 xs → length xs % 9 ≡ 0 → facets_in xs < 2 ^ 32 → corners_in (stl_of (bits_of xs)) ≡ xs
round_trip_floats xs b e h =
    let n : length (bits_of xs) ≡ length xs = length-map xs (to_bits binary32) in
    ap floats_of (round_trip (bits_of xs) patterns (ap (λ (k : ℕ). k % 9) n ∙ e) (subst (λ (k : ℕ). k / 9 < 2 ^ 32) (sym n) h)) ∙ back xs b
  where
    patterns : Patterns (bits_of xs)
    patterns i = by (dec_lt i (length (bits_of xs)))
      where
        by : Dec (i < length (bits_of xs)) → get_or (bits_of xs) i 0 < 2 ^ 32
        by (yes w) = rw (get_d_any (bits_of xs) i 0 (to_bits binary32 nan) w, get_or-map (to_bits binary32) xs i nan) (to_bits-lt binary32 (get_or xs i nan) (b i))
        by (no w) = rw (get_or-eq_default (bits_of xs) 0 {n = i} (omega arith)) (omega arith)

    back : (ys : List Float) → Binary32 ys → floats_of (bits_of ys) ≡ ys
    back [] b = refl
    back (y ∷ ys) b = ap₂ (λ (a : Float) (l : List Float). a ∷ l) (of_bits-to_bits binary32 y (b 0)) (back ys (λ i. b (suc i)))

-- what is read keeps its bits in the lent buffer, but for a NaN
pub same_bits : (p : ℕ) → p < 2 ^ 32 → T (not (is_nan (of_bits binary32 p))) → to_bits binary32 (of_bits binary32 p) ≡ p
same_bits p h n = to_bits-of_bits binary32 p h n
