-- "the usual binary STL: 80 bytes ignored, a little-endian u32 count, then 50 bytes a facet (normal, three corners as f32, two attribute
-- bytes)" (document 02, §1). What a file says, and the file that says it, over bytes and the bit patterns of the corners' numbers.
-- Definitions only.
use Rattle.std.specs.Prelude.{ℕ, ◌+◌, ◌*◌, ◌/◌, ◌%◌, ◌^◌, ◌<◌, List, [], ◌∷◌, ◌++◌, length, get_or, take, drop, replicate, T, Float}
use Rattle.std.specs.Float.{nan, binary32}
use Rattle.std.specs.Float.Ieee.{fits}
use Rattle.float_bits.specs.Patterns.{floats_of}
use Rattle.lists.specs.Table.{table}
use Rattle.lists.specs.Joined.{joined}

-- ---- a u32, and the pattern of an f32: four bytes, the least first

abbrev pub u32_of : ℕ → ℕ → ℕ → ℕ → ℕ
u32_of a b c d = a + 256 * b + 65536 * c + 16777216 * d

unfoldable pub u32_at : List ℕ → ℕ → ℕ
u32_at bytes at = u32_of (get_or bytes at 0) (get_or bytes (at + 1) 0) (get_or bytes (at + 2) 0) (get_or bytes (at + 3) 0)

unfoldable pub bytes_of : ℕ → List ℕ
bytes_of w = w % 256 ∷ w / 256 % 256 ∷ w / 65536 % 256 ∷ w / 16777216 % 256 ∷ []

-- a list of bit patterns
abbrev pub Patterns : List ℕ → Type 0
Patterns ps = (i : ℕ) → get_or ps i 0 < 2 ^ 32

-- ---- what a file says

-- behind the 80 bytes that are ignored
abbrev pub count_in : List ℕ → ℕ
count_in file = u32_at file 80

-- how long a file of so many facets is
abbrev pub length_for : ℕ → ℕ
length_for facets = 84 + 50 * facets

-- "each facet's record is passed on to the corner reader as it stands": that of facet k
abbrev pub record_at : List ℕ → ℕ → List ℕ
record_at file k = take 50 (drop (length_for k) file)

-- the nine numbers of a record's three corners, x, y, z of each in turn, behind the 12 bytes of the normal; the two bytes behind them are not used
unfoldable pub nine_of : List ℕ → List ℕ
nine_of record' = table (λ i. u32_at record' (12 + 4 * i)) 9

-- "corners become vertices in order"
unfoldable pub patterns_in : List ℕ → List ℕ
patterns_in file = joined (λ k. nine_of (record_at file k)) (count_in file)

-- ---- the file that says it

-- "header, normals and attributes zero": the header and the count
unfoldable pub head_of : ℕ → List ℕ
head_of facets = replicate 80 0 ++ bytes_of facets

-- a record
unfoldable pub record_of : List ℕ → List ℕ
record_of corners = replicate 12 0 ++ joined (λ i. bytes_of (get_or corners i 0)) 9 ++ replicate 2 0

-- the nine numbers of facet k
abbrev pub nine_at : {A : Type 0} → List A → ℕ → List A
nine_at ps k = take 9 (drop (9 * k) ps)

-- how many facets so many numbers make
abbrev pub facets_in : {A : Type 0} → List A → ℕ
facets_in ps = length ps / 9

unfoldable pub stl_of : List ℕ → List ℕ
stl_of ps = head_of (facets_in ps) ++ joined (λ k. record_of (nine_at ps k)) (facets_in ps)

-- ---- as floats

abbrev pub corners_in : List ℕ → List Float
corners_in file = floats_of (patterns_in file)

-- a list of values that an f32 has
abbrev pub Binary32 : List Float → Type 0
Binary32 xs = (i : ℕ) → T (fits binary32 (get_or xs i nan))
