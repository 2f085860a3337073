-- The firsts of vertices by a search: what is known while they are entered. Definitions only.
use Rattle.std.specs.Prelude.{ℕ, ◌*◌, ◌^◌, ◌<◌, ◌≡◌, Bool, true, List, length, Float}
use Rattle.float_bits.specs.Patterns.{bits_of}
use Rattle.picks.specs.Picks.{least}
use Rattle.tidy.specs.declared.ThreeWords.{ThreeWords}
use Rattle.tidy.specs.Same.{same_words}
use Rattle.tidy.specs.Tidy.{vertex_bits}
use Rattle.tidy_search.specs.Links.{Entered}

-- the first vertex with the bits of v: `first_of` of every mesh that has these vertices
abbrev pub first_in : List Float → ℕ → ℕ
first_in vs v = least (λ w. same_words (vertex_bits vs w) (vertex_bits vs v)) v

-- every vertex is entered
abbrev pub any : ThreeWords → Bool
any k = true

-- the vertices below v are entered into the row of links, by the bits of its floats
abbrev pub VerticesEntered : List Float → ℕ → ℕ → List Float → Type 0
VerticesEntered vs n v links = Entered (vertex_bits vs) any n v (bits_of links)

-- and vertex v is the next
pub record ReadyForVertex (vs : List Float) (n v : ℕ) (links : List Float) : Type 0 where
  pub entered : VerticesEntered vs n v links
  pub next : v < n
  pub three : length vs ≡ 3 * n
  pub few : n < 2 ^ 22
