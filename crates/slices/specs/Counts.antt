-- Numbers that grow by one, at places a step apart. Definitions only.
use Rattle.std.specs.Prelude.{ℕ, ◌+◌, ◌*◌, ◌^◌, ◌<◌, ◌≡◌, List, length, get_or}

-- n more can be added to every number: the sum stays a u32
abbrev pub Room : ℕ → List ℕ → Type 0
Room n l = (i : ℕ) → get_or l i 0 + n < 2 ^ 32

-- the places start, start + step, .. are below `size`
abbrev pub PlacesBelow : ℕ → ℕ → ℕ → ℕ → Type 0
PlacesBelow start step count size = (j : ℕ) → j < count → start + j * step < size

-- one more at each of those places, the others as they were
pub record Stepped (start step count : ℕ) (old new : List ℕ) : Type 0 where
  pub long : length new ≡ length old
  pub on : (j : ℕ) → j < count → get_or new (start + j * step) 0 ≡ get_or old (start + j * step) 0 + 1
  pub off : (i : ℕ) → ((j : ℕ) → j < count → i ≡ start + j * step → ⊥) → get_or new i 0 ≡ get_or old i 0
