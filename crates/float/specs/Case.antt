-- "The marked cases form a single table proved by one claim" (document 01). A case is a row: a number that the definitions compute, and the number that
-- the document gives. The rows of each part are a list, and the lists are joined by `◌++◌` for the one claim, `all_hold rows ≡ true`, which is computed.
-- A float stands in a row as its bit pattern, an answer by its number. Definitions only.
use Rattle.std.specs.Prelude.{Bool, true, ◌&&◌, List, [], ◌∷◌, ℕ, eqb}

infix 4 ◌gives◌
pub data Case : Type 0 where
  ◌gives◌ : ℕ → ℕ → Case

abbrev pub holds : Case → Bool
holds (computed gives stated) = eqb computed stated

abbrev pub all_hold : List Case → Bool
all_hold [] = true
all_hold (row ∷ rows) = holds row && all_hold rows
