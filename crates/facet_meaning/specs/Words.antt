-- "When a dent is repaired the surveyor asks which cells name a facet. Keep an index beside the field: a start for each triangle plus one end, and
-- one list of cells. Each cell with a named triangle stands exactly once, under that triangle, ascending; cells with none named stand nowhere. The tail
-- of the list is 4,294,967,295." (document 02, §12.) These words one by one, of cells and places; the definition that the contracts name, IsIndex, says
-- the same in terms of what stands in turn. Definitions only; proofs/Theorem.antt shows that they hold (`says_the_same`, `exactly_one`, `Cells-of`).
use Rattle.std.specs.Prelude.{ℕ, ◌+◌, ◌≤◌, ◌<◌, ◌≡◌, ◌↔◌, List, length, get_or}
use Rattle.run.specs.Run.{none}
use Rattle.facet_index.specs.Index.{Index, start_of, stands_at, IsIndex}

-- cell c names triangle k
pub record Named (names : List ℕ) (k c : ℕ) : Type 0 where
  pub cell : c < length names
  pub name : get_or names c 0 ≡ k

-- place p is under triangle k: from the start of k on, and before the next start, or the end
pub record Under (i : Index) (k p : ℕ) : Type 0 where
  pub from : start_of i k ≤ p
  pub to : p < start_of i (k + 1)

-- cell c stands under triangle k
pub record Stands (i : Index) (k c : ℕ) : Type 0 where
  pub place : ℕ
  pub under : Under i k place
  pub holds : stands_at i place ≡ c

-- what the slices i mean, for these names and the triangles 0 to t - 1
pub record IndexMeans (t : ℕ) (names : List ℕ) (i : Index) : Type 0 where
  -- "a start for each triangle plus one end": from the first place on, one triangle's behind another's, up to a place of the list
  pub starts_long : length i.starts ≡ t + 1
  pub first : start_of i 0 ≡ 0
  pub rising : (k : ℕ) → k < t → start_of i k ≤ start_of i (k + 1)
  pub end : start_of i t ≤ length i.list
  -- "and one list of cells", with room for every cell
  pub list_long : length i.list ≡ length names
  pub cells : (p : ℕ) → p < start_of i t → stands_at i p < length names
  -- "Each cell with a named triangle stands .. under that triangle"
  pub stands : (k c : ℕ) → k < t → Named names k c → Stands i k c
  -- "exactly once": wherever in the list a cell stands, it is one place
  pub once : (c p q : ℕ) → c < length names → p < length i.list → q < length i.list → stands_at i p ≡ c → stands_at i q ≡ c → p ≡ q
  -- "ascending"
  pub ascending : (k p q : ℕ) → k < t → Under i k p → Under i k q → p < q → stands_at i p < stands_at i q
  -- "cells with none named stand nowhere"
  pub nowhere : (c p : ℕ) → c < length names → t ≤ get_or names c 0 → p < length i.list → stands_at i p ≡ c → ⊥
  -- "The tail of the list is 4,294,967,295."
  pub tail : (p : ℕ) → start_of i t ≤ p → p < length i.list → stands_at i p ≡ none

-- The words and the definition say the same. There are at most 1,048,576 names, so that what stands in the tail is no cell.
abbrev pub SaysTheSame : ℕ → List ℕ → Index → Type 0
SaysTheSame t names i = length names ≤ 1048576 → IsIndex t names i ↔ IndexMeans t names i

-- and exactly one index means this
pub record OneIndex (t : ℕ) (names : List ℕ) : Type 0 where
  pub index : Index
  pub means : IndexMeans t names index
  pub no_other : (i : Index) → IndexMeans t names i → i ≡ index

abbrev pub ExactlyOne : ℕ → List ℕ → Type 0
ExactlyOne t names = length names ≤ 1048576 → OneIndex t names

-- "which cells name a facet": those that stand under it
abbrev pub CellsOf : ℕ → List ℕ → Index → Type 0
CellsOf t names i = (k c : ℕ) → k < t → Stands i k c ↔ Named names k c
