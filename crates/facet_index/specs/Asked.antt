-- The cells of a facet, asked of an index: "the surveyor asks which cells name a facet" (document 02, §12). Definitions only.
use Rattle.std.specs.Prelude.{ℕ, ◌+◌, ◌<◌, ◌≡◌, cond, ◌&&◌, List, [], ltb, leb, length, get_or, take, drop}
use Rattle.picks.specs.Picks.{InTurn}
use Rattle.facet_index.specs.Index.{Index, start_of, names_it, under, IsIndex}

-- the part of the list that is under facet k; nothing, where the starts or the list have no such part
unfoldable pub part_under : ℕ → Index → List ℕ
part_under k i =
    cond (ltb (k + 1) (length i.starts) && leb (start_of i k) (start_of i (k + 1)) && leb (start_of i (k + 1)) (length i.list))
    (take (under i k) (drop (start_of i k) i.list)) []

-- what the question promises: that part; and, where i is the index of some names, it has the cells that name k, each once and ascending
pub record Answers (k : ℕ) (i : Index) (cells : List ℕ) : Type 0 where
  pub part : cells ≡ part_under k i
  pub serves : (t : ℕ) (names : List ℕ) → IsIndex t names i → k < t
      → InTurn (names_it names k) (length names) (length cells) (λ j. get_or cells j 0)
