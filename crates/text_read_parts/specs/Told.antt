-- How the functions of this crate tell what they found: a value, and a place of the text, behind which the rest stands. Definitions only.
use Rattle.std.specs.Prelude.{ℕ, zero, suc, ◌+◌, ◌*◌, ◌≤◌, ◌≡◌, List, [], ◌∷◌, ◌++◌, get_or, take, drop}
use Rattle.std.specs.Prelude.{Option, Some, None}
use Rattle.mesh_topology.specs.declared.Topology.{Topology}
use Rattle.mesh_topology.specs.declared.Indices.{Indices}
use Rattle.mesh_topology.specs.declared.Indices.TheVariants as Are
use Rattle.text.specs.declared.Three.{Three}
use Rattle.text.specs.Limits.{most_indices}
use Rattle.text.specs.TextJob.{TextIndices, none, these}
use Rattle.text.specs.Reader.{Got, took, nothing, three}
use Rattle.text_read_words.specs.declared.Read.{Read}
use Rattle.text_read_parts.specs.declared.Row.{Row}

-- the first n vertices that a slice holds, three by three
unfoldable pub threes_in : ℕ → List ℕ → List Three
threes_in zero out = []
threes_in (suc n) out = threes_in n out ++ three (get_or out (3 * n) 0) (get_or out (3 * n + 1) 0) (get_or out (3 * n + 2) 0) ∷ []

-- vertices that were stored in `out`, and their number told
abbrev pub got_vertices : List ℕ → List ℕ → Option (Read ℕ) → Got (List Three)
got_vertices out text (Some r) = took (threes_in r.value out) (drop r.next text)
got_vertices out text None = nothing

-- indices that were stored in `out`
abbrev pub listed_as : Indices → List ℕ → TextIndices
listed_as Are.Given l = these l
listed_as Are.None l = none

abbrev pub got_row : List ℕ → List ℕ → Option (Read Row) → Got TextIndices
got_row out text (Some r) = took (listed_as r.value.given (take r.value.count out)) (drop r.next text)
got_row out text None = nothing

-- how many can have been stored
abbrev pub stored : Topology → Indices → ℕ → Type 0
stored t Are.Given n = n ≤ most_indices t
stored t Are.None n = n ≡ 0

abbrev pub stored_in : Topology → Option (Read Row) → Type 0
stored_in t (Some r) = stored t r.value.given r.value.count
stored_in t None = Unit

pub record RowIs (t : Topology) (out text : List ℕ) (r : Option (Read Row)) (found : Got TextIndices) : Type 0 where
  pub is : got_row out text r ≡ found
  pub few : stored_in t r
