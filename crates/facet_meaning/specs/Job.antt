-- "Keep an index beside the field" (document 02, §12), of the names that a job leaves: after every call that is answered Ok they can be indexed, and
-- what stands under a facet are the cells that name it. "When a dent is repaired", and the job is done again, an update gives the new index. Definitions
-- only; proofs/Job.antt shows that they hold (`indexable_after_a_call`, `indexed_after_a_call`, `repaired_after_a_call`, and all three from C).
use Rattle.std.specs.Prelude.{ℕ, ◌+◌, ◌≤◌, ◌<◌, ◌≡◌, ◌↔◌, List, length, get_or, Ok}
use Rattle.grid.specs.declared.Cell.{Cell}
use Rattle.grid.specs.Index.{index_of, total, Inside}
use Rattle.mesh.specs.Mesh.{triangles_in}
use Rattle.job_checks.specs.Job.{Job, Lent}
use Rattle.job_outcome.specs.declared.Tally.{Tally}
use Rattle.job_outcome.specs.Outcome.{Answer, Gives, outcome}
use Rattle.c_job.specs.declared.SdfJobAnswer.{SdfJobAnswer}
use Rattle.c_job.specs.Job.{GivesC}
use Rattle.demand_3.specs.Offered.{Offered}
use Rattle.demand_3.specs.Demand3.{input_for}
use Rattle.facet_index.specs.Index.{Index}
use Rattle.facet_index.specs.Refusals.{Builds, Updates}
use Rattle.facet_meaning.specs.Words.{Stands, IndexMeans}
use Rattle.facet_meaning.specs.Calls.{Known}

-- the facets of a job: the triangles of its mesh
abbrev pub facets : Job → ℕ
facets j = length (triangles_in j.mesh)

-- the names that a job leaves are a name for each cell of its grid, and each is a facet or none; and none of a build's limits is passed
pub record Indexable (j : Job) (names : List ℕ) : Type 0 where
  pub few_facets : facets j ≤ 131072
  pub each_cell : length names ≡ total j.grid
  pub few_names : length names ≤ 1048576
  pub known : Known (facets j) names

-- slices for an index: a start for each facet plus one end, and a place for each cell of the grid
pub record RoomFor (j : Job) (lent : Index) : Type 0 where
  pub starts : length lent.starts ≡ facets j + 1
  pub list : length lent.list ≡ total j.grid

-- the job j, lent b, was done and left the names; they were built into an index, with this number, and i was left
pub record JobIndexed (j : Job) (b : Lent) (names : List ℕ) (number : ℕ) (i : Index) : Type 0 where
  pub answered : number ≡ 0
  pub means : IndexMeans (facets j) names i
  -- "which cells name a facet": those that stand under it
  pub cells_of : (k : ℕ) → k < facets j → (c : Cell) → Inside j.grid c
      → Stands i k (index_of j.grid c) ↔ (get_or names (index_of j.grid c) 0 ≡ k)
  -- and the facet was offered to each of them (demand 3)
  pub offered : (k : ℕ) → k < facets j → (c : Cell) → Inside j.grid c → Stands i k (index_of j.grid c)
      → Offered j.grid (input_for j b) c k

-- an index of the old names, as many as the new job's and with as many facets, was updated to the names that it left: answered 0, it is theirs
pub record Repaired (j : Job) (names : List ℕ) (number : ℕ) (i : Index) : Type 0 where
  pub accepted : number ≡ 0
  pub new_means : IndexMeans (facets j) names i

-- ---- of calls

-- of a call of the public function, by its contract: it was given the job j and lent the buffers b, and it answered and left this
abbrev pub IndexableAfterCall : Job → Lent → Answer → Lent → Type 0
IndexableAfterCall j b answer left = Gives (outcome j b) answer left → (t : Tally) → answer ≡ Ok t → Indexable j left.names

-- then a build of the names that it left
abbrev pub IndexedAfterCall : Job → Lent → Answer → Lent → Index → ℕ → Index → Type 0
IndexedAfterCall j b answer left lent number i =
    Gives (outcome j b) answer left → (t : Tally) → answer ≡ Ok t
    → RoomFor j lent → Builds (facets j) left.names lent number i → JobIndexed j b left.names number i

-- or an update from the old names, of which a build left the index
abbrev pub RepairedAfterCall : Job → Lent → Answer → Lent → List ℕ → Index → Index → ℕ → Index → Type 0
RepairedAfterCall j b answer left old lent i number i' =
    Gives (outcome j b) answer left → (t : Tally) → answer ≡ Ok t
    → length old ≡ total j.grid → Builds (facets j) old lent 0 i → Updates (facets j) old left.names i number i'
    → Repaired j left.names number i'

-- the same of a call from C, which sees its number
abbrev pub IndexableAfterCallFromC : Job → Lent → SdfJobAnswer → Lent → Type 0
IndexableAfterCallFromC j b answer left = GivesC (outcome j b) answer left → answer.number ≡ 0 → Indexable j left.names

abbrev pub IndexedAfterCallFromC : Job → Lent → SdfJobAnswer → Lent → Index → ℕ → Index → Type 0
IndexedAfterCallFromC j b answer left lent number i =
    GivesC (outcome j b) answer left → answer.number ≡ 0
    → RoomFor j lent → Builds (facets j) left.names lent number i → JobIndexed j b left.names number i

abbrev pub RepairedAfterCallFromC : Job → Lent → SdfJobAnswer → Lent → List ℕ → Index → Index → ℕ → Index → Type 0
RepairedAfterCallFromC j b answer left old lent i number i' =
    GivesC (outcome j b) answer left → answer.number ≡ 0
    → length old ≡ total j.grid → Builds (facets j) old lent 0 i → Updates (facets j) old left.names i number i'
    → Repaired j left.names number i'
