-- The causes by a search: triangles with the firsts for their numbers, and what is known while they are entered. Definitions only.
use Rattle.std.specs.Prelude.{ℕ, ◌*◌, ◌^◌, ◌<◌, ◌≡◌, Bool, true, not, cond, ◌||◌, List, eqb, length, get_or}
use Rattle.picks.specs.Picks.{some}
use Rattle.mesh_topology.specs.declared.Triangle.{Triangle}
use Rattle.mesh_topology.specs.Topology.{kth}
use Rattle.mesh_topology.specs.Refusals.{all_below_count}
use Rattle.tidy.specs.declared.ThreeWords.{ThreeWords}
use Rattle.tidy.specs.Numbers.{renumbered, two_equal_numbers, same_numbers}
use Rattle.tidy.specs.Ascending.{ascending}
use Rattle.tidy_search.specs.Links.{Entered}

-- every number of a triangle is that of a vertex, and k is a triangle
pub record Mergeable (ts : List Triangle) (firsts : List ℕ) (k : ℕ) : Type 0 where
  pub below : all_below_count (length firsts) ts ≡ true
  pub few : length firsts < 2 ^ 32
  pub next : k < length ts

-- triangle k with the firsts for its numbers: `merged` of the mesh, where these are its firsts
unfoldable pub merged_by : List Triangle → List ℕ → ℕ → Triangle
merged_by ts firsts k = renumbered (λ v. get_or firsts v 0) (kth ts k)

-- why triangle k goes, by the merged triangles: `cause` of the mesh
unfoldable pub cause_from : (ℕ → Triangle) → ℕ → ℕ
cause_from t k = cond (two_equal_numbers (t k)) 1 (cond (some (λ j. same_numbers (t j) (t k)) k) 2 0)

abbrev pub cause_by : List Triangle → List ℕ → ℕ → ℕ
cause_by ts firsts k = cause_from (merged_by ts firsts) k

-- ---- the search

-- by what triangle k is looked for
abbrev pub key_by : List Triangle → List ℕ → ℕ → ThreeWords
key_by ts firsts k = ascending (merged_by ts firsts k)

-- two of three numbers in ascending order are equal; such a triangle is not entered
abbrev pub flat_key : ThreeWords → Bool
flat_key k = eqb k.a k.b || eqb k.b k.c

abbrev pub solid_key : ThreeWords → Bool
solid_key k = not (flat_key k)

abbrev pub TrianglesEntered : List Triangle → List ℕ → ℕ → ℕ → List ℕ → Type 0
TrianglesEntered ts firsts n k links = Entered (key_by ts firsts) solid_key n k links

-- the triangles below k are entered, and triangle k is the next
pub record ReadyForTriangle (ts : List Triangle) (firsts : List ℕ) (n k : ℕ) (links : List ℕ) : Type 0 where
  pub entered : TrianglesEntered ts firsts n k links
  pub counts : n ≡ length ts
  pub mergeable : Mergeable ts firsts k
  pub few : n < 2 ^ 22

-- what the outputs must be: three links and one cause for each triangle
pub record CanFind (ts : List Triangle) (firsts links causes : List ℕ) : Type 0 where
  pub below : all_below_count (length firsts) ts ≡ true
  pub few_vertices : length firsts < 2 ^ 32
  pub few : length ts < 2 ^ 22
  pub three : length links ≡ 3 * length ts
  pub one : length causes ≡ length ts
