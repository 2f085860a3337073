-- Demand 3: what the field means, for each cell of a job that is done. "Demand 3 is read over demand 2's distance and run" (document
-- 01, "What the contracts owe"). Definitions only; proofs/Theorem.antt shows that it holds.
use Rattle.std.specs.Prelude.{ℕ, ◌+◌, ◌*◌, ◌%◌, ◌≡◌, ◌⊎◌, true, false, List, leb, get_or, Float, if◌then◌else◌}
use Rattle.std.specs.Float.{nan}
use Rattle.std.specs.Float.Ieee.{neg}
use Rattle.float.specs.Arith.{◌≦◌, ◌≺◌, f_max}
use Rattle.float.specs.Distance.{unsigned}
use Rattle.float_order.specs.Nearer.{nearer}
use Rattle.terms.specs.declared.SignMethod.{SignMethod}
use Rattle.terms.specs.declared.SignMethod.TheVariants.{Raycast, Normal}
use Rattle.point.specs.declared.Axis.{Axis}
use Rattle.point.specs.declared.Axis.TheVariants.{X, Y, Z}
use Rattle.grid.specs.declared.Grid.{Grid}
use Rattle.grid.specs.declared.Cell.{Cell}
use Rattle.grid.specs.Index.{index_of}
use Rattle.mesh.specs.Mesh.{Mesh}
use Rattle.run.specs.Run.{RunInput, none}
use Rattle.run.specs.Signs.{crossings}
use Rattle.demand_3.specs.Offered.{Offered}

-- "The cell's magnitude is the least of f32::MAX and the distances of all triangles offered to it: it is at most each of them and at
-- most f32::MAX, and it is one of them." Nothing is at most a NaN.
pub record Least (grid : Grid) (g : RunInput) (c : Cell) (magnitude : Float) : Type 0 where
  pub at_most_max : (magnitude ≦ f_max) ≡ true
  pub at_most_each : (k : ℕ) → Offered grid g c k → (magnitude ≦ g.distance k (index_of grid c)) ≡ true
  pub one_of_them : (magnitude ≡ f_max) ⊎ ((k : ℕ) × Offered grid g c k × (magnitude ≡ g.distance k (index_of grid c)))

-- "If the magnitude is below f32::MAX, the named triangle was offered to the cell and has exactly that distance (the same bits);
-- otherwise none is named (4,294,967,295)."
pub record Names (grid : Grid) (g : RunInput) (c : Cell) (magnitude : Float) (name : ℕ) : Type 0 where
  pub below_max : (magnitude ≺ f_max) ≡ true → Offered grid g c name × (magnitude ≡ g.distance name (index_of grid c))
  pub otherwise : (magnitude ≺ f_max) ≡ false → name ≡ none

-- the count along an axis of the cell of index i, in the lent crossings: "x, y, z of each cell in turn"
abbrev pub count_left : List ℕ → ℕ → Axis → ℕ
count_left left i X = get_or left (3 * i) 0
count_left left i Y = get_or left (3 * i + 1) 0
count_left left i Z = get_or left (3 * i + 2) 0

-- how many of three counts are odd
abbrev pub odd_ones : (Axis → ℕ) → ℕ
odd_ones count = count X % 2 + count Y % 2 + count Z % 2

-- what the three buffers hold for cell c after the call, where rays give the signs
pub record RaycastMeans (grid : Grid) (mesh : Mesh) (g : RunInput) (field : List Float) (names left : List ℕ) (c : Cell) : Type 0 where
  -- the cell's value without its sign
  pub magnitude : Float
  pub no_sign : unsigned magnitude ≡ true
  pub least : Least grid g c magnitude
  pub name : Names grid g c magnitude (get_or names (index_of grid c) 0)
  -- "The value is negated exactly when at least two of its three crossing counts are odd; the crossing counts are those of the
  -- definition, which are those left in the lent buffer."
  pub counts : (a : Axis) → count_left left (index_of grid c) a ≡ crossings grid mesh a c
  pub sign : get_or field (index_of grid c) nan ≡ (if leb 2 (odd_ones (count_left left (index_of grid c))) then neg magnitude else magnitude)

-- "In Normal, demand 3 reads: each value is f32::MAX with none named, or the signed distance of the named triangle, which was offered to the
-- cell." (document 02, §8)
pub data Valued (grid : Grid) (g : RunInput) (c : Cell) (value : Float) (name : ℕ) : Type 0 where
  none_named : value ≡ f_max → name ≡ none → Valued grid g c value name
  of_named : Offered grid g c name → value ≡ g.distance name (index_of grid c) → Valued grid g c value name

-- what the three buffers hold for cell c after the call, where triangles give the signs
pub record NormalMeans (grid : Grid) (g : RunInput) (field : List Float) (names left : List ℕ) (c : Cell) : Type 0 where
  pub valued : Valued grid g c (get_or field (index_of grid c) nan) (get_or names (index_of grid c) 0)
  -- and of the triangles offered to the cell none is nearer, by the comparison by which a cell takes one
  pub none_nearer : (k : ℕ) → Offered grid g c k → nearer (g.distance k (index_of grid c)) (get_or field (index_of grid c) nan) ≡ false
  -- "no rays, crossings left zero"
  pub no_crossings : (a : Axis) → count_left left (index_of grid c) a ≡ 0

-- by the method of the signs
abbrev pub CellMeans : SignMethod → Grid → Mesh → RunInput → List Float → List ℕ → List ℕ → Cell → Type 0
CellMeans Raycast grid mesh g field names left c = RaycastMeans grid mesh g field names left c
CellMeans Normal grid mesh g field names left c = NormalMeans grid g field names left c
