-- The row of triangles by numbers: how many there are, and the corners of the k-th. A list goes down by three corners at a step
-- and a strip by one, so each law is an induction over the corners, by threes or by ones. Assumes nothing.
use mathlib.Core.Path.{◌≡◌, refl, sym, ap, ◌∙◌}
use mathlib.Core.Bool.{true, ◌&&◌, and-eq-true_iff}
use mathlib.Core.List.{List, [], ◌∷◌}
use Prim.Native.Nat.{ℕ, zero, suc, ◌+◌, ◌-◌, ◌*◌, ◌/◌, ◌<◌}
use native.Mathlib.Nat.{add-zero}
use native.Mathlib.Omega.{arith}
use lib.Dec.{ltb}
use lib.ListN.{length, get_or}
use borrow.Author.Tests.{ltb-true}
use Rattle.lists.proofs.Every.{every_at}
use Rattle.mesh_topology.specs.declared.Topology.{Topology}
use Rattle.mesh_topology.specs.declared.Topology.TheVariants.{TriangleList, TriangleStrip}
use Rattle.mesh_topology.specs.declared.Indices.{Indices}
use Rattle.mesh_topology.specs.declared.Indices.TheVariants.{Given, None}
use Rattle.mesh_topology.specs.declared.Triangle.{Triangle}
use Rattle.mesh_topology.specs.Topology.{count_from, corners, triangle, threes, windows, triangles, kth, triangle_count, first_corner}
use Rattle.mesh_topology.specs.Refusals.{below_count, all_below_count}

-- ---- the numbers that stand in for indices
pub length_count_from : (a n : ℕ) → length (count_from a n) ≡ n
unfolding count_from
length_count_from a zero = refl
length_count_from a (suc n) = ap suc (length_count_from (suc a) n)

pub count_from_at : (a n i : ℕ) → i < n → get_or (count_from a n) i 0 ≡ a + i
unfolding count_from
count_from_at a zero i h = absurd (omega arith)
count_from_at a (suc n) zero h = sym (add-zero a)
count_from_at a (suc n) (suc i) h = count_from_at (suc a) n i (omega arith) ∙ omega arith

-- there are fewer than m corners where there are fewer than m indices and fewer than m vertices
pub corners_fit : (given : Indices) (is : List ℕ) (n m : ℕ) → length is < m → n < m → length (corners given is n) < m
corners_fit Given is n m h l = h
corners_fit None is n m h l = rw length_count_from l

-- ---- how many triangles
count_threes : (cs : List ℕ) → length (threes cs) ≡ length cs / 3
unfolding threes
count_threes [] = refl
count_threes (a ∷ []) = refl
count_threes (a ∷ b ∷ []) = refl
count_threes (a ∷ b ∷ c ∷ cs) = omega (arith, count_threes cs)

count_windows : (cs : List ℕ) → length (windows cs) ≡ length cs - 2
unfolding windows
count_windows [] = refl
count_windows (a ∷ []) = refl
count_windows (a ∷ b ∷ []) = refl
count_windows (a ∷ b ∷ c ∷ cs) = omega (arith, count_windows (b ∷ c ∷ cs))

-- so many corners make so many triangles
pub count_is : (t : Topology) (cs : List ℕ) → length (triangles t cs) ≡ triangle_count t (length cs)
unfolding triangles
count_is TriangleList cs = count_threes cs
count_is TriangleStrip cs = count_windows cs

-- the three corners of a triangle are corners
corners_below_lem : (t : Topology) (n k : ℕ) → k < triangle_count t n → first_corner t k + 2 < n
corners_below_lem TriangleList n k h = omega arith
corners_below_lem TriangleStrip n k h = omega arith

pub corners_within : (t : Topology) (cs : List ℕ) (k : ℕ) → k < length (triangles t cs) → first_corner t k + 2 < length cs
corners_within t cs k h = corners_below_lem t (length cs) k (rw count_is at h)

-- ---- which corners the k-th has
-- the three corners from i on
abbrev pub from : List ℕ → ℕ → Triangle
from cs i = triangle (get_or cs i 0) (get_or cs (i + 1) 0) (get_or cs (i + 2) 0)

-- a corner in front moves the others up by one
from_next : (a : ℕ) (cs : List ℕ) (i : ℕ) → from (a ∷ cs) (suc i) ≡ from cs i
from_next a cs i = rw (up (suc i + 1) (i + 1) (omega arith), up (suc i + 2) (i + 2) (omega arith))
  where
    up : (j k : ℕ) → j ≡ suc k → get_or (a ∷ cs) j 0 ≡ get_or cs k 0
    up j k e = rw e

at_threes : (cs : List ℕ) (k : ℕ) → k < length cs / 3 → kth (threes cs) k ≡ from cs (3 * k)
unfolding threes
at_threes [] k h = absurd (omega arith)
at_threes (a ∷ []) k h = absurd (omega arith)
at_threes (a ∷ b ∷ []) k h = absurd (omega arith)
at_threes (a ∷ b ∷ c ∷ cs) zero h = refl
at_threes (a ∷ b ∷ c ∷ cs) (suc k) h = at_threes cs k (omega arith) ∙ sym (rw (step) (rw (from_next, from_next, from_next)))
  where
    step : 3 * suc k ≡ suc (suc (suc (3 * k)))
    step = omega arith

at_windows : (cs : List ℕ) (k : ℕ) → k < length cs - 2 → kth (windows cs) k ≡ from cs k
unfolding windows
at_windows [] k h = absurd (omega arith)
at_windows (a ∷ []) k h = absurd (omega arith)
at_windows (a ∷ b ∷ []) k h = absurd (omega arith)
at_windows (a ∷ b ∷ c ∷ cs) zero h = refl
at_windows (a ∷ b ∷ c ∷ cs) (suc k) h = at_windows (b ∷ c ∷ cs) k (omega arith) ∙ sym (from_next a (b ∷ c ∷ cs) k)

-- the k-th triangle is the three corners from its first on
pub kth_is : (t : Topology) (cs : List ℕ) (k : ℕ) → k < length (triangles t cs) → kth (triangles t cs) k ≡ from cs (first_corner t k)
unfolding triangles
kth_is TriangleList cs k h = at_threes cs k (omega (arith, count_threes cs))
kth_is TriangleStrip cs k h = at_windows cs k (omega (arith, count_windows cs))

-- what passes refusal 4: the corners of each triangle are vertices
pub record Vertices (v : ℕ) (t : Triangle) : Type 0 where
  pub a_below : t.a < v
  pub b_below : t.b < v
  pub c_below : t.c < v

vertices_of : (v : ℕ) (t : Triangle) → below_count v t ≡ true → Vertices v t
vertices_of v t h =
    let ab-c = (and-eq-true_iff (ltb t.a v && ltb t.b v) (ltb t.c v)).0 h in
    let a-b = (and-eq-true_iff (ltb t.a v) (ltb t.b v)).0 ab-c.0 in
    record {
      a_below = ltb-true t.a v a-b.0;
      b_below = ltb-true t.b v a-b.1;
      c_below = ltb-true t.c v ab-c.1;
    }

pub vertices_at_lem : (v : ℕ) (ts : List Triangle) (k : ℕ) → all_below_count v ts ≡ true → k < length ts → Vertices v (kth ts k)
vertices_at_lem v ts k h l = vertices_of v (kth ts k) (every_at (below_count v) (triangle 0 0 0) ts k h l)
