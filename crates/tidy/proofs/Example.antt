-- A mesh by hand, tidied by computation. Of its eight vertices 0 and 2 differ in the sign of a zero alone and stay apart, 4 and 7 in z
-- alone, 3 and 5 are copies of 1 (5 is one of 3, too), 6 is used by a dropped triangle only and 7 by none. Of its six triangles 1 has the
-- numbers of 0, merged and wound the other way; 2 has two equal ones, merged, the first and the last; 3 differs from 0 by the sign of that
-- zero, and is kept; 4 repeats 2 and has two equal ones, and its cause is 1; so is that of 5. Two indices are left over, one of no vertex.
-- Assumes nothing.
use mathlib.Core.Path.{◌≡◌, refl}
use mathlib.Core.Bool.{true, false}
use mathlib.Core.List.{[], ◌∷◌}
use lib.IntN.{pos}
use lib.Ieee.{Float, fin, to_bits}
use Rattle.lists.specs.Range.{count_below}
use Rattle.lists.specs.Table.{table}
use Rattle.lists.specs.Joined.{joined, each}
use Rattle.picks.specs.Picks.{least, some, select}
use Rattle.mesh_topology.specs.declared.Topology.TheVariants.{TriangleList}
use Rattle.mesh_topology.specs.declared.Indices.TheVariants.{Given}
use Rattle.mesh_topology.specs.Topology.{threes, triangles}
use Rattle.mesh.specs.Mesh.{Mesh, mesh_of}
use Rattle.tidy.specs.Same.{same_words}
use Rattle.tidy.specs.Numbers.{renumbered, two_equal_numbers, same_numbers, has_number}
use Rattle.tidy.specs.Tidy.{vertex_bits, first_of, cause, kept_vertices, kept_triangles, tidied, firsts, causes}

-- 0, −0 and 1
abbrev o : Float
o = fin false 0 (pos 0)

abbrev -o : Float
-o = fin true 0 (pos 0)

abbrev i : Float
i = fin false 1 (pos 0)

abbrev scan : Mesh
scan =
    mesh_of
    (o ∷ o ∷ o ∷
    i ∷ o ∷ o ∷
    -o ∷ o ∷ o ∷
    i ∷ o ∷ o ∷
    o ∷ i ∷ o ∷
    i ∷ o ∷ o ∷
    i ∷ i ∷ o ∷
    o ∷ i ∷ i ∷ [])
    TriangleList
    Given
    (0 ∷ 3 ∷ 4 ∷
    4 ∷ 5 ∷ 0 ∷
    1 ∷ 4 ∷ 3 ∷
    2 ∷ 1 ∷ 4 ∷
    4 ∷ 5 ∷ 3 ∷
    6 ∷ 3 ∷ 5 ∷
    9 ∷ 2 ∷ [])

firsts_scan : firsts scan ≡ (0 ∷ 1 ∷ 2 ∷ 1 ∷ 4 ∷ 1 ∷ 6 ∷ 7 ∷ [])
unfolding first_of least same_words vertex_bits to_bits table
firsts_scan = refl

causes_scan : causes scan ≡ (0 ∷ 2 ∷ 1 ∷ 0 ∷ 1 ∷ 1 ∷ [])
unfolding cause least some same_words vertex_bits to_bits renumbered two_equal_numbers same_numbers table threes triangles
causes_scan = refl

tidied_scan : tidied scan ≡ mesh_of (o ∷ o ∷ o ∷ i ∷ o ∷ o ∷ -o ∷ o ∷ o ∷ o ∷ i ∷ o ∷ []) TriangleList Given (0 ∷ 1 ∷ 3 ∷ 2 ∷ 1 ∷ 3 ∷ [])
unfolding tidied least some select count_below same_words vertex_bits to_bits renumbered two_equal_numbers same_numbers has_number table joined
    each threes triangles
tidied_scan = refl

counts_scan : (kept_vertices scan ≡ 4) × (kept_triangles scan ≡ 2)
unfolding kept_vertices kept_triangles least some count_below same_words vertex_bits to_bits renumbered two_equal_numbers same_numbers has_number
    threes triangles
counts_scan = (refl, refl)
