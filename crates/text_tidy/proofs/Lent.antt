-- The buffers for a small mesh can be cut to the lengths that its bits and its indices ask for, and outputs of these lengths are rightly lent to
-- the mesh of its floats. Assumes nothing.
use Prim.Native.Nat.{ℕ, ◌*◌, ◌/◌, ◌≤◌}
use native.Mathlib.Omega.{arith}
use mathlib.Core.Path.{◌≡◌, ap, ◌∙◌}
use mathlib.Core.List.{List}
use lib.ListN.{length, take, length-map}
use lib.Seq.{length-take-le}
use lib.Ieee.{Float, binary32, of_bits}
use Rattle.float_bits.specs.Patterns.{floats_of}
use Rattle.mesh_topology.specs.Topology.{triangles_of}
use Rattle.mesh.specs.Mesh.{mesh_of}
use Rattle.text.specs.Limits.{most_vertices, coordinate_room, index_room}
use Rattle.tidy_mesh.specs.Outcome.{TidyLent}
use Rattle.text_read_job.specs.declared.Asked.{Asked}
use Rattle.text_tidy.specs.Parts.{RightlyLent, SmallMesh}

-- the front of a buffer
front : {A : Type 0} (n room : ℕ) (l : List A) → room ≡ length l → n ≤ room → length (take n l) ≡ n
front n room l e h = length-take-le n l (omega arith)

module _ {a : Asked} {bits indices out : List ℕ} (s : SmallMesh a bits indices out) where
  pub coordinates_cut : (l : List Float) → coordinate_room ≡ length l → length (take (length bits) l) ≡ length bits
  coordinates_cut l e = front _ coordinate_room _ e s.coordinates_few

  pub firsts_cut : (l : List ℕ) → most_vertices ≡ length l → length (take (length bits / 3) l) ≡ length bits / 3
  firsts_cut l e = front _ most_vertices _ e (omega (arith, s.coordinates_few))

  module _ {t : ℕ} (is : t ≡ length (triangles_of a.head.topology a.given indices (length bits / 3))) where
    pub explicit_cut : (l : List ℕ) → index_room ≡ length l → length (take (3 * t) l) ≡ 3 * t
    explicit_cut l e = front _ index_room _ e (omega (arith, s.triangles_few))

    pub causes_cut : (l : List ℕ) → index_room / 3 ≡ length l → length (take t l) ≡ t
    causes_cut l e = front _ (index_room / 3) _ e (omega (arith, s.triangles_few))

module _ {a : Asked} {bits indices out : List ℕ} (s : SmallMesh a bits indices out) {floats : List Float} (e : floats ≡ floats_of bits) where
  -- how many triangles there are, by the bits
  triangles_by : ℕ → ℕ
  triangles_by n = length (triangles_of a.head.topology a.given indices (n / 3))

  pub lent_right : (t : ℕ) → t ≡ length (triangles_of a.head.topology a.given indices (length bits / 3)) → (lent : TidyLent)
      → length lent.coordinates ≡ length bits
      → length lent.indices ≡ 3 * t
      → length lent.firsts ≡ length bits / 3
      → length lent.causes ≡ t
      → RightlyLent (mesh_of floats a.head.topology a.given indices) lent out
  unfolding triangles_by
  lent_right t is lent c i f k =
      let long : length floats ≡ length bits = ap length e ∙ length-map bits (of_bits binary32) in
      let count = ap triangles_by long in
      record {
        vertices_few = omega (arith, s.coordinates_few);
        triangles_few = omega (arith, s.triangles_few);
        coordinates_long = omega arith;
        indices_long = omega arith;
        firsts_long = omega arith;
        causes_long = omega arith;
        room = s.room;
      }
