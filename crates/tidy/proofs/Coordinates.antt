-- The coordinates of a vertex are its three of the row, and a row of no more is those of its vertices, one behind the other. Bits and
-- points are read off them; where each is an f32, bits say which. Assumes nothing.
use Prim.Native.Nat.{ℕ, zero, suc, ◌+◌, ◌*◌, ◌/◌, ◌<◌}
use native.Mathlib.Nat.{add-zero}
use native.Mathlib.Numerals.{add-one, add-two}
use native.Mathlib.Omega.{arith}
use mathlib.Core.Path.{◌≡◌, refl, sym, ap, ◌∙◌}
use mathlib.Core.List.{List}
use lib.Dec.{T}
use lib.ListN.{length, get_or, take, drop}
use lib.Seq.{drop-cons, take_all}
use lib.Ieee.{Float, nan, binary32, fits, of_bits, to_bits}
use lib.Ieee.Bits.{of_bits-to_bits}
use Rattle.lists.specs.Joined.{joined}
use Rattle.lists.proofs.Joined.{joined_same, joined_parts}
use Rattle.mesh.specs.Mesh.{vertex_at}
use Rattle.tidy.specs.declared.ThreeWords.{ThreeWords}
use Rattle.tidy.specs.Tidy.{vertex_bits, coordinates_at}

-- coordinate d of vertex v
pub coordinate : (vs : List Float) (v d : ℕ) → d < 3 → get_or vs (3 * v + d) nan ≡ get_or (coordinates_at vs v) d nan
coordinate vs v zero h = rw add-zero
coordinate vs v (suc zero) h = refl
coordinate vs v (suc (suc zero)) h = refl
coordinate vs v (suc (suc (suc d))) h = absurd (omega arith)

pub coordinates_part : (vs : List Float) (v : ℕ) → v < length vs / 3 → coordinates_at vs v ≡ take 3 (drop (3 * v) vs)
coordinates_part vs v h =
    rw (
      add-one,
      add-two,
      drop-cons vs (3 * v) nan (omega arith),
      drop-cons vs (suc (3 * v)) nan (omega arith),
      drop-cons vs (suc (suc (3 * v))) nan (omega arith),
    )

pub coordinates_whole : (vs : List Float) (n : ℕ) → length vs ≡ 3 * n → joined (coordinates_at vs) n ≡ vs
coordinates_whole vs n h =
    joined_same (coordinates_at vs) (λ v. take 3 (drop (3 * v) vs)) n (λ v l. coordinates_part vs v (omega arith))
    ∙ joined_parts 3 n vs
    ∙ take_all (3 * n) vs (omega arith)

-- ---- what is read off them

module _ (vs ws : List Float) (u v : ℕ) (e : coordinates_at vs u ≡ coordinates_at ws v) where
  one : (d : ℕ) → get_or (coordinates_at vs u) d nan ≡ get_or (coordinates_at ws v) d nan
  one d = ap (λ (l : List Float). get_or l d nan) e

  pub same_bits : vertex_bits vs u ≡ vertex_bits ws v
  unfolding vertex_bits
  same_bits = simp (one 0, one 1, one 2)

  pub same_points : vertex_at vs u ≡ vertex_at ws v
  unfolding vertex_at
  same_points = simp (one 0, one 1, one 2)

-- each coordinate is an f32, as those of a lent slice are
module _ (vs : List Float) (held : (i : ℕ) → T (fits binary32 (get_or vs i nan))) where
  value : (i j : ℕ) → to_bits binary32 (get_or vs i nan) ≡ to_bits binary32 (get_or vs j nan) → get_or vs i nan ≡ get_or vs j nan
  value i j e =
      sym (of_bits-to_bits binary32 (get_or vs i nan) (held i)) ∙ ap (of_bits binary32) e ∙ of_bits-to_bits binary32 (get_or vs j nan) (held j)

  pub bits_points : (u v : ℕ) → vertex_bits vs u ≡ vertex_bits vs v → vertex_at vs u ≡ vertex_at vs v
  unfolding vertex_bits vertex_at
  bits_points u v e =
      rw (
        value (3 * u) (3 * v) (ap (λ (t : ThreeWords). t.a) e),
        value (3 * u + 1) (3 * v + 1) (ap (λ (t : ThreeWords). t.b) e),
        value (3 * u + 2) (3 * v + 2) (ap (λ (t : ThreeWords). t.c) e),
      )
