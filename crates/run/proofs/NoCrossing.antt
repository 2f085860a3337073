-- A ray that grazed "still adds no crossing" (document 02, §3): it reaches no cell. Assumes nothing.
use Prim.Native.Nat.{ℕ}
use mathlib.Core.Path.{◌≡◌, refl, sym}
use mathlib.Core.Bool.{true, false, true≢false}
use Rattle.point.specs.declared.Axis.{Axis}
use Rattle.grid.specs.declared.Grid.{Grid}
use Rattle.grid.specs.declared.Cell.{Cell}
use Rattle.grid.specs.Axes.{size_on, cell_on}
use Rattle.geo_ray.specs.declared.RayHit.{RayHit}
use Rattle.geo_ray.specs.declared.RayHit.TheVariants.{Miss, Grazed, Hit}
use Rattle.geo_ray.specs.Ray.{is_grazed}
use Rattle.mesh.specs.Mesh.{Mesh}
use Rattle.run.specs.Signs.{ray_from, reaches, crosses}

pub grazed_adds_none : (g : Grid) (m : Mesh) (axis : Axis) (c : Cell) (k : ℕ) → is_grazed (ray_from g m axis c k) ≡ true → crosses g m axis c k ≡ false
unfolding crosses
grazed_adds_none g m axis c k = go (ray_from g m axis c k)
  where
    go : (r : RayHit) → is_grazed r ≡ true → reaches (size_on axis g) (cell_on axis c) r ≡ false
    go Miss h = refl
    go Grazed h = refl
    go (Hit t) h = absurd (true≢false (sym h))
