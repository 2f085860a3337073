-- A row of lines, a line at a time: the parts of the weights that are worked out, and the lines that are marked. Assumes nothing.
use Prim.Native.Nat.{ℕ, ◌+◌, ◌<◌}
use native.Mathlib.Nat.{not-suc-le-zero}
use native.Mathlib.Decide.{ℕ_discrete}
use native.Mathlib.Omega.{arith}
use mathlib.Core.Path.{◌≡◌, refl, sym, ap, ◌∙◌}
use mathlib.Core.Bool.{Bool, true, false, ◌||◌, true≢false}
use mathlib.Core.List.{List}
use lib.ListN.{length, get_or, set}
use lib.Seq.{get_or-set_other}
use lib.Ieee.{Float, nan}
use borrow.Author.Count.{below_more}
use Rattle.lists.proofs.Table.{stored_at}
use Rattle.point.specs.declared.Axis.{Axis}
use Rattle.grid.specs.declared.Grid.{Grid}
use Rattle.geo_ray.specs.declared.Three.{Three}
use Rattle.geo_ray.specs.declared.Cast.{Cast}
use Rattle.geo_ray.specs.Ray.{across_z}
use Rattle.run_cross_lines.specs.Lines.{centre_along}
use Rattle.run_cross_lines.specs.Pass.{parts_at, may_meet, Across, Marked}

-- ---- the parts of the weights

pub across_none : (g : Grid) (axis : Axis) (f : Cast) (z0 z1 z2 : List Float) → Across g axis f 0 z0 z1 z2
across_none g axis f z0 z1 z2 = record { each = λ v h. absurd (not-suc-le-zero h) }

pub across_more : (g : Grid) (axis : Axis) (f : Cast) (i : ℕ) (z0 z1 z2 : List Float) (part : Three) → i < length z0 → i < length z1 → i < length z2
    → part ≡ across_z f (centre_along g axis i) → Across g axis f i z0 z1 z2 → Across g axis f (i + 1) (set z0 i part.v0) (set z1 i part.v1) (set z2 i part.v2)
across_more g axis f i z0 z1 z2 part h0 h1 h2 e s = record { each = λ v h. go v h (ℕ_discrete v i) }
  where
    go : (v : ℕ) → v < i + 1 → Dec (v ≡ i) → parts_at (set z0 i part.v0) (set z1 i part.v1) (set z2 i part.v2) v ≡ across_z f (centre_along g axis v)
    go v h (yes q) =
        rw (stored_at nan z0 i v part.v0 h0 q, stored_at nan z1 i v part.v1 h1 q, stored_at nan z2 i v part.v2 h2 q)
        (e ∙ ap (λ (k : ℕ). across_z f (centre_along g axis k)) (sym q))
    go v h (no q) =
        rw (get_or-set_other z0 i v part.v0 nan q, get_or-set_other z1 i v part.v1 nan q, get_or-set_other z2 i v part.v2 nan q) (s.each v (omega arith))

-- ---- the marks

pub marked_none : (z0 z1 z2 : List Float) (ys : Three) (flags : List Bool) → Marked z0 z1 z2 ys 0 flags
marked_none z0 z1 z2 ys flags = record { each = λ v h. absurd (not-suc-le-zero h) }

pub marked_more : (z0 z1 z2 : List Float) (ys : Three) (i : ℕ) (flags : List Bool) (flag : Bool) → i < length flags → flag ≡ may_meet (parts_at z0 z1 z2 i) ys
    → Marked z0 z1 z2 ys i flags → Marked z0 z1 z2 ys (i + 1) (set flags i flag)
marked_more z0 z1 z2 ys i flags flag l e s = record { each = λ v h. go v h (ℕ_discrete v i) }
  where
    go : (v : ℕ) → v < i + 1 → Dec (v ≡ i) → get_or (set flags i flag) v false ≡ may_meet (parts_at z0 z1 z2 v) ys
    go v h (yes q) = stored_at false flags i v flag l q ∙ e ∙ ap (λ (k : ℕ). may_meet (parts_at z0 z1 z2 k) ys) (sym q)
    go v h (no q) = get_or-set_other flags i v flag false q ∙ s.each v (omega arith)

-- while nothing is marked, no line may be met
pub none_marked : (p : ℕ → Bool) (any flag : Bool) (i : ℕ) → flag ≡ p i → (any ≡ false → (v : ℕ) → v < i → p v ≡ false)
    → (any || flag) ≡ false → (v : ℕ) → v < i + 1 → p v ≡ false
none_marked p true flag i e h n = absurd (true≢false n)
none_marked p false flag i e h n = below_more (λ v. p v ≡ false) i (h refl) (sym e ∙ n)
