-- "Componentwise `sub` and `add`, dot as (x·x + y·y) + z·z, and length as the square root of the dot with itself" (document 01).
-- One rounding for each operation, in the order of `point.rs`. Definitions only.
use Rattle.std.specs.Prelude.{Bool, ◌&&◌, ℕ, eqb, Float, if◌then◌else◌}
use Rattle.float.specs.Arith.{◌⊕◌, ◌⊖◌, ◌⊗◌, ◌⊘◌, ◌≐◌}
use Rattle.float.specs.RootOf.{root_of}
use Rattle.point.specs.declared.Point.{Point}
use Rattle.point.specs.declared.Axis.{Axis}
use Rattle.point.specs.declared.Axis.TheVariants.{X, Y, Z}

infixl 6 ◌+ᵥ◌ ◌-ᵥ◌
infixl 7 ◌*ᵥ◌ ◌÷ᵥ◌ ◌×ᵥ◌
infixl 8 ◌·◌
infix 5 ◌≐ᵥ◌
abbrev pub vec : Float → Float → Float → Point
vec x y z = record { x = x; y = y; z = z }

abbrev pub ◌+ᵥ◌ : Point → Point → Point
p +ᵥ q = vec (p.x ⊕ q.x) (p.y ⊕ q.y) (p.z ⊕ q.z)

abbrev pub ◌-ᵥ◌ : Point → Point → Point
p -ᵥ q = vec (p.x ⊖ q.x) (p.y ⊖ q.y) (p.z ⊖ q.z)

-- `fmul` and `comp_div`
abbrev pub ◌*ᵥ◌ : Point → Float → Point
p *ᵥ k = vec (p.x ⊗ k) (p.y ⊗ k) (p.z ⊗ k)

abbrev pub ◌÷ᵥ◌ : Point → Point → Point
p ÷ᵥ q = vec (p.x ⊘ q.x) (p.y ⊘ q.y) (p.z ⊘ q.z)

abbrev pub ◌·◌ : Point → Point → Float
p · q = (p.x ⊗ q.x ⊕ p.y ⊗ q.y) ⊕ p.z ⊗ q.z

-- `cross`, which the normal of a triangle is made by (document 02, §8)
abbrev pub ◌×ᵥ◌ : Point → Point → Point
p ×ᵥ q = vec (p.y ⊗ q.z ⊖ p.z ⊗ q.y) (p.z ⊗ q.x ⊖ p.x ⊗ q.z) (p.x ⊗ q.y ⊖ p.y ⊗ q.x)

-- the length of a vector, and the distance of two points
abbrev pub length_of : Point → Float
length_of p = root_of (p · p)

abbrev pub dist_of : Point → Point → Float
dist_of p q = length_of (p -ᵥ q)

-- equality, with -0 equal to +0
abbrev pub ◌≐ᵥ◌ : Point → Point → Bool
p ≐ᵥ q = (p.x ≐ q.x) && (p.y ≐ q.y) && (p.z ≐ q.z)

-- "Closures `get_x` .. `get_z`: a choice by axis"
abbrev pub coordinate : Axis → Point → Float
coordinate X p = p.x
coordinate Y p = p.y
coordinate Z p = p.z

-- 0 is x, 1 is y, and any other number z
abbrev pub axis_numbered : ℕ → Axis
axis_numbered n =
    if eqb n 0 then X
    else (if eqb n 1 then Y
    else Z)

-- the coordinates in the order in which the ray test's get_x, get_y, get_z read them: first the one along the axis
abbrev pub turned : Axis → Point → Point
turned X p = p
turned Y p = vec p.y p.z p.x
turned Z p = vec p.z p.x p.y
