-- The three vertex numbers of a triangle, as document 02, §10, speaks of them. Definitions only.
use Rattle.std.specs.Prelude.{ℕ, Bool, ◌&&◌, ◌||◌, eqb}
use Rattle.mesh_topology.specs.declared.Triangle.{Triangle}
use Rattle.mesh_topology.specs.Topology.{triangle}

-- another number for each
unfoldable pub renumbered : (ℕ → ℕ) → Triangle → Triangle
renumbered f t = triangle (f t.a) (f t.b) (f t.c)

-- "two equal vertex numbers"
unfoldable pub two_equal_numbers : Triangle → Bool
two_equal_numbers t = eqb t.a t.b || eqb t.b t.c || eqb t.c t.a

-- the numbers are x, y and z, in this order
abbrev pub are : Triangle → ℕ → ℕ → ℕ → Bool
are t x y z = eqb t.a x && eqb t.b y && eqb t.c z

-- "the same three numbers in any order": in one of the six
unfoldable pub same_numbers : Triangle → Triangle → Bool
same_numbers s t =
    are s t.a t.b t.c || are s t.b t.c t.a || are s t.c t.a t.b
    || are s t.c t.b t.a || are s t.b t.a t.c || are s t.a t.c t.b

-- v is one of the three
unfoldable pub has_number : Triangle → ℕ → Bool
has_number t v = eqb t.a v || eqb t.b v || eqb t.c v
