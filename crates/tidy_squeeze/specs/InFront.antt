-- What is put in front: a piece for each number that passes a test. Definitions only.
use Rattle.std.specs.Prelude.{ℕ, ◌-◌, Bool, cond, List, [], length, Float}
use Rattle.mesh_topology.specs.declared.Triangle.{Triangle}
use Rattle.mesh_explicit.specs.Explicit.{vertex_numbers}
use Rattle.tidy.specs.Numbers.{renumbered}
use Rattle.tidy_causes.specs.Causes.{merged_by}
use Rattle.tidy_marks.specs.Marks.{mark_at}

-- a piece where the number passes, and nothing else
abbrev pub piece_if : {A : Type 0} → (ℕ → Bool) → (ℕ → List A) → ℕ → List A
piece_if p f k = cond (p k) (f k) []

-- a triangle by the numbers that the marks of its vertices hold
abbrev pub by_marks : ℕ → List Float → Triangle → Triangle
by_marks n words t = renumbered (λ v. mark_at n words v - 1) t

-- the new numbers of triangle k
abbrev pub new_numbers : List Triangle → List ℕ → List Float → ℕ → List ℕ
new_numbers ts firsts words k = vertex_numbers (by_marks (length firsts) words (merged_by ts firsts k))
