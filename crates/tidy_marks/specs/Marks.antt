-- Marks and new numbers in the last third of a row of floats. Definitions only.
use Rattle.std.specs.Prelude.{ℕ, ◌+◌, ◌*◌, ◌^◌, ◌<◌, ◌≡◌, Bool, true, not, cond, ◌&&◌, List, eqb, length, get_or, Float}
use Rattle.float_bits.specs.Patterns.{bits_of}
use Rattle.picks.specs.Picks.{some}
use Rattle.mesh_topology.specs.declared.Triangle.{Triangle}
use Rattle.mesh_topology.specs.Refusals.{all_below_count}
use Rattle.tidy.specs.Numbers.{has_number}
use Rattle.tidy_causes.specs.Causes.{merged_by}

-- what is needed of the mesh, of its firsts and causes, and of the row
pub record Squeezable (ts : List Triangle) (firsts causes : List ℕ) (words : ℕ) : Type 0 where
  pub below : all_below_count (length firsts) ts ≡ true
  pub firsts_below : (v : ℕ) → v < length firsts → get_or firsts v 0 < length firsts
  pub few : length firsts < 2 ^ 22
  pub one : length causes ≡ length ts
  pub three : words ≡ 3 * length firsts

-- each number of a triangle is below n
pub record NumbersBelow (n : ℕ) (t : Triangle) : Type 0 where
  pub a : t.a < n
  pub b : t.b < n
  pub c : t.c < n

-- the mark of vertex v, of n
abbrev pub mark_at : ℕ → List Float → ℕ → ℕ
mark_at n words v = get_or (bits_of words) (2 * n + v) 0

-- the marks are those of f
pub record Marks (n : ℕ) (f : ℕ → ℕ) (words : List Float) : Type 0 where
  pub is : (v : ℕ) → v < n → mark_at n words v ≡ f v

abbrev pub is_marked : ℕ → List Float → ℕ → Bool
is_marked n words v = not (eqb (mark_at n words v) 0)

-- vertex v alone has another mark: if it has one, a count more
abbrev pub numbered : ℕ → List Float → ℕ → ℕ → ℕ → ℕ
numbered n words v count w = cond (eqb v w && is_marked n words v) (count + 1) (mark_at n words w)

-- a triangle is kept where its cause is 0, and a vertex is used where a kept triangle has it: `is_kept` and `used` of the mesh
abbrev pub kept_by : List ℕ → ℕ → Bool
kept_by causes k = eqb (get_or causes k 0) 0

abbrev pub used_by : List Triangle → List ℕ → List ℕ → ℕ → Bool
used_by ts firsts causes v = some (λ k. kept_by causes k && has_number (merged_by ts firsts k) v) (length ts)
