-- The refusals of a build and of an update (document 02, §12): "3; then 15, starts not triangles + 1 long, over 1,048,576 names, or a list or
-- other names not as long as the names; then 4 for a name, old or new, that is neither a triangle nor none; then, in an update, 18 for
-- an index that is not that of the old names; nothing is changed." And what both leave. Definitions only.
use Rattle.std.specs.Prelude.{ℕ, ◌+◌, ◌≤◌, ◌≡◌, Bool, not, ◌||◌, List, [], ◌∷◌, ◌++◌, ltb, eqb, length}
use Rattle.lists.specs.Checks.{Check, first_that_applies}
use Rattle.lists.specs.Every.{every}
use Rattle.run.specs.Run.{none}
use Rattle.facet_index.specs.Index.{Index, IsIndex}
use Rattle.facet_index.specs.Told.{Tells}

-- 3: more triangles than a mesh may have
abbrev pub too_many_facets : ℕ → Bool
too_many_facets t = ltb 131072 t

-- 15: "starts not triangles + 1 long, over 1,048,576 names, or a list .. not as long as the names"; each by its length
abbrev pub wrong_lengths : ℕ → ℕ → ℕ → ℕ → Bool
wrong_lengths t names starts list = not (eqb starts (t + 1)) || ltb 1048576 names || not (eqb list names)

-- 4: a name "that is neither a triangle nor none"
abbrev pub known : ℕ → ℕ → Bool
known t name = ltb name t || eqb name none

abbrev pub unknown_name : ℕ → List ℕ → Bool
unknown_name t names = not (every (known t) names)

-- "3; then 15 ..; then 4": in this order, whether a length is wrong and a name unknown being told
abbrev pub in_order : ℕ → Bool → Bool → List Check
in_order t lengths name =
    record { applies = too_many_facets t; number = 3 } ∷
    record { applies = lengths; number = 15 } ∷
    record { applies = name; number = 4 } ∷
    []

-- of a build
abbrev pub build_checks : ℕ → List ℕ → Index → List Check
build_checks t names i = in_order t (wrong_lengths t (length names) (length i.starts) (length i.list)) (unknown_name t names)

-- of an update, with "other names not as long as the names", and "a name, old or new"
abbrev pub early_checks : ℕ → List ℕ → List ℕ → Index → List Check
early_checks t old names i =
    in_order t
    (wrong_lengths t (length names) (length i.starts) (length i.list) || not (eqb (length old) (length names)))
    (unknown_name t old || unknown_name t names)

-- "then, in an update, 18"; whether the index is that of the old names is told
abbrev pub update_checks : ℕ → List ℕ → List ℕ → Index → Bool → List Check
update_checks t old names i current = early_checks t old names i ++ record { applies = not current; number = 18 } ∷ []

-- ---- what a call promises: it answers a number, and leaves the two slices

-- 0 leaves the index of the names, and "nothing is changed" by any other
pub record Leaves (t : ℕ) (names : List ℕ) (lent : Index) (number : ℕ) (left : Index) : Type 0 where
  pub made : number ≡ 0 → IsIndex t names left
  pub unchanged : (number ≡ 0 → ⊥) → left ≡ lent

pub record Builds (t : ℕ) (names : List ℕ) (lent : Index) (number : ℕ) (left : Index) : Type 0 where
  pub numbered : number ≡ first_that_applies (build_checks t names lent)
  pub leaves : Leaves t names lent number left

pub record Updates (t : ℕ) (old names : List ℕ) (lent : Index) (number : ℕ) (left : Index) : Type 0 where
  -- whether what was lent is the index of the old names
  pub current : Bool
  pub told : Tells current (IsIndex t old lent)
  pub numbered : number ≡ first_that_applies (update_checks t old names lent current)
  pub leaves : Leaves t names lent number left

-- ---- between the functions: what is known of the lent lengths where nothing is refused

pub record Lengths (t names starts list : ℕ) : Type 0 where
  pub few_names : names ≤ 1048576
  pub starts_long : starts ≡ t + 1
  pub list_long : list ≡ names
