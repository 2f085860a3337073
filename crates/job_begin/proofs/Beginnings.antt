-- The two ways a job begins: refused, with nothing changed; or seeded, over a field and names which the checks found to be of the right
-- lengths and which were then cleared. Assumes nothing.
use Prim.Native.Nat.{ℕ}
use mathlib.Core.Path.{◌≡◌, refl, sym, ap, ◌∙◌}
use mathlib.Core.List.{List}
use lib.ListN.{length, replicate, length-replicate}
use lib.Ieee.{Float}
use Rattle.std.specs.Prelude.{Result, Ok}
use Rattle.std.specs.Result.{IsErrAnd}
use Rattle.std.proofs.lemmas.Result.{err_from_is_err_and}
use Rattle.refusals.specs.declared.Refusal.{Refusal}
use Rattle.refusals.specs.Numbers.{number_of, refusal_number}
use Rattle.float.specs.Arith.{f_max}
use Rattle.lists.specs.Turns.{turns, told}
use Rattle.terms.specs.declared.SignMethod.{SignMethod}
use Rattle.grid.specs.declared.Grid.{Grid}
use Rattle.grid.specs.Index.{total}
use Rattle.mesh.specs.Mesh.{Mesh, triangles_in}
use Rattle.run.specs.Run.{none}
use Rattle.run_seed_cells.specs.Parts.{seed_state, over_triangle}
use Rattle.job_checks.specs.Refusals.{refusal_by}
use Rattle.job_checks.proofs.Accepted.{Accepted, accepted}
use Rattle.job_begin.specs.Begins.{Begun, lengths_with, Begins}

module _ (g : Grid) (m : Mesh) (sign : SignMethod) (edition crossings rows room : ℕ) (field : List Float) (names : List ℕ) where
  -- the refusal is handed up
  pub begins_refused : (begun : Begun) (r : Refusal) → IsErrAnd begun (λ s. s ≡ r) → number_of r ≡ refusal_by g edition m (lengths_with field names crossings rows room)
      → Begins g m sign edition crossings rows room field names field names begun
  begins_refused begun r up e =
      let p = err_from_is_err_and begun up in
      record {
        refused_is = ap refusal_number p.1 ∙ ap number_of p.2 ∙ e;
        unchanged = λ w. (refl, refl);
        seeded = λ seeding ok. absurd (let is = p.1 in cc);
      }

  -- not refused, and then cleared
  module _ (z : refusal_by g edition m (lengths_with field names crossings rows room) ≡ 0) where
    pub begins_fit : Accepted g edition m (lengths_with field names crossings rows room)
    begins_fit = accepted g edition m (lengths_with field names crossings rows room) z

    module _ {bare : List Float} {unnamed : List ℕ} (f : bare ≡ replicate (length field) f_max) (n : unnamed ≡ replicate (length names) none) where
      field_bare : bare ≡ replicate (total g) f_max
      field_bare = f ∙ ap (λ (l : ℕ). replicate l f_max) begins_fit.long.field

      names_bare : unnamed ≡ replicate (total g) none
      names_bare = n ∙ ap (λ (l : ℕ). replicate l none) begins_fit.long.names

      pub bare_long : (length bare ≡ total g) × (length unnamed ≡ total g)
      bare_long = (ap length field_bare ∙ length-replicate (total g) f_max, ap length names_bare ∙ length-replicate (total g) none)

      pub begins_seeded : (told_by : Result (Unit {0}) Refusal) {field' : List Float} {names' : List ℕ}
          → turns (over_triangle g m sign) (length (triangles_in m)) (seed_state bare unnamed) ≡ told (refusal_number told_by) (seed_state field' names')
          → Begins g m sign edition crossings rows room field names field' names' (Ok told_by)
      begins_seeded told_by {field'} {names'} t =
          record {
            refused_is = sym z;
            unchanged = λ w. absurd (w refl);
            seeded = λ seeding ok.
                let same : told_by ≡ seeding = cc in
                sym (λ i. turns (over_triangle g m sign) (length (triangles_in m)) (seed_state (field_bare i) (names_bare i)))
                ∙ t
                ∙ ap (λ (told_so : Result (Unit {0}) Refusal). told (refusal_number told_so) (seed_state field' names')) same;
          }
