-- What the upright axis and the edition mean for a whole job. What the run is told, the rays and the signs do not look at the axis (crate `run`,
-- proofs/Standing.antt) and have no edition, so both jobs have one run and end alike; of the checks only two look at the one, and one at the other. Once
-- over the axes and the editions, for any numbers. Assumes nothing.
use Prim.Native.Nat.{ℕ, ◌*◌, ◌≤◌}
use mathlib.Core.Path.{◌≡◌, refl, sym, ap, ◌∙◌}
use mathlib.Core.Bool.{false, not, ◌||◌}
use mathlib.Core.Logic.{◌⊎◌, inl, inr}
use mathlib.Core.List.{[], ◌∷◌, ◌++◌}
use lib.Dec.{eqb}
use lib.ListN.{length, replicate}
use borrow.Author.Tests.{le-leb, eq-eqb}
use Rattle.float.specs.Arith.{f_max}
use Rattle.lists.specs.Turns.{Turn, goes, refuses}
use Rattle.lists.specs.Checks.{first_that_applies}
use Rattle.grid.specs.declared.Grid.{Grid}
use Rattle.grid.specs.Index.{total}
use Rattle.grid.specs.Layers.{layers, stood}
use Rattle.grid.specs.Place.{box_min, box_max}
use Rattle.grid.specs.Bounds.{in_bounds}
use Rattle.mesh.specs.Mesh.{Mesh}
use Rattle.mesh_off_grid.specs.OffGrid.{all_on_grid}
use Rattle.run.specs.Run.{State, run, none}
use Rattle.run.specs.Input.{run_input}
use Rattle.run.proofs.Standing.{input_stood, field_by_stood, crossings_by_stood, grazed_by_stood}
use Rattle.job_checks.specs.Job.{Job, Lent}
use Rattle.job_checks.specs.Refusals.{refusal_by, wrong_lengths, lengths_of, wrong_edition, mesh_checks}
use Rattle.job_checks.proofs.Accepted.{Fits, accepted}
use Rattle.refusals.specs.Numbers.{given}
use Rattle.job_outcome.specs.Outcome.{Answer, ended, run_of, unless_refused, outcome}
use Rattle.job_outcome.proofs.OneReply.{one_reply}
use Rattle.upright_meaning.specs.Upright.{other_table, SameButRows, IsAccepted, BothAccepted, OnlyRowsDiffer, OnlyRowsDifferAfterCalls, LentAlike, RefusedAlike}

-- ---- both accepted

-- an accepted job comes to its run
comes_to_run : (j : Job) (b : Lent) → IsAccepted j b → outcome j b ≡ ended j b (run_of j b)
unfolding outcome unless_refused
comes_to_run j b h = ap (λ (n : ℕ). unless_refused n b (ended j b (run_of j b))) h

same_zeros : {n k : ℕ} → n ≡ k → replicate {A = ℕ} n 0 ≡ replicate k 0
same_zeros e = ap (λ (n : ℕ). replicate {A = ℕ} n 0) e

-- the buffers of two accepted jobs are alike in length, but for the rows
module _ (j : Job) (u e : ℕ) (b c : Lent) (both : BothAccepted j u e b c) where
  fits : Fits j.grid (lengths_of b)
  fits = (accepted j.grid j.edition j.mesh (lengths_of b) both.first).long

  fits_too : Fits (stood u j.grid) (lengths_of c)
  fits_too = (accepted (stood u j.grid) e j.mesh (lengths_of c) both.second).long

  -- one run
  one_run : run_of j b ≡ run_of (other_table u e j) c
  one_run =
      ap (λ (room : ℕ). run (run_input j.grid j.mesh j.sign room j.limit)) both.same_room
      ∙ ap run (sym (input_stood u j.grid j.mesh j.sign (length c.distances) j.limit))

  cells_long : length b.cells ≡ length c.cells
  cells_long = fits.cells ∙ both.same_room ∙ sym fits_too.cells

  triangles_long : length b.triangles ≡ length c.triangles
  triangles_long = fits.triangles ∙ both.same_room ∙ sym fits_too.triangles

  -- ended alike
  same_end : (o : Turn State) → SameButRows (ended j b o) (ended (other_table u e j) c o)
  unfolding ended
  same_end (goes s) =
      record {
        answer = ap (λ (n : ℕ). given (record { pops = s.pops; peak = s.peak; grazed = n })) (sym (grazed_by_stood u j.grid j.mesh j.sign));
        field = sym (field_by_stood u j.grid j.mesh j.sign s.field);
        names = refl;
        crossings = sym (crossings_by_stood u j.grid j.mesh j.sign);
        distances = same_zeros both.same_room;
        cells = same_zeros cells_long;
        triangles = same_zeros triangles_long;
      }
  same_end (refuses n) =
      record {
        answer = refl;
        field = ap (λ (n : ℕ). replicate n f_max) (fits.field ∙ sym fits_too.field);
        names = ap (λ (n : ℕ). replicate n none) (fits.names ∙ sym fits_too.names);
        crossings = same_zeros (fits.crossings ∙ sym fits_too.crossings);
        distances = same_zeros both.same_room;
        cells = same_zeros cells_long;
        triangles = same_zeros triangles_long;
      }

  pub same_but_rows : SameButRows (outcome j b) (outcome (other_table u e j) c)
  same_but_rows =
      rw (comes_to_run j b both.first, comes_to_run (other_table u e j) c both.second, ← one_run) (same_end (run_of j b))

pub only_rows_differ : (j : Job) (u e : ℕ) (b c : Lent) → OnlyRowsDiffer j u e b c
only_rows_differ j u e b c both = same_but_rows j u e b c both

pub only_rows_differ_after_calls : (j : Job) (u e : ℕ) (b c : Lent) (answer : Answer) (left : Lent) (answer' : Answer) (left' : Lent)
    → OnlyRowsDifferAfterCalls j u e b c answer left answer' left'
only_rows_differ_after_calls j u e b c answer left answer' left' both g h =
    let s = same_but_rows j u e b c both in
    (one_reply answer answer' (g.answers ∙ s.answer ∙ sym h.answers), rw (g.answers, g.leaves, h.answers, h.leaves) s)

-- ---- refused alike

-- a grid stands on any axis if it stands on one
bounds_alike : (u : ℕ) (g : Grid) → g.upright ≤ 2 → u ≤ 2 → in_bounds g ≡ in_bounds (stood u g)
unfolding in_bounds
bounds_alike u g h l = rw (le-leb g.upright 2 h, le-leb u 2 l)

places_alike : (u : ℕ) (g : Grid) (m : Mesh) → all_on_grid g m ≡ all_on_grid (stood u g) m
unfolding all_on_grid box_min box_max
places_alike u g m = refl

-- the rows are as long as each asks for
lengths_alike : (j : Job) (u e : ℕ) (b c : Lent) → LentAlike j u e b c → wrong_lengths j.grid (lengths_of b) ≡ wrong_lengths (stood u j.grid) (lengths_of c)
lengths_alike j u e b c l =
    let rows : eqb (length b.rows) (layers j.grid) ≡ eqb (length c.rows) (layers (stood u j.grid)) = eq-eqb _ _ l.rows.0 ∙ sym (eq-eqb _ _ l.rows.1) in
    λ i.
    not (eqb (l.field i) (total j.grid))
    || not (eqb (l.names i) (total j.grid))
    || not (eqb (l.crossings i) (3 * total j.grid))
    || not (rows i)
    || not (eqb (l.cells i) (l.distances i))
    || not (eqb (l.triangles i) (l.distances i))

edition_right : (e : ℕ) → (e ≡ 1) ⊎ (e ≡ 2) → wrong_edition e ≡ false
edition_right e (inl is) = ap wrong_edition is
edition_right e (inr is) = ap wrong_edition is

pub refused_alike : (j : Job) (u e : ℕ) (b c : Lent) → RefusedAlike j u e b c
unfolding refusal_by
refused_alike j u e b c l =
    let bounds = bounds_alike u j.grid l.stands.0 l.stands.1 in
    λ i.
    first_that_applies (
    record { applies = not (bounds i); number = 1 } ∷
    record { applies = (edition_right j.edition l.editions.0 ∙ sym (edition_right e l.editions.1)) i; number = 14 } ∷
    (mesh_checks j.mesh ++ record { applies = not (places_alike u j.grid j.mesh i); number = 10 } ∷ record { applies = lengths_alike j u e b c l i; number = 5 } ∷ []))
