-- A pop: what waits is apart, so that the entry is taken that goes first by all three keys; it is known, what is left is a good state, and
-- taking it and spreading it is one turn of spreading. Assumes nothing.
use Prim.Native.Nat.{ℕ, ◌+◌, ◌-◌}
use mathlib.Core.Path.{◌≡◌, sym, ap, ◌∙◌, subst}
use mathlib.Core.List.{List}
use lib.ListN.{length}
use lib.Ieee.{Float}
use Rattle.lists.specs.Turns.{Turn, goes, and_then, told}
use Rattle.lists.proofs.Turns.{then_nothing}
use Rattle.terms.specs.declared.SignMethod.{SignMethod}
use Rattle.grid.specs.declared.Grid.{Grid}
use Rattle.grid.specs.Index.{total}
use Rattle.mesh.specs.Mesh.{Mesh, triangles_in}
use Rattle.queue.specs.declared.Entry.{Entry}
use Rattle.queue.specs.Keys.{by_keys}
use Rattle.queue.specs.Queue.{Held, Taken, waiting}
use Rattle.queue.proofs.Keys.{held_by_lem}
use Rattle.run.specs.Run.{taken, spread_around, take_first}
use Rattle.run.specs.Input.{run_input}
use Rattle.run.specs.Good.{Good, Waits}
use Rattle.run.specs.Keys.{keyed}
use Rattle.run.proofs.Waiting.{good_taken}
use Rattle.run_state.specs.declared.Progress.{Progress}
use Rattle.run_state.specs.Told.{order_in, state_of, Fit, Known, Holds, GoodIn, Told}
use Rattle.run_state.proofs.Keys.{agrees, around_told}

pub then_then : {S : Type 0} (o : Turn S) (f : S → Turn S) → and_then (and_then o goes) f ≡ and_then o f
then_then o f = ap (λ t. and_then t f) (then_nothing o)

-- the counts with one taken
abbrev pub one_taken : Progress → Progress
one_taken at = record { number = 0; waiting = at.waiting - 1; pops = at.pops + 1; peak = at.peak }

module _ {g : Grid} {m : Mesh} {sign : SignMethod} {field : List Float} {names ds cs ts ds₁ cs₁ ts₁ : List ℕ} {e : Entry} (at : Progress) (h : GoodIn g m sign field names ds cs ts at)
    (t : Taken (order_in m) e ds cs ts ds₁ cs₁ ts₁ at.waiting) where
  -- what is taken was queued for a cell and a triangle of the job, and what is left is good
  parted : (any : ℕ) → Good (run_input g m sign (length ds) any) (state_of (order_in m) field names ds₁ cs₁ ts₁ (one_taken at)) × Waits (run_input g m sign (length ds) any) field e
  parted any = good_taken (run_input g m sign (length ds) any) e _ (state_of (order_in m) field names ds cs ts at) (h.good any) t.waits

  pub first_known : Known (total g) (length (triangles_in m)) e
  unfolding run_input
  first_known = let w = (parted 0).1 in record { cell_below = w.cell_on_lem; triangle_below = w.triangle_is }

  pub rest_held : Held by_keys ds₁ cs₁ ts₁ (at.waiting - 1)
  rest_held = held_by_lem (agrees m) ds₁ cs₁ ts₁ (at.waiting - 1) (parted 0).0.apart t.held

  -- it spreads, as it does by keys
  pub popped : {field' : List Float} {names' ds' cs' ts' : List ℕ} {r : Progress} → Fit g m → length ds₁ ≡ length ds → Holds g field' names' ds' cs' ts' r.waiting
      → ((any : ℕ) → spread_around (keyed (run_input g m sign (length ds₁) any)) e (state_of by_keys field names ds₁ cs₁ ts₁ (one_taken at))
      ≡ told r.number (state_of by_keys field' names' ds' cs' ts' r))
      → Told g m sign (λ G s. take_first G goes s.waiting s) field names ds cs ts at field' names' ds' cs' ts' r
  unfolding take_first
  popped {field'} {names'} {ds'} {cs'} {ts'} {r} fit l holds is =
      let s = state_of (order_in m) field names ds cs ts at in
      let w = waiting (order_in m) ds₁ cs₁ ts₁ (at.waiting - 1) in
      record {
        holds = holds;
        is = λ any.
            ap (λ (v : List Entry). take_first (run_input g m sign (length ds) any) goes v s) t.waits
            ∙ then_nothing (spread_around (run_input g m sign (length ds) any) e (taken w s))
            ∙ ap (λ (k : ℕ). spread_around (run_input g m sign k any) e (taken w s)) (sym l)
            ∙ around_told fit sign (length ds₁) any field names ds₁ cs₁ ts₁ (one_taken at)
            (subst (λ (k : ℕ). Good (run_input g m sign k any) (state_of (order_in m) field names ds₁ cs₁ ts₁ (one_taken at))) (sym l) (parted any).0)
            field' names' ds' cs' ts' r e first_known (is any);
      }
