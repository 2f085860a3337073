-- What is told by keys is what the run of the job does. Its states are good, so what waits is apart: the list of what waits is the same by
-- keys and by all three, and so is every turn (run/proofs/Keys.antt). Assumes nothing.
use Prim.Native.Nat.{ℕ}
use native.Mathlib.Omega.{arith}
use native.Mathlib.Decide.{ℕ_discrete}
use mathlib.Core.Path.{◌≡◌, ap, ◌∙◌}
use mathlib.Core.List.{List, []}
use lib.ListN.{length}
use lib.Ieee.{Float}
use Rattle.lists.specs.Turns.{Turn, goes, told}
use Rattle.lists.proofs.Turns.{told_goes, told_any}
use Rattle.terms.specs.declared.SignMethod.{SignMethod}
use Rattle.grid.specs.declared.Grid.{Grid}
use Rattle.grid.specs.Index.{total}
use Rattle.grid.proofs.Facts.{bounds_of, on_axis}
use Rattle.mesh.specs.Mesh.{Mesh, triangles_in}
use Rattle.queue.specs.declared.Entry.{Entry}
use Rattle.queue.specs.Keys.{Apart, by_keys}
use Rattle.queue.specs.Queue.{waiting}
use Rattle.queue.proofs.Keys.{Agree, agree_back, by_keys_lem, same_waiting}
use Rattle.queue.proofs.Uses.{none_waits}
use Rattle.run.specs.Run.{RunInput, State, queueing, spread_around, run}
use Rattle.run.specs.Input.{run_input}
use Rattle.run.specs.Good.{Good}
use Rattle.run.specs.Keys.{keyed}
use Rattle.run.proofs.Values.{Fair}
use Rattle.run.proofs.Inputs.{fair_input}
use Rattle.run.proofs.Queueing.{queueing_to}
use Rattle.run.proofs.Spreading.{around_leads}
use Rattle.run.proofs.Keys.{same_around, same_queueing, never_decides}
use Rattle.run_state.specs.declared.Progress.{Progress}
use Rattle.run_state.specs.Told.{order_in, state_of, Fit, Known}

-- the order of a mesh goes by distance and cell first
pub agrees : (m : Mesh) → Agree (order_in m) by_keys
agrees m = by_keys_lem _

-- a state is the same by either, where what waits is apart by one of them
same_state : (m : Mesh) (field : List Float) (names ds cs ts : List ℕ) (p : Progress) → Apart (waiting (order_in m) ds cs ts p.waiting)
    → state_of (order_in m) field names ds cs ts p ≡ state_of by_keys field names ds cs ts p
same_state m field names ds cs ts p a =
    ap (λ (w : List Entry). record { field = field; names = names; waiting = w; pops = p.pops; peak = p.peak }) (same_waiting (agrees m) ds cs ts p.waiting a)

-- so what is told of a state by keys is told of the state of the run
told_of : (m : Mesh) (field : List Float) (names ds cs ts : List ℕ) (r : Progress) → (r.number ≡ 0 → Apart (waiting by_keys ds cs ts r.waiting))
    → told r.number (state_of by_keys field names ds cs ts r) ≡ told r.number (state_of (order_in m) field names ds cs ts r)
told_of m field names ds cs ts r a = go (ℕ_discrete r.number 0)
  where
    go : Dec (r.number ≡ 0) → told r.number (state_of by_keys field names ds cs ts r) ≡ told r.number (state_of (order_in m) field names ds cs ts r)
    go (yes z) =
        ap (λ (w : List Entry). told r.number (record { field = field; names = names; waiting = w; pops = r.pops; peak = r.peak }))
        (same_waiting (agree_back (agrees m)) ds cs ts r.waiting (a z))
    go (no z) = told_any r.number _ _ z

module _ {g : Grid} {m : Mesh} (fit : Fit g m) (sign : SignMethod) (room any : ℕ) where
  abbrev G : RunInput
  G = run_input g m sign room any

  pub fair : Fair G
  fair = fair_input g m sign room any (λ a. (on_axis (bounds_of g fit.ready.bounded) a).some) (omega (arith, fit.few))

  goes_by : Agree G.goes_first by_keys
  unfolding run_input
  goes_by = by_keys_lem _

  -- the third key never decides in the run of a job: without it the whole run comes to the same
  pub third_never_decides : run G ≡ run (keyed G)
  third_never_decides = never_decides G fair goes_by

  module _ (field : List Float) (names ds cs ts : List ℕ) (at : Progress) (good : Good G (state_of (order_in m) field names ds cs ts at))
      (field' : List Float) (names' ds' cs' ts' : List ℕ) (r : Progress) where
    -- a turn that comes to the same by keys and keeps states good
    turn_told : (turn : RunInput → State → Turn State)
        → turn G (state_of (order_in m) field names ds cs ts at) ≡ turn (keyed G) (state_of (order_in m) field names ds cs ts at)
        → ((t : State) → turn G (state_of (order_in m) field names ds cs ts at) ≡ goes t → Good G t)
        → turn (keyed G) (state_of by_keys field names ds cs ts at) ≡ told r.number (state_of by_keys field' names' ds' cs' ts' r)
        → turn G (state_of (order_in m) field names ds cs ts at) ≡ told r.number (state_of (order_in m) field' names' ds' cs' ts' r)
    turn_told turn same keeps is = comes ∙ told_of m field' names' ds' cs' ts' r (λ z. (keeps _ (comes ∙ told_goes r.number _ z)).apart)
      where
        comes : turn G (state_of (order_in m) field names ds cs ts at) ≡ told r.number (state_of by_keys field' names' ds' cs' ts' r)
        comes = same ∙ ap (turn (keyed G)) (same_state m field names ds cs ts at good.apart) ∙ is

    -- an entry that was taken spreads
    pub around_told : (e : Entry) → Known (total g) (length (triangles_in m)) e
        → spread_around (keyed G) e (state_of by_keys field names ds cs ts at) ≡ told r.number (state_of by_keys field' names' ds' cs' ts' r)
        → spread_around G e (state_of (order_in m) field names ds cs ts at) ≡ told r.number (state_of (order_in m) field' names' ds' cs' ts' r)
    unfolding run_input
    around_told e k is =
        turn_told (λ i. spread_around i e) (same_around G fair goes_by e k.cell_below k.triangle_below _ good)
        (λ t h. (around_leads G fair e k.cell_below k.triangle_below _ t good h).good) is

    -- the cells are queued, where nothing waits
    pub queueing_told : at.waiting ≡ 0
        → queueing (keyed G) (state_of by_keys field names ds cs ts at) ≡ told r.number (state_of by_keys field' names' ds' cs' ts' r)
        → queueing G (state_of (order_in m) field names ds cs ts at) ≡ told r.number (state_of (order_in m) field' names' ds' cs' ts' r)
    queueing_told z is =
        turn_told queueing (same_queueing G fair goes_by _ good none) (λ t h. (queueing_to G fair _ t good none h).good) is
      where
        none : waiting (order_in m) ds cs ts at.waiting ≡ []
        none = ap (waiting (order_in m) ds cs ts) z ∙ none_waits (order_in m) ds cs ts
