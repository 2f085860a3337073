-- An entry that is queued: the room is full and 7 is told, or the queue's `push` puts it in. Assumes nothing.
use Rattle.std.specs.Prelude.{if◌then◌else◌}
use Prim.Native.Nat.{ℕ, ◌+◌, ◌≤◌, ◌<◌, max}
use mathlib.Core.Path.{◌≡◌, sym, ap, ◌∙◌}
use mathlib.Core.Bool.{Bool, true, false}
use mathlib.Core.List.{List}
use lib.Dec.{ltb}
use lib.ListN.{length, get_or}
use lib.Ieee.{Float, nan}
use borrow.Author.Tests.{lt-ltb, le-ltb}
use Rattle.float.specs.Arith.{◌≺◌, f_max}
use Rattle.float_order.specs.Nearer.{key_of}
use Rattle.lists.specs.Turns.{goes, refuses, told}
use Rattle.lists.proofs.Turns.{told_goes}
use Rattle.queue.specs.declared.Entry.{Entry}
use Rattle.queue.specs.InOrder.{insert}
use Rattle.queue.specs.Keys.{by_keys}
use Rattle.queue.specs.Queue.{Held, Pushed, waiting}
use Rattle.queue.proofs.Uses.{how_many}
use Rattle.run.specs.Run.{RunInput, State, held, named, entry, queue, queued, queue_cell}
use Rattle.run_state.specs.declared.Progress.{Progress}
use Rattle.run_state.specs.Told.{refused_by, state_of, ToldByKeys, Queued}

-- ---- the room

-- the test of the definition is that of the code
room_test : (g : RunInput) (ds cs ts : List ℕ) (n : ℕ) → Held by_keys ds cs ts n → g.room ≡ length ds → ltb (length (waiting by_keys ds cs ts n)) g.room ≡ ltb n (length ds)
room_test g ds cs ts n h r = ap (λ (k : ℕ). ltb k g.room) (how_many ds cs ts n h) ∙ ap (λ (k : ℕ). ltb n k) r

pub full : {ds cs ts : List ℕ} {at : Progress} (e : Entry) → Held by_keys ds cs ts at.waiting → length ds ≤ at.waiting → Queued e ds cs ts at ds cs ts (refused_by 7 at)
unfolding queue told
full {ds} {cs} {ts} {at} e h l field names =
    record {
      held = h;
      is = λ g o r.
          ap (λ (t : Bool). if t then goes (queued g e (state_of by_keys field names ds cs ts at)) else refuses 7)
          (room_test g ds cs ts at.waiting h r ∙ le-ltb at.waiting (length ds) l);
    }

pub put_in : {ds cs ts ds' cs' ts' : List ℕ} {at : Progress} {peak : ℕ} (e : Entry) → Held by_keys ds cs ts at.waiting → at.waiting < length ds
    → Pushed by_keys e ds cs ts ds' cs' ts' at.waiting → peak ≡ max at.peak (at.waiting + 1)
    → Queued e ds cs ts at ds' cs' ts' (record { number = 0; waiting = at.waiting + 1; pops = at.pops; peak = peak })
unfolding queue told
put_in {ds} {cs} {ts} {ds'} {cs'} {ts'} {at} {peak} e h l p m field names =
    record {
      held = p.held;
      is = λ g o r.
          ap (λ (t : Bool). if t then goes (queued g e (state_of by_keys field names ds cs ts at)) else refuses 7)
          (room_test g ds cs ts at.waiting h r ∙ lt-ltb at.waiting (length ds) l)
          ∙ λ i. goes (record {
            field = field;
            names = names;
            waiting = (ap (λ le. insert le e (waiting by_keys ds cs ts at.waiting)) o ∙ sym p.waits) i;
            pops = at.pops;
            peak = (ap (λ (k : ℕ). max at.peak (k + 1)) (how_many ds cs ts at.waiting h) ∙ sym m) i;
          });
    }

-- ---- a cell

module _ (c : ℕ) (g : RunInput) (s : State) where
  -- it is not below f32::MAX, or it is
  cell_above : (held s c ≺ f_max) ≡ false → queue_cell g c s ≡ goes s
  unfolding queue_cell
  cell_above t = rw t

  cell_below : (held s c ≺ f_max) ≡ true → queue_cell g c s ≡ queue g (entry (held s c) c (named s c)) s
  unfolding queue_cell
  cell_below t = rw t

module _ {field : List Float} {names ds cs ts : List ℕ} {at : Progress} (c : ℕ) where
  pub cell_passed : Held by_keys ds cs ts at.waiting → at.number ≡ 0 → (get_or field c nan ≺ f_max) ≡ false
      → ToldByKeys (λ g. queue_cell g c) field names ds cs ts at field names ds cs ts at
  cell_passed h z t =
      let s = state_of by_keys field names ds cs ts at in
      record { held = h; is = λ g o r. cell_above c g s t ∙ sym (told_goes at.number s z) }

  pub cell_queued : {ds' cs' ts' : List ℕ} {r : Progress} {key : ℕ} → (get_or field c nan ≺ f_max) ≡ true → key ≡ key_of (get_or field c nan)
      → Queued (record { distance = key; cell = c; triangle = get_or names c 0 }) ds cs ts at ds' cs' ts' r
      → ToldByKeys (λ g. queue_cell g c) field names ds cs ts at field names ds' cs' ts' r
  cell_queued t e q =
      let s = state_of by_keys field names ds cs ts at in
      record {
        held = (q field names).held;
        is = λ g o r.
            cell_below c g s t
            ∙ ap (λ (k : ℕ). queue g (record { distance = k; cell = c; triangle = get_or names c 0 }) s) (sym e)
            ∙ (q field names).is g o r;
      }
