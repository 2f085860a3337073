-- The heap's laws of crate `queue` at a row: how push's loop begins, and what a way out of it gives. Assumes nothing.
use Prim.Native.Nat.{ℕ, ◌+◌, ◌<◌}
use native.Mathlib.Omega.{arith}
use mathlib.Core.Path.{sym, ap, ◌∙◌}
use mathlib.Core.Bool.{Bool}
use mathlib.Core.List.{List}
use lib.ListN.{length, set}
use Rattle.queue.specs.declared.Entry.{Entry}
use Rattle.queue.specs.InOrder.{Total, insert, in_order}
use Rattle.queue.specs.Heap.{Put, Below, Above}
use Rattle.queue.specs.Queue.{blank}
use Rattle.queue.proofs.Sift.{gap_end}
use Rattle.queue.proofs.Moves.{Moved, start, pushed}
use Rattle.entries.specs.Row.{HeldRow, PushedRow}
use Rattle.entries.proofs.Projections.{row_entries, held_of, of_held}

module _ {le : Entry → Entry → Bool} where
  put_row : (e : Entry) (row row' : List Entry) (n : ℕ) → Put le blank e row row' n → PushedRow le e row row' n
  put_row e row row' n p = record {
    held = held_of row' (n + 1) p.keeps;
    waits = ap (in_order le (n + 1)) (row_entries row') ∙ p.waits ∙ ap (λ (l : List Entry). insert le e (in_order le n l)) (sym (row_entries row));
  }

module _ {le : Entry → Entry → Bool} (𝓞 : Total le) where
  -- push begins with the gap behind the n that wait
  pub push_starts : (e : Entry) (row : List Entry) (n : ℕ) → HeldRow le row n → n < length row → Moved le blank (n + 1) e row n row n × Below le blank (n + 1) row n e
  push_starts e row n h r = (start le blank (n + 1) e row n (gap_end 𝓞 blank n row (of_held row n h).heap) (omega arith) (omega arith), λ j j0 jn y. absurd (omega arith))

  -- and ends with e in it
  pub push_ends : (e : Entry) (row q : List Entry) (n i : ℕ) → HeldRow le row n → Moved le blank (n + 1) e row n q i → Below le blank (n + 1) q i e → Above le blank q i e → PushedRow le e row (set q i e) n
  push_ends e row q n i h m b a = put_row e row (set q i e) n (pushed 𝓞 blank n e row q (set q i e) i (of_held row n h) m b a (λ _. set q i e))
