-- The heap's laws of crate `queue` at a row: what take leaves, and that by keys it leaves what it would by the order with the triples. Assumes nothing.
use Prim.Native.Nat.{ℕ, zero, suc, ◌-◌, ◌<◌}
use native.Mathlib.Omega.{arith}
use mathlib.Core.Path.{◌≡◌, refl, sym, ap, ◌∙◌}
use mathlib.Core.Bool.{Bool}
use mathlib.Core.List.{List, ◌∷◌}
use lib.ListN.{length, get_or, set}
use lib.Seq.{set-set}
use Rattle.mesh_topology.specs.declared.Triangle.{Triangle}
use Rattle.queue.specs.declared.Entry.{Entry}
use Rattle.queue.specs.InOrder.{Total, in_order}
use Rattle.queue.specs.Heap.{Keeps, Gap, Out}
use Rattle.queue.specs.Order.{goes_first}
use Rattle.queue.specs.Keys.{by_keys, Apart}
use Rattle.queue.specs.Queue.{blank}
use Rattle.queue.proofs.Moves.{lowered, taken_some, taken_none}
use Rattle.queue.proofs.Keys.{agree_back, by_keys_lem, taken_by}
use Rattle.entries.specs.Row.{row_distances, row_cells, row_triangles, waiting_in, HeldRow, TakenRow}
use Rattle.entries.proofs.Projections.{row_entries, held_of, of_held}
use Rattle.entries_sift.specs.Sift.{Sunk}
use Rattle.entries.specs.Kept.{kept_of}

module _ {le : Entry → Entry → Bool} where
  out_row : (r : Entry) (row row' : List Entry) (n : ℕ) → Out le blank r row row' n → TakenRow le r row row' n
  out_row r row row' n p = record {
    held = held_of row' (n - 1) p.keeps;
    waits = ap (in_order le n) (row_entries row) ∙ p.waits ∙ ap (λ (l : List Entry). r ∷ in_order le (n - 1) l) (sym (row_entries row'));
  }

module _ {le : Entry → Entry → Bool} (𝓞 : Total le) (row row' : List Entry) (n : ℕ) (h : HeldRow le row n) (n0 : 0 < n) where
  -- the last is read, and its room cleared: the gap is at the first
  pub take_starts : Gap le blank (n - 1) (set row (n - 1) blank) 0
  take_starts = lowered 𝓞 blank row (set row (n - 1) blank) n n0 (of_held row n h).heap refl

  pub take_ends : length row' ≡ length row → Sunk le (kept_of (get_or row (n - 1) blank) (n - 1)) (set row (n - 1) blank) row' (n - 1) → TakenRow le (get_or row 0 blank) row row' n
  take_ends long s = out_row (get_or row 0 blank) row row' n (go (n - 1) refl)
    where
      kept : Keeps le blank row n
      kept = of_held row n h

      go : (m : ℕ) → n - 1 ≡ m → Out le blank (get_or row 0 blank) row row' n
      go zero z =
          taken_none 𝓞 blank (get_or row 0 blank) row row' n kept n0 (omega (arith, z)) long refl
          (s.only z ∙ ap (λ (j : ℕ). set (set row (n - 1) blank) 0 (kept_of (get_or row (n - 1) blank) j)) z ∙ ap (λ (j : ℕ). set (set row j blank) 0 blank) z ∙ set-set row 0 blank blank ∙ ap (λ (j : ℕ). set row j blank) (sym z))
      go (suc m) z =
          let m0 : 0 < n - 1 = omega (arith, z) in
          taken_some 𝓞 blank (get_or row 0 blank) (kept_of (get_or row (n - 1) blank) (n - 1)) row (set row (n - 1) blank) row' n kept n0 m0 long refl
          (ap (kept_of (get_or row (n - 1) blank)) z) refl (s.sifted m0)

-- what is taken by keys is taken by the order with the triples, whatever these are, where those that wait are apart
pub by_triples : (corners : ℕ → Triangle) (r : Entry) (row row' : List Entry) (n : ℕ) → Apart (waiting_in (goes_first corners) row n) → TakenRow by_keys r row row' n → TakenRow (goes_first corners) r row row' n
by_triples corners r row row' n =
    taken_by (agree_back (by_keys_lem corners)) r (row_distances row) (row_cells row) (row_triangles row) (row_distances row') (row_cells row') (row_triangles row') n
