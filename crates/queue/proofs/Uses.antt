-- What a caller of the queue cites, so that `Held` need not be opened: an empty queue, how many wait, that the first goes first, and
-- what is left behind. Laws on `insert` itself (`length_insert`, `in_insert`, `still_in`, `from_insert`) are in Meaning.antt.
-- Assumes nothing.
use Prim.Native.Nat.{ℕ, zero, suc, ◌-◌, ◌≤◌, ◌<◌}
use native.Mathlib.Omega.{arith}
use mathlib.Core.Path.{◌≡◌, refl, ap, subst, ◌∙◌}
use mathlib.Core.Bool.{Bool, true}
use mathlib.Core.List.{List, [], Memᴰ}
use lib.ListN.{length, get_or, take, replicate}
use Rattle.lists.proofs.Table.{alike}
use Rattle.queue.specs.declared.Entry.{Entry}
use Rattle.queue.specs.InOrder.{Total, in_order}
use Rattle.queue.specs.Queue.{blank, entries, Even, Held, waiting, Cleared, Taken}
use Rattle.queue.proofs.Flat.{at_entries, held_fit}
use Rattle.queue.proofs.Meaning.{length_in_order, count, count_in_order, Sorted, sorted_in_order, after_member}

module _ (le : Entry → Entry → Bool) where
  -- ---- an empty queue
  blanks : (n k : ℕ) → get_or (entries (replicate n 0) (replicate n 0) (replicate n 0)) k blank ≡ blank
  unfolding entries
  blanks zero k = refl
  blanks (suc n) zero = refl
  blanks (suc n) (suc k) = blanks n k

  -- zeros hold it
  pub empty : (n : ℕ) → Held le (replicate n 0) (replicate n 0) (replicate n 0) 0
  empty n =
      record {
        even = record { cells = refl; triangles = refl };
        keeps = record { fit = omega arith; heap = λ j j0 jn. absurd (omega arith); rest = λ k h. blanks n k };
      }

  -- so does what clear leaves of lists of one length
  pub cleared : (ds cs ts ds' cs' ts' : List ℕ) → Even ds cs ts → Cleared ds cs ts ds' cs' ts' → Held le ds' cs' ts' 0
  cleared ds cs ts ds' cs' ts' e c = simp (c.distances, c.cells, c.triangles, e.cells, e.triangles) (empty (length ds))

  -- nothing waits in it
  pub none_waits : (ds cs ts : List ℕ) → waiting le ds cs ts 0 ≡ []
  unfolding in_order
  none_waits ds cs ts = refl

module _ {le : Entry → Entry → Bool} where
  -- it holds zeros
  pub left_zero : (ds cs ts : List ℕ) → Held le ds cs ts 0 → (ds ≡ replicate (length ds) 0) × (cs ≡ replicate (length cs) 0) × (ts ≡ replicate (length ts) 0)
  left_zero ds cs ts h = (
    alike 0 0 (length ds) ds refl (λ k w. ap (λ (x : Entry). x.distance) (at k w)),
    alike 0 0 (length cs) cs refl (λ k w. ap (λ (x : Entry). x.cell) (at k (omega (arith, h.even.cells)))),
    alike 0 0 (length ts) ts refl (λ k w. ap (λ (x : Entry). x.triangle) (at k (omega (arith, h.even.triangles)))),
  )
    where
      at : (k : ℕ) → k < length ds → ◌≡◌ {A = Entry} (record { distance = get_or ds k 0; cell = get_or cs k 0; triangle = get_or ts k 0 }) blank
      at k w =
          at_entries ds cs ts k w (omega (arith, h.even.cells)) (omega (arith, h.even.triangles)) ∙ h.keeps.rest k (omega arith)

  -- ---- how many wait
  -- in whatever order they are listed
  pub how_many_by : (by : Entry → Entry → Bool) (ds cs ts : List ℕ) (n : ℕ) → Held le ds cs ts n → length (waiting by ds cs ts n) ≡ n
  how_many_by by ds cs ts n h = length_in_order by n (entries ds cs ts) h.keeps.fit

  pub how_many : (ds cs ts : List ℕ) (n : ℕ) → Held le ds cs ts n → length (waiting le ds cs ts n) ≡ n
  how_many ds cs ts n h = how_many_by le ds cs ts n h

  -- no more than there is room
  pub within_room : (ds cs ts : List ℕ) (n : ℕ) → Held le ds cs ts n → n ≤ length ds
  within_room ds cs ts n h = held_fit ds cs ts h

-- ---- what waits: the first n entries, each as often, in order
pub each_as_often : (le : Entry → Entry → Bool) (p : Entry → Bool) (ds cs ts : List ℕ) (n : ℕ) → count p (waiting le ds cs ts n) ≡ count p (take n (entries ds cs ts))
each_as_often le p ds cs ts n = count_in_order le p n (entries ds cs ts)

module _ {le : Entry → Entry → Bool} (𝓞 : Total le) where
  pub in_order_lem : (ds cs ts : List ℕ) (n : ℕ) → Sorted le (waiting le ds cs ts n)
  in_order_lem ds cs ts n = sorted_in_order 𝓞 n (entries ds cs ts)

  -- what is taken goes no later than any that waits on
  pub taken_first : (r : Entry) (ds cs ts ds' cs' ts' : List ℕ) (n : ℕ) → Taken le r ds cs ts ds' cs' ts' n
      → (x : Entry) → Memᴰ x (waiting le ds' cs' ts' (n - 1)) → le r x ≡ true
  taken_first r ds cs ts ds' cs' ts' n t x m =
      let s = subst (λ (l : List Entry). Sorted le l) t.waits (in_order_lem ds cs ts n) in
      after_member 𝓞 r x (waiting le ds' cs' ts' (n - 1)) s.0 m
