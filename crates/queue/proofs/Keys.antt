-- The triple never decides among entries of which no two agree in distance and cell: there an order that goes by these two first, and
-- then by anything, is the order by keys. So what waits is the same list by both, and what is a heap by one is a heap by the other.
-- Said once over two tests that agree wherever two entries differ. Assumes nothing.
use Prim.Native.Nat.{ℕ, zero, suc, ◌-◌, ◌/◌, ◌≤◌, ◌<◌}
use native.Mathlib.Nat.{le_of_suc-le-suc, not-suc-le-zero}
use native.Mathlib.Omega.{arith}
use mathlib.Core.Path.{◌≡◌, refl, sym, ap, ◌∙◌, subst}
use mathlib.Core.Logic.{◌⊎◌, inl, inr}
use mathlib.Core.Bool.{Bool, true, false, cond}
use mathlib.Core.List.Memᴰ
use mathlib.Core.List.{List, [], ◌∷◌, Memᴰ}
use lib.ListN.{length, get_or}
use Rattle.mesh_topology.specs.declared.Triangle.{Triangle}
use Rattle.queue.specs.declared.Entry.{Entry}
use Rattle.queue.specs.InOrder.{insert, in_order}
use Rattle.queue.specs.Heap.{Heap}
use Rattle.queue.specs.Queue.{blank, entries, waiting, Held, Taken}
use Rattle.queue.specs.Order.{goes_first}
use Rattle.queue.specs.Keys.{Differ, Apart, by_keys}
use Rattle.queue.proofs.Meaning.{in_insert, still_in}
use Rattle.queue.proofs.Order.{hands_on}

-- x differs from all of l
abbrev pub FromAll : Entry → List Entry → Type 0
FromAll x l = (z : Entry) → Memᴰ z l → Differ x z

-- two tests that agree wherever two entries differ
abbrev pub Agree : (Entry → Entry → Bool) → (Entry → Entry → Bool) → Type 0
Agree le le' = (x y : Entry) → Differ x y → le x y ≡ le' x y

pub agree_back : {le le' : Entry → Entry → Bool} → Agree le le' → Agree le' le
agree_back a x y d = sym (a x y d)

-- the order of document 01 and the order by keys, whatever the triples are
pub by_keys_lem : (corners : ℕ → Triangle) → Agree (goes_first corners) by_keys
unfolding goes_first by_keys
by_keys_lem corners x y d = hands_on x.distance y.distance _ _ (λ e. hands_on y.cell x.cell _ _ (λ f. absurd (d e (sym f))))

-- ---- entries that are apart

-- what was put in differs from the others, which are apart
module _ (le : Entry → Entry → Bool) where
  apart_put : (x : Entry) (l : List Entry) → Apart (insert le x l) → FromAll x l × Apart l
  unfolding insert
  apart_put x [] h = h
  apart_put x (y ∷ l) h = go (apart_put x l) (le x y) h
    where
      go : (Apart (insert le x l) → FromAll x l × Apart l) → (b : Bool) → Apart (cond b (x ∷ y ∷ l) (y ∷ insert le x l)) → FromAll x (y ∷ l) × Apart (y ∷ l)
      go later true k = k
      go later false k =
          let r = later k.1 in
          (λ z m. from z (Memᴰ.cases_cons m) r.0, (λ z m. k.0 z (still_in le z x l m), r.1))
        where
          from : (z : Entry) → (z ≡ y) ⊎ Memᴰ z l → FromAll x l → Differ x z
          from z (inl e) f d c = k.0 x (in_insert le x l) (sym (d ∙ ap (λ (w : Entry). w.distance) e)) (sym (c ∙ ap (λ (w : Entry). w.cell) e))
          from z (inr m) f d c = f z m d c

  -- each of the first n is a member of what waits
  member_at : (n : ℕ) (q : List Entry) (i : ℕ) (d : Entry) → i < n → n ≤ length q → Memᴰ (get_or q i d) (in_order le n q)
  unfolding in_order
  member_at zero q i d h k = absurd (not-suc-le-zero h)
  member_at (suc n) [] i d h k = absurd (not-suc-le-zero k)
  member_at (suc n) (x ∷ q) zero d h k = in_insert le x (in_order le n q)
  member_at (suc n) (x ∷ q) (suc i) d h k = still_in le (get_or q i d) x (in_order le n q) (member_at n q i d (le_of_suc-le-suc h) (le_of_suc-le-suc k))

  -- so those at two places differ
  places_differ : (n : ℕ) (q : List Entry) (i j : ℕ) (d : Entry) → i < j → j < n → n ≤ length q → Apart (in_order le n q) → Differ (get_or q i d) (get_or q j d)
  unfolding in_order
  places_differ zero q i j d l h k a = absurd (not-suc-le-zero h)
  places_differ (suc n) [] i j d l h k a = absurd (not-suc-le-zero k)
  places_differ (suc n) (x ∷ q) i zero d l h k a = absurd (not-suc-le-zero l)
  places_differ (suc n) (x ∷ q) zero (suc j) d l h k a =
      (apart_put x (in_order le n q) a).0 (get_or q j d) (member_at n q j d (le_of_suc-le-suc h) (le_of_suc-le-suc k))
  places_differ (suc n) (x ∷ q) (suc i) (suc j) d l h k a =
      places_differ n q i j d (le_of_suc-le-suc l) (le_of_suc-le-suc h) (le_of_suc-le-suc k) (apart_put x (in_order le n q) a).1

-- ---- the same by both

module _ {le le' : Entry → Entry → Bool} (agree : Agree le le') where
  pub same_insert : (x : Entry) (l : List Entry) → FromAll x l → insert le x l ≡ insert le' x l
  unfolding insert
  same_insert x [] h = refl
  same_insert x (y ∷ l) h =
      ap (λ (b : Bool). cond b (x ∷ y ∷ l) (y ∷ insert le x l)) (agree x y (h y (Memᴰ.head refl)))
      ∙ ap (λ (r : List Entry). cond (le' x y) (x ∷ y ∷ l) (y ∷ r)) (same_insert x l (λ z m. h z (Memᴰ.tail m)))

  -- what waits
  same_order : (n : ℕ) (q : List Entry) → Apart (in_order le n q) → in_order le n q ≡ in_order le' n q
  unfolding in_order
  same_order zero q a = refl
  same_order (suc n) [] a = refl
  same_order (suc n) (x ∷ q) a =
      let p = apart_put le x (in_order le n q) a in
      same_insert x (in_order le n q) p.0 ∙ ap (insert le' x) (same_order n q p.1)

  pub same_waiting : (ds cs ts : List ℕ) (n : ℕ) → Apart (waiting le ds cs ts n) → waiting le ds cs ts n ≡ waiting le' ds cs ts n
  same_waiting ds cs ts n a = same_order n (entries ds cs ts) a

  -- a heap
  same_heap : (d : Entry) (n : ℕ) (q : List Entry) → n ≤ length q → Apart (in_order le n q) → Heap le d n q → Heap le' d n q
  same_heap d n q k a h j j0 jn =
      sym (agree (get_or q ((j - 1) / 2) d) (get_or q j d) (places_differ le n q ((j - 1) / 2) j d (omega arith) jn k a)) ∙ h j j0 jn

  -- a queue
  pub held_by_lem : (ds cs ts : List ℕ) (n : ℕ) → Apart (waiting le ds cs ts n) → Held le ds cs ts n → Held le' ds cs ts n
  held_by_lem ds cs ts n a h = record {
    even = h.even;
    keeps = record { fit = h.keeps.fit; heap = same_heap blank n (entries ds cs ts) h.keeps.fit a h.keeps.heap; rest = h.keeps.rest };
  }

-- and what is taken from it, where those that wait are apart by the one or the other
pub taken_by : {le le' : Entry → Entry → Bool} → Agree le le' → (r : Entry) (ds cs ts ds' cs' ts' : List ℕ) (n : ℕ) → Apart (waiting le' ds cs ts n)
    → Taken le r ds cs ts ds' cs' ts' n → Taken le' r ds cs ts ds' cs' ts' n
taken_by {le} {le'} agree r ds cs ts ds' cs' ts' n a t =
    record {
      held = held_by_lem agree ds' cs' ts' (n - 1) rest t.held;
      waits = all ∙ ap (λ (l : List Entry). r ∷ l) (same_waiting agree ds' cs' ts' (n - 1) rest);
    }
  where
    all : waiting le' ds cs ts n ≡ r ∷ waiting le ds' cs' ts' (n - 1)
    all = same_waiting (agree_back agree) ds cs ts n a ∙ t.waits

    rest : Apart (waiting le ds' cs' ts' (n - 1))
    rest = (subst Apart all a).1
