-- The words of the document and the definition of an index say the same. From the definition: every place before the end is under one triangle, and
-- what stands there names it; so one cell at two places would be under one triangle, where what stands ascends. From the words: what stands under a
-- triangle is a cell, so it has a named triangle, under which it stands too; and as it stands once, that is the same one. Assumes nothing.
use Prim.Native.Nat.{ℕ, ◌+◌, ◌-◌, ◌≤◌, ◌<◌}
use native.Mathlib.Decide.{dec_lt}
use native.Mathlib.Omega.{arith}
use mathlib.Core.Path.{◌≡◌, refl, sym, ap, ◌∙◌}
use mathlib.Core.List.{List}
use lib.ListN.{length, get_or}
use borrow.Author.Tests.{eqb-true, eq-eqb}
use Rattle.picks.specs.Picks.{InTurn}
use Rattle.picks.proofs.Rising.{never_falls}
use Rattle.facet_index.specs.Index.{Index, start_of, stands_at, names_it, under, cell_under, IsIndex}
use Rattle.facet_index.specs.Places.{before}
use Rattle.facet_index.proofs.Places.{before_le, facet_at, place_under}
use Rattle.facet_index.proofs.One.{index_starts}
use Rattle.facet_meaning.specs.Words.{Named, Under, Stands, IndexMeans}

-- ---- where the starts rise, a place is under one triangle

module _ (t : ℕ) (i : Index) (rising : (k : ℕ) → k < t → start_of i k ≤ start_of i (k + 1)) where
  later : (k l : ℕ) → k ≤ l → l ≤ t → start_of i k ≤ start_of i l
  later = never_falls (start_of i) t rising

  one_under : (k l p : ℕ) → k < t → l < t → Under i k p → Under i l p → k ≡ l
  one_under k l p h w u v = go (dec_lt k l) (dec_lt l k)
    where
      go : Dec (k < l) → Dec (l < k) → k ≡ l
      go (yes a) b = absurd (omega (arith, later (k + 1) l (omega arith) (omega arith), u.to, v.from))
      go (no a) (yes b) = absurd (omega (arith, later (l + 1) k (omega arith) (omega arith), v.to, u.from))
      go (no a) (no b) = omega arith

-- ---- from the definition to the words

-- place p is under a triangle
record Covered (t : ℕ) (i : Index) (p : ℕ) : Type 0 where
  facet : ℕ
  known : facet < t
  under : Under i facet p

module _ (t : ℕ) (names : List ℕ) (i : Index) (x : IsIndex t names i) where
  starts : (k : ℕ) → k ≤ t → start_of i k ≡ before names k
  starts k h = index_starts t names i x k h

  covered : (p : ℕ) → p < start_of i t → Covered t i p
  covered p h =
      let u = place_under names t p (omega (arith, starts t (omega arith))) in
      let k = facet_at names t p in
      record {
        facet = k;
        known = u.facet;
        under = record {
          from = omega (arith, u.from, starts k (omega (arith, u.facet)));
          to = omega (arith, u.to, starts (k + 1) (omega (arith, u.facet)));
        };
      }

  -- place p of triangle k, as the definition counts it
  module _ (k p : ℕ) (h : k < t) (u : Under i k p) where
    pub nth : p - start_of i k < under i k
    nth = omega (arith, u.from, u.to)

    pub is_nth : cell_under i k (p - start_of i k) ≡ stands_at i p
    is_nth = let e : start_of i k + (p - start_of i k) ≡ p = omega (arith, u.from) in ap (stands_at i) e

    pub named_there : Named names k (stands_at i p)
    named_there =
        record {
          cell = rw is_nth at ((x.serves k h).below (p - start_of i k) nth);
          name = eqb-true _ k (rw is_nth at ((x.serves k h).passes (p - start_of i k) nth));
        }

  pub stands_under : (k c : ℕ) → k < t → Named names k c → Stands i k c
  stands_under k c h n =
      let r = (x.serves k h).each c n.cell (eq-eqb (get_or names c 0) k n.name) in
      record {
        place = start_of i k + r.0;
        under = record { from = omega arith; to = omega (arith, r.1) };
        holds = r.2;
      }

  pub under_named : (k c : ℕ) → k < t → Stands i k c → Named names k c
  under_named k c h s = rw s.holds at (named_there k s.place h s.under)

  ascends : (k p q : ℕ) → k < t → Under i k p → Under i k q → p < q → stands_at i p < stands_at i q
  ascends k p q h u v w =
      omega (arith, is_nth k p h u, is_nth k q h v, (x.serves k h).order (p - start_of i k) (q - start_of i k) (omega (arith, u.from)) (nth k q h v))

  module _ (few : length names ≤ 1048576) where
    -- where a cell stands is before the end, so under a triangle, which it names
    record Holds (c p : ℕ) : Type 0 where
      covers : Covered t i p
      names_it_lem : get_or names c 0 ≡ covers.facet

    holds : (c p : ℕ) → c < length names → p < length i.list → stands_at i p ≡ c → Holds c p
    holds c p l w e = go (dec_lt p (start_of i t))
      where
        go : Dec (p < start_of i t) → Holds c p
        go (no b) = absurd (omega (arith, x.tail p (omega arith) w))
        go (yes b) =
            let k = covered p b in
            record { covers = k; names_it_lem = rw e at (named_there k.facet p k.known k.under).name }

    pub index_means : IndexMeans t names i
    index_means =
        record {
          starts_long = x.starts_long;
          first = x.first;
          rising = x.rising;
          end = omega (arith, starts t (omega arith), before_le names t, x.list_long);
          list_long = x.list_long;
          cells = λ p h. let k = covered p h in (named_there k.facet p k.known k.under).cell;
          stands = stands_under;
          once = once;
          ascending = ascends;
          nowhere = λ c p l n w e. let r = holds c p l w e in omega (arith, r.names_it_lem, r.covers.known);
          tail = x.tail;
        }
      where
        once : (c p q : ℕ) → c < length names → p < length i.list → q < length i.list → stands_at i p ≡ c → stands_at i q ≡ c → p ≡ q
        once c p q l w v e f = go (holds c p l w e) (holds c q l v f)
          where
            go : Holds c p → Holds c q → p ≡ q
            go a b = by (dec_lt p q) (dec_lt q p)
              where
                k : ℕ
                k = a.covers.facet

                at_q : Under i k q
                at_q = rw (sym b.names_it_lem ∙ a.names_it_lem) at b.covers.under

                by : Dec (p < q) → Dec (q < p) → p ≡ q
                by (yes m) n = absurd (omega (arith, ascends k p q a.covers.known a.covers.under at_q m))
                by (no m) (yes n) = absurd (omega (arith, ascends k q p a.covers.known at_q a.covers.under n))
                by (no m) (no n) = omega arith

-- ---- and back

module _ (t : ℕ) (names : List ℕ) (i : Index) (m : IndexMeans t names i) where
  -- what stands under k is a cell that names k
  only_named : (k p : ℕ) → k < t → Under i k p → Named names k (stands_at i p)
  only_named k p h u = go (dec_lt (get_or names (stands_at i p) 0) t)
    where
      before_end : (k p : ℕ) → k < t → Under i k p → p < start_of i t
      before_end k p h u = omega (arith, u.to, later t i m.rising (k + 1) t (omega arith) (omega arith))

      in_list : (k p : ℕ) → k < t → Under i k p → p < length i.list
      in_list k p h u = omega (arith, before_end k p h u, m.end)

      cell : stands_at i p < length names
      cell = m.cells p (before_end k p h u)

      go : Dec (get_or names (stands_at i p) 0 < t) → Named names k (stands_at i p)
      go (no n) = absurd (m.nowhere (stands_at i p) p cell (omega arith) (in_list k p h u) refl)
      go (yes n) =
          let l = get_or names (stands_at i p) 0 in
          let s = m.stands l (stands_at i p) n (record { cell = cell; name = refl }) in
          let e = m.once (stands_at i p) s.place p cell (in_list l s.place n s.under) (in_list k p h u) s.holds refl in
          record { cell = cell; name = one_under t i m.rising l k p n h (rw e at s.under) u }

  pub means_index : IsIndex t names i
  means_index =
      record {
        starts_long = m.starts_long;
        list_long = m.list_long;
        first = m.first;
        rising = m.rising;
        serves = serves;
        tail = m.tail;
      }
    where
      -- the j-th place under k
      place : (k j : ℕ) → j < under i k → Under i k (start_of i k + j)
      place k j w = record { from = omega arith; to = omega arith }

      serves : (k : ℕ) → k < t → InTurn (names_it names k) (length names) (under i k) (cell_under i k)
      serves k h =
          record {
            below = λ j w. (only_named k (start_of i k + j) h (place k j w)).cell;
            passes = λ j w. eq-eqb _ k (only_named k (start_of i k + j) h (place k j w)).name;
            order = λ j l w v. m.ascending k (start_of i k + j) (start_of i k + l) h (place k j (omega arith)) (place k l v) (omega arith);
            each = λ c l e.
                let s = m.stands k c h (record { cell = l; name = eqb-true (get_or names c 0) k e }) in
                let n : start_of i k + (s.place - start_of i k) ≡ s.place = omega (arith, s.under.from) in
                (s.place - start_of i k, omega (arith, s.under.from, s.under.to), ap (stands_at i) n ∙ s.holds);
          }
