-- The part of the list under a facet: where the slices are an index and have the facet, there is one, and it has the cells that the index
-- has there. Assumes nothing.
use Prim.Native.Nat.{ℕ, ◌+◌, ◌-◌, ◌≤◌, ◌<◌}
use native.Mathlib.Omega.{arith}
use mathlib.Core.Path.{◌≡◌, sym, ◌∙◌, subst}
use mathlib.Core.List.{List, []}
use lib.ListN.{length, get_or, take, drop, length-drop}
use lib.Seq.{get_or-take, get_or-drop, length-take-le}
use borrow.Author.Tests.{lt-ltb, le-ltb, le-leb, lt-leb}
use Rattle.picks.specs.Picks.{InTurn}
use Rattle.picks.proofs.Picks.{turns_as}
use Rattle.facet_index.specs.Index.{Index, start_of, names_it, under, IsIndex}
use Rattle.facet_index.specs.Asked.{part_under, Answers}
use Rattle.facet_index.proofs.Places.{before_le}
use Rattle.facet_index.proofs.One.{index_starts}

module _ (k : ℕ) (i : Index) where
  abbrev part : List ℕ
  part = take (under i k) (drop (start_of i k) i.list)

  -- no such facet, starts that fall, an end beyond the list
  pub no_facet : length i.starts ≤ k + 1 → part_under k i ≡ []
  unfolding part_under
  no_facet h = rw (le-ltb (k + 1) (length i.starts) h)

  pub starts_fall : k + 1 < length i.starts → start_of i (k + 1) < start_of i k → part_under k i ≡ []
  unfolding part_under
  starts_fall h w = rw (lt-ltb (k + 1) (length i.starts) h, lt-leb (start_of i k) (start_of i (k + 1)) w)

  pub beyond : k + 1 < length i.starts → start_of i k ≤ start_of i (k + 1) → length i.list < start_of i (k + 1) → part_under k i ≡ []
  unfolding part_under
  beyond h w v = rw (lt-ltb (k + 1) (length i.starts) h, le-leb (start_of i k) (start_of i (k + 1)) w, lt-leb (start_of i (k + 1)) (length i.list) v)

  pub the_part : k + 1 < length i.starts → start_of i k ≤ start_of i (k + 1) → start_of i (k + 1) ≤ length i.list → part_under k i ≡ part
  unfolding part_under
  the_part h w v = rw (lt-ltb (k + 1) (length i.starts) h, le-leb (start_of i k) (start_of i (k + 1)) w, le-leb (start_of i (k + 1)) (length i.list) v)

  part_serves : (t : ℕ) (names : List ℕ) → IsIndex t names i → k < t → InTurn (names_it names k) (length names) (length (part_under k i)) (λ j. get_or (part_under k i) j 0)
  part_serves t names x h =
      subst (λ (l : List ℕ). InTurn (names_it names k) (length names) (length l) (λ j. get_or l j 0)) (sym is_part)
      (subst (λ (n : ℕ). InTurn (names_it names k) (length names) n (λ j. get_or part j 0)) (sym long)
      (turns_as (x.serves k h) (λ j. get_or part j 0)
      (λ j w. get_or-take (under i k) (drop (start_of i k) i.list) j 0 w ∙ get_or-drop (start_of i k) i.list j 0)))
    where
      within : start_of i (k + 1) ≤ length i.list
      within = omega (arith, index_starts t names i x (k + 1) (omega arith), before_le names (k + 1), x.list_long)

      is_part : part_under k i ≡ part
      is_part = the_part (omega (arith, x.starts_long)) (x.rising k h) within

      long : length part ≡ under i k
      long = length-take-le (under i k) (drop (start_of i k) i.list) (omega (arith, length-drop (start_of i k) i.list, within))

  pub answers : (cells : List ℕ) → cells ≡ part_under k i → Answers k i cells
  answers cells e =
      record {
        part = e;
        serves = λ t names x h.
            subst (λ (l : List ℕ). InTurn (names_it names k) (length names) (length l) (λ j. get_or l j 0)) (sym e) (part_serves t names x h);
      }
