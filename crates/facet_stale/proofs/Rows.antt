-- A row of cells, read from its first place on: what was read is a row, and a cell that does not go on with it shows that the whole is none.
-- Assumes nothing.
use Prim.Native.Nat.{ℕ, ◌+◌, ◌-◌, ◌≤◌, ◌<◌}
use native.Mathlib.Decide.{dec_lt}
use native.Mathlib.Omega.{arith}
use mathlib.Core.Path.{◌≡◌, sym, ap, ◌∙◌, subst}
use mathlib.Core.Bool.{true}
use mathlib.Core.List.{List}
use lib.ListN.{length, get_or}
use borrow.Author.Tests.{eq-eqb, eqb-true}
use Rattle.picks.specs.Picks.{Rising}
use Rattle.picks.proofs.Rising.{rising_none, rising_more}
use Rattle.facet_index.specs.Index.{names_it}

module _ (facet : ℕ) (names list : List ℕ) (from to : ℕ) where
  abbrev cells : ℕ → ℕ
  cells j = get_or list (from + j) 0

  -- the first n are a row
  abbrev pub Row : ℕ → Type 0
  Row n = Rising (names_it names facet) (length names) n cells

  -- the places before p were read; those cells are below `least`, and no row goes on with a cell that is below it
  pub record Read (least p : ℕ) : Type 0 where
    pub begun : from ≤ p
    pub short : p ≤ to
    pub row : Row (p - from)
    pub above : (j : ℕ) → j < p - from → cells j < least
    pub least_so_far : Row (to - from) → p < to → least ≤ get_or list p 0

  pub nothing_read : from ≤ to → Read 0 from
  nothing_read h =
      let e : 0 ≡ from - from = omega arith in
      record {
        begun = omega arith;
        short = h;
        row = subst Row e (rising_none (names_it names facet) (length names) cells);
        above = λ j w. absurd (omega arith);
        least_so_far = λ r w. omega arith;
      }

  -- what stands at p is the next cell
  at : (p : ℕ) → from ≤ p → cells (p - from) ≡ get_or list p 0
  at p h = let e : from + (p - from) ≡ p = omega arith in ap (λ (q : ℕ). get_or list q 0) e

  module _ (least p : ℕ) (x : Read least p) (w : p < to) where
    abbrev cell : ℕ
    cell = get_or list p 0

    pub read_more : least ≤ cell → cell < length names → get_or names cell 0 ≡ facet → Read (cell + 1) (p + 1)
    read_more l b n =
        let here = at p x.begun in
        let e : p - from + 1 ≡ p + 1 - from = omega (arith, x.begun) in
        record {
          begun = omega (arith, x.begun);
          short = omega arith;
          row = subst Row e (rising_more x.row (omega (arith, here)) (its_own here) (λ j h. omega (arith, here, x.above j h)));
          above = λ j h. below j (omega (arith, x.begun)) (x.above j);
          least_so_far = λ r h.
              let next = at (p + 1) (omega (arith, x.begun)) in
              omega (arith, here, next, r.order (p - from) (p + 1 - from) (omega (arith, x.begun)) (omega (arith, x.begun)));
        }
      where
        its_own : cells (p - from) ≡ cell → names_it names facet (cells (p - from)) ≡ true
        its_own here = eq-eqb (get_or names (cells (p - from)) 0) facet (ap (λ (c : ℕ). get_or names c 0) here ∙ n)

        below : (j : ℕ) → j < p - from + 1 → (j < p - from → cells j < least) → cells j < cell + 1
        below j h f = go (dec_lt j (p - from))
          where
            go : Dec (j < p - from) → cells j < cell + 1
            go (yes v) = omega (arith, f v)
            go (no v) = let e : j ≡ p - from = omega arith in omega (arith, ap cells e, at p x.begun)

    -- a cell that was passed, that is none, or that names another triangle
    pub not_passed : cell < least → Row (to - from) → ⊥
    not_passed l r = omega (arith, x.least_so_far r w)

    pub not_cell : length names ≤ cell → Row (to - from) → ⊥
    not_cell l r = omega (arith, at p x.begun, r.below (p - from) (omega (arith, x.begun)))

    pub not_its_own : (get_or names cell 0 ≡ facet → ⊥) → Row (to - from) → ⊥
    not_its_own n r =
        n (sym (ap (λ (c : ℕ). get_or names c 0) (at p x.begun)) ∙ eqb-true (get_or names (cells (p - from)) 0) facet (r.passes (p - from) (omega (arith, x.begun))))

  pub all_read : (least p : ℕ) → Read least p → to ≤ p → Row (to - from)
  all_read least p x h = let e : p ≡ to = omega (arith, x.short) in subst (λ (q : ℕ). Row (q - from)) e x.row
