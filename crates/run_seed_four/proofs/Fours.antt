-- Cells one behind the other along z: their centres differ in z alone, their indices follow each other, and so offers by their signed
-- squares, one after the other, are those along the line. Assumes nothing.
use Prim.Native.Nat.{ℕ, zero, suc, ◌+◌, ◌-◌, ◌≤◌, ◌<◌}
use native.Mathlib.Omega.{arith}
use mathlib.Core.Path.{◌≡◌, sym, ap, ◌∙◌}
use mathlib.Core.List.{List, [], ◌∷◌}
use lib.ListN.{get_or}
use lib.Ieee.{Float, nan}
use Rattle.float_shortcut.specs.Shown.{signed_root}
use Rattle.lists.specs.Turns.{Turn, turns, between}
use Rattle.lists.proofs.Turns.{turns_same}
use Rattle.point.specs.Point.{vec}
use Rattle.point.specs.declared.Point.{Point}
use Rattle.point.specs.declared.Axis.TheVariants.{Z}
use Rattle.terms.specs.declared.SignMethod.{SignMethod}
use Rattle.grid.specs.declared.Grid.{Grid}
use Rattle.grid.specs.declared.Cell.{Cell}
use Rattle.grid.specs.Axes.{cell_numbered, first_on, size_on}
use Rattle.grid.specs.Index.{Inside, index, index_of}
use Rattle.grid_axis.specs.OnAxis.{centre_on}
use Rattle.grid.specs.Place.{centre_of}
use Rattle.geo_closest.specs.declared.Facet.{Facet}
use Rattle.geo_squares.specs.Squares.{Values}
use Rattle.geo_measure.specs.Measured.{squared_by}
use Rattle.run.specs.Run.{State, offer_at, nothing_else}
use Rattle.run_seed_cells.specs.Parts.{offer_to, along_line}
use Rattle.run_seed_four.specs.Four.{SquaresFrom}
use Rattle.run_seed_cells.proofs.Offers.{placed}

-- the cell i behind another along z
abbrev pub behind : Cell → ℕ → Cell
behind at i = cell_numbered at.x at.y (at.z + i)

-- ---- the signed squares of four

module _ (g : Grid) (at : Cell) (p : Point) (here : p ≡ centre_of g at) where
  centre_behind : (i : ℕ) (z : Float) → z ≡ centre_on (first_on Z g) (size_on Z g) (at.z + i) → vec p.x p.y z ≡ centre_of g (behind at i)
  unfolding centre_of
  centre_behind i z h = rw (here, h)

  first : p.z ≡ centre_on (first_on Z g) (size_on Z g) (at.z + 0)
  unfolding centre_of
  first = let e : at.z ≡ at.z + 0 = omega arith in ap (λ (q : Point). q.z) here ∙ ap (centre_on (first_on Z g) (size_on Z g)) e

  pub four : (sign : SignMethod) (f : Facet) (z₁ z₂ z₃ : Float) (squares : List Float)
      → z₁ ≡ centre_on (first_on Z g) (size_on Z g) (at.z + 1)
      → z₂ ≡ centre_on (first_on Z g) (size_on Z g) (at.z + 2)
      → z₃ ≡ centre_on (first_on Z g) (size_on Z g) (at.z + 3)
      → Values (squared_by sign f) (p.x ∷ p.x ∷ p.x ∷ p.x ∷ []) (p.y ∷ p.y ∷ p.y ∷ p.y ∷ []) (p.z ∷ z₁ ∷ z₂ ∷ z₃ ∷ []) squares
      → SquaresFrom g sign f at squares
  four sign f z₁ z₂ z₃ squares h₁ h₂ h₃ all = record { each = go }
    where
      go : (i : ℕ) → i < 4 → get_or squares i nan ≡ squared_by sign f (centre_of g (behind at i))
      go zero l = all.each 0 (omega arith) ∙ ap (squared_by sign f) (centre_behind 0 p.z first)
      go (suc zero) l = all.each 1 (omega arith) ∙ ap (squared_by sign f) (centre_behind 1 z₁ h₁)
      go (suc (suc zero)) l = all.each 2 (omega arith) ∙ ap (squared_by sign f) (centre_behind 2 z₂ h₂)
      go (suc (suc (suc zero))) l = all.each 3 (omega arith) ∙ ap (squared_by sign f) (centre_behind 3 z₃ h₃)
      go (suc (suc (suc (suc i)))) l = absurd (omega arith)

-- ---- the offers one after the other

-- offer i: to the cell whose index is i more than c
abbrev pub in_row : ℕ → ℕ → List Float → ℕ → State → Turn State
in_row k c squares i s = offer_at nothing_else k (c + i) (signed_root (get_or squares i nan)) s

pub index_behind : (g : Grid) (at : Cell) (c i : ℕ) → c ≡ index_of g at → c + i ≡ index_of g (behind at i)
unfolding index
index_behind g at c i h = omega (arith, h)

module _ (g : Grid) (sign : SignMethod) (f : Facet) (at : Cell) (last : ℕ) (inside : Inside g (cell_numbered at.x at.y last)) (squares : List Float) (all : SquaresFrom g sign f at squares) where
  pub inside_behind : (i : ℕ) → at.z + i ≤ last → Inside g (behind at i)
  inside_behind i h = record { x_below = inside.x_below; y_below = inside.y_below; z_below = omega (arith, inside.z_below) }

  pub row_is_line : (k c n : ℕ) (s : State) → c ≡ index_of g at → n ≡ last - at.z → at.z ≤ last → last < at.z + 4
      → along_line g sign f k at.x at.y at.z last s ≡ turns (in_row k c squares) (n + 1) s
  unfolding along_line between
  row_is_line k c n s hc hn low few =
      let e : last + 1 - at.z ≡ n + 1 = omega arith in
      rw e (turns_same (λ i. offer_to g sign f k (index_of g (behind at i))) (in_row k c squares) (n + 1) s one)
    where
      one : (i : ℕ) (t : State) → i < n + 1 → offer_to g sign f k (index_of g (behind at i)) t ≡ in_row k c squares i t
      one i t h = sym (placed g sign f k (behind at i) (get_or squares i nan) (c + i) t (inside_behind i (omega arith)) (all.each i (omega arith)) (index_behind g at c i hc))
