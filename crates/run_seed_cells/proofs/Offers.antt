-- What an offer in seeding tells: 6 for a NaN, and 0 for the rest, with the triangle taken where it is smaller. Assumes nothing.
use Prim.Native.Nat.{ℕ}
use mathlib.Core.Path.{◌≡◌, sym, ap, ap₂, ◌∙◌}
use mathlib.Core.Bool.{true, false}
use mathlib.Core.List.{List}
use lib.ListN.{get_or, set}
use lib.Dec.{T}
use lib.Ieee.{Float, nan, is_nan, ne, binary32, fits}
use Rattle.float_order.specs.Nearer.{nearer}
use Rattle.float_shortcut.specs.Shown.{signed_root}
use Rattle.float_shortcut.proofs.Signed.{signed_nan}
use Rattle.lists.specs.Turns.{told}
use Rattle.terms.specs.declared.SignMethod.{SignMethod}
use Rattle.grid.specs.declared.Grid.{Grid}
use Rattle.grid.specs.declared.Cell.{Cell}
use Rattle.grid.specs.Index.{Inside, index_of, cell_at}
use Rattle.grid.specs.Place.{centre_of}
use Rattle.grid.proofs.Laws.{cell_of_index}
use Rattle.geo_closest.specs.declared.Facet.{Facet}
use Rattle.geo_measure.specs.Measured.{measured, squared_by}
use Rattle.geo_measure.proofs.Laws.{measured_root}
use Rattle.run.specs.Run.{State, offer_at, nothing_else}
use Rattle.run.proofs.Ways.{offer_nan, offer_passed, offer_taken, is_nan_lem, is_number}
use Rattle.run_seed_cells.specs.Parts.{seed_state, offer_to}

module _ (field : List Float) (names : List ℕ) (c k : ℕ) (q : Float) (fq : T (fits binary32 q)) where
  pub refused : ne q q ≡ true → offer_at nothing_else k c (signed_root q) (seed_state field names) ≡ told 6 (seed_state field names)
  unfolding told
  refused h = offer_nan nothing_else k c (signed_root q) (seed_state field names) (signed_nan q fq ∙ is_nan_lem q h)

  pub passed : is_nan q ≡ false → nearer (signed_root q) (get_or field c nan) ≡ false → offer_at nothing_else k c (signed_root q) (seed_state field names) ≡ told 0 (seed_state field names)
  unfolding told
  passed h l = offer_passed nothing_else k c (signed_root q) (seed_state field names) (signed_nan q fq ∙ h) l

  pub took : ne q q ≡ false → nearer (signed_root q) (get_or field c nan) ≡ true
      → offer_at nothing_else k c (signed_root q) (seed_state field names) ≡ told 0 (seed_state (set field c (signed_root q)) (set names c k))
  unfolding told
  took h l = offer_taken nothing_else k c (signed_root q) (seed_state field names) (signed_nan q fq ∙ is_number q h) l

-- an offer by the signed square from a cell's centre is the offer to the cell of that index
pub placed : (g : Grid) (sign : SignMethod) (f : Facet) (k : ℕ) (at : Cell) (q : Float) (c : ℕ) (s : State) → Inside g at → q ≡ squared_by sign f (centre_of g at) → c ≡ index_of g at
    → offer_at nothing_else k c (signed_root q) s ≡ offer_to g sign f k (index_of g at) s
unfolding offer_to
placed g sign f k at q c s w hq hc =
    let same : signed_root q ≡ measured sign f (centre_of g (cell_at g (index_of g at))) =
    ap signed_root (hq ∙ ap (λ (a : Cell). squared_by sign f (centre_of g a)) (sym (cell_of_index w))) ∙ measured_root sign f (centre_of g (cell_at g (index_of g at))) in
    ap₂ (λ (d : Float) (i : ℕ). offer_at nothing_else k i d s) same hc
