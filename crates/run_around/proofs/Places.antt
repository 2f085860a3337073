-- Where the steps lead: the place that an index stands for, and that the turns of spreading an entry are the offers of its triangle to those
-- places. Assumes nothing.
use Rattle.std.specs.Prelude.{if◌then◌else◌}
use Prim.Native.Nat.{ℕ, ◌<◌}
use native.Mathlib.Omega.{arith}
use mathlib.Core.Path.{◌≡◌, refl, sym, ap, ◌∙◌}
use mathlib.Core.Bool.{Bool}
use mathlib.Core.List.{List}
use lib.ListN.{length, get_or}
use lib.Ieee.{Float, nan}
use borrow.Author.Tests.{eq-eqb, ne_eqb}
use Rattle.float_shortcut.specs.Shown.{signed_root}
use Rattle.lists.proofs.Turns.{turns_same}
use Rattle.terms.specs.declared.SignMethod.{SignMethod}
use Rattle.grid.specs.declared.Grid.{Grid}
use Rattle.grid.specs.Index.{total}
use Rattle.mesh.specs.Mesh.{Mesh}
use Rattle.queue.specs.declared.Entry.{Entry}
use Rattle.run.specs.Run.{RunInput, State, Place, off, at, none, queue, offer, offer_at, spread_to, spread_around}
use Rattle.run.specs.Input.{run_input}
use Rattle.run.specs.Keys.{keyed}
use Rattle.run.specs.Steps.{around_cell}
use Rattle.run_around.specs.Around.{place_of, Around, offer_place, offer_all, PlacesFit}

pub place_off : (n : ℕ) → n ≡ none → place_of n ≡ off
place_off n e = ap (λ (t : Bool). if t then off else at n) (eq-eqb n none e)

pub place_at : (n : ℕ) → (n ≡ none → ⊥) → place_of n ≡ at n
place_at n e = ap (λ (t : Bool). if t then off else at n) (ne_eqb n none e)

module _ {g : Grid} {m : Mesh} {sign : SignMethod} {e : Entry} {to : List ℕ} {squares : List Float} (around : Around g m sign e to squares) where
  pub places_fit : {field : List Float} {names : List ℕ} → length field ≡ total g → length names ≡ total g → PlacesFit to squares field names
  places_fit fl nl = record {
    to_long = around.to_long;
    squares_long = around.squares_long;
    each = λ j l. record {
      below = λ z. omega (arith, (around.near j l).below (get_or to j 0) (place_at (get_or to j 0) z), fl);
      even = nl ∙ sym fl;
    };
  }

  -- a turn of spreading is an offer to where it leads
  one_step : (room any : ℕ) (j : ℕ) → j < 27 → (s : State) → let G = keyed (run_input g m sign room any) in
      spread_to G e (around_cell g e.cell j) s ≡ offer_place (queue G) e.triangle (place_of (get_or to j 0)) (signed_root (get_or squares j nan)) s
  unfolding spread_to offer_place offer run_input
  one_step room any j l s = ap (λ (p : Place). spread_to G e p s) (sym (around.leads j l)) ∙ go (place_of (get_or to j 0)) refl
    where
      G : RunInput
      G = keyed (run_input g m sign room any)

      go : (p : Place) → place_of (get_or to j 0) ≡ p → spread_to G e p s ≡ offer_place (queue G) e.triangle p (signed_root (get_or squares j nan)) s
      go off w = refl
      go (at c) w = ap (λ (d : Float). offer_at (queue G) e.triangle c d s) (sym ((around.near j l).root c w))

  pub all_steps : (room any : ℕ) (s : State) → let G = keyed (run_input g m sign room any) in spread_around G e s ≡ offer_all (queue G) e.triangle to squares s
  unfolding spread_around run_input
  all_steps room any s =
      let G = keyed (run_input g m sign room any) in
      turns_same (λ j. spread_to G e (around_cell g e.cell j)) (λ j. offer_place (queue G) e.triangle (place_of (get_or to j 0)) (signed_root (get_or squares j nan))) 27 s
      (λ j t l. one_step room any j l t)
