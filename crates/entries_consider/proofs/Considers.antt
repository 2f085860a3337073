-- What an offer over the field and the names comes to: nothing off the grid, 6 for a NaN, nothing where the triangle is no nearer, and else the
-- cell takes it. Assumes nothing.
use Prim.Native.Nat.{ℕ}
use mathlib.Core.Path.{◌≡◌, sym, ap, ◌∙◌}
use mathlib.Core.Bool.{true, false}
use mathlib.Core.List.{List}
use Rattle.std.proofs.Common.{Ok, Err, Some, None}
use lib.ListN.{get_or, set}
use lib.Dec.{T}
use lib.Ieee.{Float, nan, is_nan, ne, binary32, fits}
use Rattle.float_order.specs.Nearer.{nearer, key_of}
use Rattle.float_shortcut.specs.Shown.{signed_root}
use Rattle.float_shortcut.proofs.Signed.{signed_nan}
use Rattle.lists.specs.Turns.{Turn}
use Rattle.queue.specs.declared.Entry.{Entry}
use Rattle.refusals.specs.declared.Refusal.TheVariants as Is
use Rattle.run.specs.Run.{State, Place, none, offer_at}
use Rattle.run.proofs.Ways.{offer_nan, offer_passed, offer_taken, is_nan_lem, is_number}
use Rattle.run_around.specs.Around.{place_of, offer_place}
use Rattle.run_around.proofs.Places.{place_off, place_at}
use Rattle.entries_batch.specs.Batch.{over}
use Rattle.entries_consider.specs.Considered.{verdict, Considered}

module _ (k to : ℕ) (q : Float) (field : List Float) (names : List ℕ) where
  pub was_off : to ≡ none → Considered k to q field names field names (Ok None)
  unfolding offer_place verdict
  was_off e = record { is = λ also s. ap (λ (p : Place). offer_place also k p (signed_root q) (over field names s)) (place_off to e) }

  module _ (on : to ≡ none → ⊥) (fq : T (fits binary32 q)) where
    offered : (also : Entry → State → Turn State) (s : State) → offer_place also k (place_of to) (signed_root q) (over field names s) ≡ offer_at also k to (signed_root q) (over field names s)
    unfolding offer_place
    offered also s = ap (λ (p : Place). offer_place also k p (signed_root q) (over field names s)) (place_at to on)

    pub was_nan : ne q q ≡ true → Considered k to q field names field names (Err Is.NotANumber)
    unfolding verdict
    was_nan t = record { is = λ also s. offered also s ∙ offer_nan also k to (signed_root q) (over field names s) (signed_nan q fq ∙ is_nan_lem q t) }

    pub was_passed : is_nan q ≡ false → nearer (signed_root q) (get_or field to nan) ≡ false → Considered k to q field names field names (Ok None)
    unfolding verdict
    was_passed t l = record { is = λ also s. offered also s ∙ offer_passed also k to (signed_root q) (over field names s) (signed_nan q fq ∙ t) l }

    pub was_taken : {d : Float} {key : ℕ} → ne q q ≡ false → d ≡ signed_root q → nearer d (get_or field to nan) ≡ true → key ≡ key_of d
        → Considered k to q field names (set field to d) (set names to k) (Ok (Some key))
    unfolding verdict
    was_taken {d} t e l f = record {
      is = λ also s.
          offered also s
          ∙ ap (λ (v : Float). offer_at also k to v (over field names s)) (sym e)
          ∙ offer_taken also k to d (over field names s) (ap is_nan e ∙ signed_nan q fq ∙ is_number q t) l
          ∙ ap (λ (n : ℕ). also (record { distance = n; cell = to; triangle = k }) (over (set field to d) (set names to k) s)) (sym f);
    }
