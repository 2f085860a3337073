-- An offer: a NaN is refused by 6, a triangle that is no nearer leaves all as it is, and a nearer one is taken and queued. The square
-- tells a NaN, and a square that shows that no root is needed tells that the triangle is no nearer. Assumes nothing.
use Prim.Native.Nat.{ℕ}
use mathlib.Core.Path.{◌≡◌, sym, ap, ◌∙◌}
use mathlib.Core.Bool.{true, false}
use mathlib.Core.List.{List}
use lib.ListN.{get_or, set}
use lib.Dec.{T}
use lib.Ieee.{Float, nan, is_nan, ne, binary32, fits}
use Rattle.float_order.specs.Nearer.{nearer, key_of}
use Rattle.float_shortcut.specs.Shown.{signed_root}
use Rattle.float_shortcut.proofs.Signed.{signed_nan}
use Rattle.lists.specs.Turns.{told}
use Rattle.lists.proofs.Turns.{told_goes}
use Rattle.queue.specs.Keys.{by_keys}
use Rattle.queue.specs.Queue.{Held}
use Rattle.run.specs.Run.{Place, none, takes, queue, offer_at}
use Rattle.run.proofs.Ways.{offer_nan, offer_passed, offer_taken, is_nan_lem, is_number}
use Rattle.run_state.specs.declared.Progress.{Progress}
use Rattle.run_state.specs.Told.{refused_by, state_of, ToldByKeys, Queued}
use Rattle.run_around.specs.Around.{place_of, offer_place}
use Rattle.run_around.proofs.Places.{place_off, place_at}

module _ {field : List Float} {names ds cs ts : List ℕ} (p : Progress) (k c : ℕ) (q : Float) (fq : T (fits binary32 q)) where
  pub offered_nan : Held by_keys ds cs ts p.waiting → ne q q ≡ true
      → ToldByKeys (λ g. offer_at (queue g) k c (signed_root q)) field names ds cs ts p field names ds cs ts (refused_by 6 p)
  unfolding told
  offered_nan h t = record { held = h; is = λ g o r. offer_nan (queue g) k c (signed_root q) (state_of by_keys field names ds cs ts p) (signed_nan q fq ∙ is_nan_lem q t) }

  pub offered_passed : Held by_keys ds cs ts p.waiting → p.number ≡ 0 → is_nan q ≡ false
      → nearer (signed_root q) (get_or field c nan) ≡ false → ToldByKeys (λ g. offer_at (queue g) k c (signed_root q)) field names ds cs ts p field names ds cs ts p
  offered_passed h z t l =
      let s = state_of by_keys field names ds cs ts p in
      record { held = h; is = λ g o r. offer_passed (queue g) k c (signed_root q) s (signed_nan q fq ∙ t) l ∙ sym (told_goes p.number s z) }

  pub offered_taken : {d : Float} {ds' cs' ts' : List ℕ} {r : Progress} {key : ℕ} → ne q q ≡ false → d ≡ signed_root q → nearer d (get_or field c nan) ≡ true → key ≡ key_of d
      → Queued (record { distance = key; cell = c; triangle = k }) ds cs ts p ds' cs' ts' r
      → ToldByKeys (λ g. offer_at (queue g) k c (signed_root q)) field names ds cs ts p (set field c d) (set names c k) ds' cs' ts' r
  offered_taken {d} t e w f j =
      let s = state_of by_keys field names ds cs ts p in
      let queued = j (set field c d) (set names c k) in
      record {
        held = queued.held;
        is = λ g o r.
            ap (λ (v : Float). offer_at (queue g) k c v s) (sym e)
            ∙ offer_taken (queue g) k c d s (ap is_nan e ∙ signed_nan q fq ∙ is_number q t) w
            ∙ ap (λ (n : ℕ). queue g (record { distance = n; cell = c; triangle = k }) (takes c k d s)) (sym f)
            ∙ queued.is g o r;
      }

-- ---- the place of a step

module _ {field : List Float} {names ds cs ts : List ℕ} {p : Progress} (k to : ℕ) (d : Float) where
  pub step_off : Held by_keys ds cs ts p.waiting → p.number ≡ 0 → to ≡ none
      → ToldByKeys (λ g. offer_place (queue g) k (place_of to) d) field names ds cs ts p field names ds cs ts p
  unfolding offer_place
  step_off h z n =
      let s = state_of by_keys field names ds cs ts p in
      record { held = h; is = λ g o r. ap (λ (l : Place). offer_place (queue g) k l d s) (place_off to n) ∙ sym (told_goes p.number s z) }

  pub step_at_lem : {field' : List Float} {names' ds' cs' ts' : List ℕ} {r : Progress} → (to ≡ none → ⊥)
      → ToldByKeys (λ g. offer_at (queue g) k to d) field names ds cs ts p field' names' ds' cs' ts' r
      → ToldByKeys (λ g. offer_place (queue g) k (place_of to) d) field names ds cs ts p field' names' ds' cs' ts' r
  unfolding offer_place
  step_at_lem n t =
      record { held = t.held; is = λ g o r. ap (λ (l : Place). offer_place (queue g) k l d (state_of by_keys field names ds cs ts p)) (place_at to n) ∙ t.is g o r }
