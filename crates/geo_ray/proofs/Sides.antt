-- A weight lies on one side of 0 at most: below, above, or at it. So weights that are all on one side are none of them 0, and weights on
-- both sides are not all on one; and whether a ray grazes is told by its weights alone. Assumes nothing.
use Rattle.std.specs.Prelude.{if◌then◌else◌}
use Prim.Native.Nat.{ℕ, ◌+◌, ◌*◌, ◌<◌}
use native.Mathlib.Omega.{arith}
use mathlib.Core.Path.{◌≡◌, refl, sym, ap, ◌∙◌}
use mathlib.Core.Bool.{Bool, true, false, ◌&&◌, ◌||◌, and-false, true≢false}
use lib.Dec.{ltb, eqb}
use lib.IntN.{pos}
use lib.Ieee.{Float, nan, inf, fin, up, down, lt, eq}
use borrow.Author.Tests.{ltb-true, le-ltb, ne_eqb}
use Rattle.float.specs.Arith.{◌≺◌, ◌≐◌, f0}
use Rattle.float.proofs.Bools.{and_first, and_second}
use Rattle.float.proofs.Units.{zero_is}
use Rattle.geo_ray.specs.declared.RayHit.TheVariants.{Miss, Grazed, Hit}
use Rattle.geo_ray.specs.Ray.{all_below, all_above, hits, some_zero, on_both_sides, grazes, reply, is_grazed}

-- ---- one weight

below : (w : Float) → lt w (fin false 0 (pos 0)) ≡ true → (lt (fin false 0 (pos 0)) w ≡ false) × (eq w (fin false 0 (pos 0)) ≡ false)
unfolding lt eq
below nan h = absurd (true≢false (sym h))
below (inf true) h = (refl, refl)
below (inf false) h = absurd (true≢false (sym h))
below (fin true m e) h = (refl, apart (m * up e * 1) (down e) (ltb-true 0 (m * up e * 1 + 0 * 1 * down e) h))
  where
    apart : (a d : ℕ) → 0 < a + 0 * 1 * d → (eqb a (0 * 1 * d) && (false || eqb a 0)) ≡ false
    apart a d k = ap (λ (t : Bool). t && (false || eqb a 0)) (ne_eqb a (0 * 1 * d) (λ q. omega arith))
below (fin false m e) h = absurd (less (m * up e * 1) (down e) (ltb-true (m * up e * 1) (0 * 1 * down e) h))
  where
    less : (a d : ℕ) → a < 0 * 1 * d → ⊥
    less a d k = omega arith

above : (w : Float) → lt (fin false 0 (pos 0)) w ≡ true → (lt w (fin false 0 (pos 0)) ≡ false) × (eq w (fin false 0 (pos 0)) ≡ false)
unfolding lt eq
above nan h = absurd (true≢false (sym h))
above (inf true) h = absurd (true≢false (sym h))
above (inf false) h = (refl, refl)
above (fin true m e) h = absurd (true≢false (sym h))
above (fin false m e) h = apart (m * up e * 1) (down e) (ltb-true (0 * 1 * down e) (m * up e * 1) h)
  where
    apart : (a d : ℕ) → 0 * 1 * d < a → (ltb a (0 * 1 * d) ≡ false) × ((eqb a (0 * 1 * d) && (true || eqb a 0)) ≡ false)
    apart a d k = (le-ltb a (0 * 1 * d) (omega arith), ap (λ (t : Bool). t && (true || eqb a 0)) (ne_eqb a (0 * 1 * d) (λ q. omega arith)))

-- below 0: neither above it nor 0
is_below : (w : Float) → (w ≺ f0) ≡ true → ((f0 ≺ w) ≡ false) × ((w ≐ f0) ≡ false)
is_below w h = let t = below w (ap (lt w) (sym zero_is) ∙ h) in (ap (λ (z : Float). lt z w) zero_is ∙ t.0, ap (eq w) zero_is ∙ t.1)

-- above 0: neither below it nor 0
is_above : (w : Float) → (f0 ≺ w) ≡ true → ((w ≺ f0) ≡ false) × ((w ≐ f0) ≡ false)
is_above w h = let t = above w (ap (λ (z : Float). lt z w) (sym zero_is) ∙ h) in (ap (lt w) zero_is ∙ t.0, ap (eq w) zero_is ∙ t.1)

-- ---- three weights

-- where a weight on one side is neither on the other nor 0, and all are on the one, none is on the other, and none is 0
all_apart : {on off zero : Float → Bool} (w0 w1 w2 : Float)
    → ((w : Float) → on w ≡ true → (off w ≡ false) × (zero w ≡ false))
    → (on w0 && on w1 && on w2) ≡ true
    → ((off w0 || off w1 || off w2) ≡ false) × ((zero w0 || zero w1 || zero w2) ≡ false)
all_apart {on} {off} {zero} w0 w1 w2 apart h =
    let two = and_first (on w0 && on w1) (on w2) h in
    let p0 = apart w0 (and_first (on w0) (on w1) two) in
    let p1 = apart w1 (and_second (on w0) (on w1) two) in
    let p2 = apart w2 (and_second (on w0 && on w1) (on w2) h) in
    (rw (p0.0, p1.0, p2.0), rw (p0.1, p1.1, p2.1))

module _ (w0 w1 w2 : Float) where
  -- all on one side of 0: none is 0, and none on the other
  one_side : (all_below w0 w1 w2 || all_above w0 w1 w2) ≡ true → (some_zero w0 w1 w2 ≡ false) × (on_both_sides w0 w1 w2 ≡ false)
  one_side h = go (all_below w0 w1 w2) refl h
    where
      go : (b : Bool) → all_below w0 w1 w2 ≡ b → (b || all_above w0 w1 w2) ≡ true → (some_zero w0 w1 w2 ≡ false) × (on_both_sides w0 w1 w2 ≡ false)
      go true e k =
          let p = all_apart {on = λ w. w ≺ f0} {off = λ w. f0 ≺ w} {zero = λ w. w ≐ f0} w0 w1 w2 is_below e in
          (p.1, rw p.0)
      go false e k =
          let p = all_apart {on = λ w. f0 ≺ w} {off = λ w. w ≺ f0} {zero = λ w. w ≐ f0} w0 w1 w2 is_above k in
          (p.1, rw (p.0, and-false))

  -- "not a hit": of a ray that may hit none is 0, so it does not graze
  pub no_graze : (all_below w0 w1 w2 || all_above w0 w1 w2) ≡ true → grazes w0 w1 w2 ≡ false
  no_graze h = rw (one_side h).0

  -- on both sides of 0: it neither hits nor grazes
  pub must_miss : (t : Float) → on_both_sides w0 w1 w2 ≡ true → reply w0 w1 w2 t ≡ Miss
  must_miss t h = rw (h, and-false (some_zero w0 w1 w2), apart (all_below w0 w1 w2 || all_above w0 w1 w2) refl)
    where
      apart : (b : Bool) → (all_below w0 w1 w2 || all_above w0 w1 w2) ≡ b → b ≡ false
      apart true e = absurd (true≢false (sym h ∙ (one_side e).1))
      apart false e = refl

  -- "wherever t lies": whether a ray grazes depends on its weights alone
  pub grazed_by_weights : (t : Float) → is_grazed (reply w0 w1 w2 t) ≡ grazes w0 w1 w2
  grazed_by_weights t = go (hits w0 w1 w2 t) (grazes w0 w1 w2) refl refl
    where
      go : (b c : Bool) → hits w0 w1 w2 t ≡ b → grazes w0 w1 w2 ≡ c → is_grazed (if b then Hit t else (if c then Grazed else Miss)) ≡ c
      go true true e k = absurd (true≢false (sym k ∙ no_graze (and_first (all_below w0 w1 w2 || all_above w0 w1 w2) (f0 ≺ t) e)))
      go true false e k = refl
      go false true e k = refl
      go false false e k = refl
