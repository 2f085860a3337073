-- What a search in the row of links finds. A search for a key passes items with other keys only, and an item is entered where a search
-- for its key ends at a 0; so a link that is set there changes no search that found something, and each item that is the first with its
-- key is found by it ever after. How keys are spread over heads and links plays no part. Assumes nothing.
use Prim.Native.Nat.{ℕ, zero, suc, ◌+◌, ◌*◌, ◌^◌, ◌≤◌, ◌<◌}
use native.Mathlib.Decide.{dec_lt, ℕ_discrete}
use native.Mathlib.Nat.{suc_inj, mul-lt-mul_of_pos_right}
use native.Mathlib.Numerals.{add-one}
use native.Mathlib.Omega.{arith}
use mathlib.Core.Path.{◌≡◌, refl, sym, ap, ◌∙◌, subst}
use mathlib.Core.Bool.{Bool, true, false, true≢false}
use mathlib.Core.List.{List}
use lib.ListN.{length, get_or, set, length-set, replicate, length-replicate}
use lib.Seq.{get_or-set_same, get_or-set_other}
use Rattle.picks.specs.Picks.{least}
use Rattle.picks.proofs.Picks.{least_le, least_passes, least_below}
use Rattle.tidy.specs.declared.ThreeWords.{ThreeWords}
use Rattle.tidy.specs.Same.{same_words}
use Rattle.tidy.proofs.Same.{same_eq, eq_same}
use Rattle.tidy_search.specs.Links.{mixed_of, head_link, turned_key, link_of, Leads, here, on, Comes, begins, passes, Ends, FirstOfKey, Named, Entered}

-- ---- heads

pub mixed_below : (h x : ℕ) → mixed_of h x < 2 ^ 32
unfolding mixed_of
mixed_below h x = omega arith

-- a number below 2 ^ 32 times n, over 2 ^ 32, is below n
pub head_below : (n : ℕ) (k : ThreeWords) → 0 < n → head_link n k < n
unfolding head_link
head_below n k h =
    let m = mixed_of (mixed_of (mixed_of 0 k.a) k.b) k.c in
    omega (arith, mul-lt-mul_of_pos_right {m = m} (mixed_below (mixed_of (mixed_of 0 k.a) k.b) k.c) h)

-- ---- the first item with a key

pub record FirstWith (key : ℕ → ThreeWords) (u : ℕ) : Type 0 where
  pub at : ℕ
  pub below : at ≤ u
  pub has : key at ≡ key u
  pub first : FirstOfKey key at

pub first_with : (key : ℕ → ThreeWords) (u : ℕ) → FirstWith key u
first_with key u = go (dec_lt w u)
  where
    like : ℕ → Bool
    like t = same_words (key t) (key u)

    w : ℕ
    w = least like u

    none : (t : ℕ) → t < w → key t ≡ key u → ⊥
    none t l e = true≢false (sym (eq_same (key t) (key u) e) ∙ least_below like u t l)

    go : Dec (w < u) → FirstWith key u
    go (yes l) =
        let e = same_eq (key w) (key u) (least_passes like u l) in
        record { at = w; below = least_le like u; has = e; first = λ t h f. none t h (f ∙ e) }
    go (no l) =
        let z = least_le like u in
        record { at = u; below = omega arith; has = refl; first = λ t h f. none t (omega arith) f }

-- ---- searches in one row

module _ {key : ℕ → ThreeWords} {n : ℕ} {row : List ℕ} {k : ThreeWords} where
  -- what is found from where a search has come is found from its head
  pub from_head : {rest : ThreeWords} {at w : ℕ} → Comes key n row k rest at → Leads key n row k rest at w
      → Leads key n row k k (head_link n k) w
  from_head begins l = l
  from_head (passes u c e other) l = from_head c (on u e other l)

  past : {rest : ThreeWords} {at w : ℕ} (u : ℕ) → get_or row at 0 ≡ suc u → (key u ≡ k → ⊥) → Leads key n row k rest at w
      → Leads key n row k (turned_key rest) (link_of n u rest) w
  past u e other (here f g) = absurd (other (subst (λ (x : ℕ). key x ≡ k) (suc_inj (sym f ∙ e)) g))
  past {rest} {w = w} u e other (on v f g l) =
      subst (λ (x : ℕ). Leads key n row k (turned_key rest) (link_of n x rest) w) (suc_inj (sym f ∙ e)) l

  -- and the other way round
  pub from_there : {rest : ThreeWords} {at w : ℕ} → Comes key n row k rest at → Leads key n row k k (head_link n k) w
      → Leads key n row k rest at w
  from_there begins l = l
  from_there (passes u c e other) l = past u e other (from_there c l)

  -- nothing is found from a link that is 0
  pub nothing_there : {rest : ThreeWords} {at w : ℕ} → get_or row at 0 ≡ 0 → Leads key n row k rest at w → ⊥
  nothing_there z (here e g) = omega (arith, sym z ∙ e)
  nothing_there z (on u e other l) = omega (arith, sym z ∙ e)

-- ---- a link that was 0 is set

stays : (row : List ℕ) (s x at u : ℕ) → get_or row s 0 ≡ 0 → get_or row at 0 ≡ suc u → get_or (set row s x) at 0 ≡ suc u
stays row s x at u z e = get_or-set_other row s at x 0 (λ h. omega (arith, sym z ∙ ap (λ (i : ℕ). get_or row i 0) (sym h) ∙ e)) ∙ e

module _ {key : ℕ → ThreeWords} {n : ℕ} {row : List ℕ} {k : ThreeWords} (s x : ℕ) (z : get_or row s 0 ≡ 0) where
  leads_still : {rest : ThreeWords} {at w : ℕ} → Leads key n row k rest at w → Leads key n (set row s x) k rest at w
  leads_still {at} (here {w = w} e g) = here (stays row s x at w z e) g
  leads_still {at} (on u e other l) = on u (stays row s x at u z e) other (leads_still l)

  comes_still : {rest : ThreeWords} {at : ℕ} → Comes key n row k rest at → Comes key n (set row s x) k rest at
  comes_still begins = begins
  comes_still (passes {at = at} u c e other) = passes u (comes_still c) (stays row s x at u z e) other

zeros_at : (n i : ℕ) → ◌≡◌ {A = ℕ} (get_or (replicate n 0) i 0) 0
zeros_at zero i = refl
zeros_at (suc n) zero = refl
zeros_at (suc n) (suc i) = zeros_at n i

-- ---- the items entered

module _ {key : ℕ → ThreeWords} {enters : ThreeWords → Bool} {n : ℕ} where
  -- at first there is none
  pub none_entered : n < 2 ^ 32 → Entered key enters n 0 (replicate (3 * n) 0)
  none_entered h =
      record {
        few = (omega arith, h);
        long = length-replicate (3 * n) 0;
        names = λ at w e. absurd (omega (arith, sym (zeros_at (3 * n) at) ∙ e));
        leads = λ w l. absurd (omega arith);
      }

  module _ {v : ℕ} {row : List ℕ} (e : Entered key enters n v row) (room : v < n) where
    named_still : {at w : ℕ} → Named key n v at w → Named key n (v + 1) at w
    named_still m = record { earlier = omega (arith, m.earlier); first = m.first; behind = m.behind }

    -- one whose key is not to be entered, or is there already, changes nothing
    pub entered_past : ((enters (key v) ≡ true) → FirstOfKey key v → ⊥) → Entered key enters n (v + 1) row
    entered_past not_first =
        record {
          few = (omega arith, e.few.1);
          long = e.long;
          names = λ at w h. named_still (e.names at w h);
          leads = λ w l go f. case w l go f (ℕ_discrete w v);
        }
      where
        case : (w : ℕ) → w < v + 1 → enters (key w) ≡ true → FirstOfKey key w → Dec (w ≡ v)
            → Leads key n row (key w) (key w) (head_link n (key w)) w
        case w l go f (yes h) = absurd (not_first (subst (λ (x : ℕ). enters (key x) ≡ true) h go) (subst (FirstOfKey key) h f))
        case w l go f (no h) = e.leads w (omega arith) go f

    module _ {at : ℕ} (goes_in : enters (key v) ≡ true) (ends : Ends key n row (key v) at) where
      -- a search that ended at a 0 says that no item before has the key
      pub none_before : get_or row at 0 ≡ 0 → FirstOfKey key v
      none_before z u l h =
          let f = first_with key u in
          let same_key = f.has ∙ h in
          let w = f.at in
          let told = e.leads w (omega (arith, f.below)) (ap enters same_key ∙ goes_in) f.first in
          nothing_there z (from_there ends.comes (subst (λ (x : ThreeWords). Leads key n row x x (head_link n x) w) same_key told))

      -- and one that ended at an item names the first with the key
      pub found_first : (w : ℕ) → get_or row at 0 ≡ suc w → (w < v) × (key w ≡ key v) × FirstOfKey key w
      found_first w h = let m = e.names at w h in (m.earlier, ends.found w h, m.first)

      pub entered_found : (w : ℕ) → get_or row at 0 ≡ suc w → Entered key enters n (v + 1) row
      entered_found w h = let m = found_first w h in entered_past (λ go f. f w m.0 m.1)

      -- where it ended at a 0 the item is named there: the link lies before its own
      before_own : {rest : ThreeWords} {s : ℕ} → Comes key n row (key v) rest s → s < n + 2 * v
      unfolding link_of
      before_own begins = omega (arith, head_below n (key v) (omega arith))
      before_own (passes {rest} {at = s} u c h other) = omega (arith, (e.names s u h).earlier)

      pub entered_new : get_or row at 0 ≡ 0 → Entered key enters n (v + 1) (set row at (v + 1))
      entered_new z =
          record {
            few = (omega arith, e.few.1);
            long = length-set row at (v + 1) ∙ e.long;
            names = λ s w h. name s w h (ℕ_discrete s at);
            leads = λ w l go f. lead w l go f (ℕ_discrete w v);
          }
        where
          inside : at < length row
          inside = omega (arith, ends.within, e.long)

          name : (s w : ℕ) → get_or (set row at (v + 1)) s 0 ≡ suc w → Dec (s ≡ at) → Named key n (v + 1) s w
          name s w h (yes i) =
              let own : w ≡ v = omega (arith, sym (get_or-set_same row at (v + 1) 0 inside) ∙ rw i at h) in
              record {
                earlier = omega arith;
                first = rw own (none_before z);
                behind = omega (arith, before_own ends.comes);
              }
          name s w h (no i) = named_still (e.names s w (sym (get_or-set_other row at s (v + 1) 0 i) ∙ h))

          lead : (w : ℕ) → w < v + 1 → enters (key w) ≡ true → FirstOfKey key w → Dec (w ≡ v)
              → Leads key n (set row at (v + 1)) (key w) (key w) (head_link n (key w)) w
          lead w l go f (yes i) =
              rw i (from_head (comes_still at (v + 1) z ends.comes) (here (get_or-set_same row at (v + 1) 0 inside ∙ add-one v) refl))
          lead w l go f (no i) = leads_still at (v + 1) z (e.leads w (omega arith) go f)
