-- What the checks of a build and of an update come to. Where none applies, what was given is as the document asks, and where it is, none does; 18 alone
-- is asked last, of what is then known to be right but for the index. Assumes nothing.
use Prim.Native.Nat.{ℕ, ◌<◌}
use native.Mathlib.Decide.{ℕ_discrete}
use native.Mathlib.Omega.{arith}
use mathlib.Core.Path.{◌≡◌, refl, sym, ap, ap₂, ◌∙◌}
use mathlib.Core.Logic.{◌⊎◌, inl, inr}
use mathlib.Core.Bool.{Bool, true, false, cond, not, ◌||◌, or-true}
use mathlib.Core.List.{List, [], ◌∷◌, Memᴰ}
use lib.Dec.{ltb, eqb}
use lib.ListN.{length, get_or}
use borrow.Author.Tests.{ltb-true, ltb-false, lt-ltb, le-ltb, eqb-true, eq-eqb, not-false}
use Rattle.lists.specs.Checks.{Check, first_that_applies}
use Rattle.lists.specs.Every.{every}
use Rattle.lists.proofs.Checks.{neither, none_applies, first_is, past_group, by_group}
use Rattle.lists.proofs.Every.{every_each, every_at, every_member}
use Rattle.run.specs.Run.{none}
use Rattle.facet_index.specs.Index.{Index, IsIndex}
use Rattle.facet_index.specs.Told.{Tells}
use Rattle.facet_index.specs.Refusals.{wrong_lengths, known, unknown_name, build_checks, early_checks, Updates}
use Rattle.facet_index.proofs.Told.{told_yes, told_no}
use Rattle.facet_index.proofs.Accepted.{build_accepted, update_accepted}
use Rattle.facet_meaning.specs.Calls.{Known, Buildable, Updatable, SameLengths}

-- ---- the names

known_is : (t n : ℕ) → known t n ≡ true → (n < t) ⊎ (n ≡ none)
known_is t n h = go (ltb n t) refl h
  where
    go : (b : Bool) → ltb n t ≡ b → (b || eqb n none) ≡ true → (n < t) ⊎ (n ≡ none)
    go true e w = inl (ltb-true n t e)
    go false e w = inr (eqb-true n none w)

is_known : (t n : ℕ) → (n < t) ⊎ (n ≡ none) → known t n ≡ true
is_known t n (inl h) = ap (λ (b : Bool). b || eqb n none) (lt-ltb n t h)
is_known t n (inr h) = ap (λ (b : Bool). ltb n t || b) (eq-eqb n none h) ∙ or-true (ltb n t)

all_known : (t : ℕ) (names : List ℕ) → unknown_name t names ≡ false → Known t names
all_known t names h c w = known_is t (get_or names c 0) (every_at (known t) 0 names c (not-false (every (known t) names) h) w)

known_all : (t : ℕ) (names : List ℕ) → Known t names → unknown_name t names ≡ false
known_all t names h = ap not (every_each (known t) 0 names (λ c w. is_known t (get_or names c 0) (h c w)))

-- ---- a build

module _ (t : ℕ) (names : List ℕ) (lent : Index) where
  pub buildable : first_that_applies (build_checks t names lent) ≡ 0 → Buildable t names lent
  buildable z =
      let passed = none_applies (build_checks t names lent) (omega arith, (omega arith, (omega arith, tt))) z in
      let l = build_accepted t names lent z in
      record {
        few_facets = ltb-false 131072 t passed.0;
        starts_long = l.starts_long;
        few_names = l.few_names;
        list_long = l.list_long;
        known = all_known t names passed.1.1.0;
      }

  right_lengths : Buildable t names lent → wrong_lengths t (length names) (length lent.starts) (length lent.list) ≡ false
  right_lengths b =
      rw (
        eq-eqb _ _ b.starts_long,
        le-ltb 1048576 (length names) b.few_names,
        eq-eqb _ _ b.list_long,
      )

  pub builds_by : Buildable t names lent → first_that_applies (build_checks t names lent) ≡ 0
  builds_by b = rw (le-ltb 131072 t b.few_facets, right_lengths b, known_all t names b.known)

-- the lengths alone are looked at in what is lent
pub build_same : (t : ℕ) (names : List ℕ) (lent lent' : Index) → SameLengths lent lent'
    → first_that_applies (build_checks t names lent) ≡ first_that_applies (build_checks t names lent')
build_same t names lent lent' e = rw same
  where
    same : wrong_lengths t (length names) (length lent.starts) (length lent.list)
        ≡ wrong_lengths t (length names) (length lent'.starts) (length lent'.list)
    same = ap₂ (wrong_lengths t (length names)) e.starts e.list

-- ---- an update

-- 3, 15 and 4 ask for all but the index
pub record Early (t : ℕ) (old names : List ℕ) (lent : Index) : Type 0 where
  pub new : Buildable t names lent
  pub as_many : length old ≡ length names
  pub old_known : Known t old

module _ (t : ℕ) (old names : List ℕ) (lent : Index) where
  early : first_that_applies (early_checks t old names lent) ≡ 0 → Early t old names lent
  early z =
      let passed = none_applies (early_checks t old names lent) (omega arith, (omega arith, (omega arith, tt))) z in
      let l = update_accepted t old names lent z in
      let k = neither (unknown_name t old) (unknown_name t names) passed.1.1.0 in
      record {
        new = record {
          few_facets = ltb-false 131072 t passed.0;
          starts_long = l.0.starts_long;
          few_names = l.0.few_names;
          list_long = l.0.list_long;
          known = all_known t names k.1;
        };
        as_many = l.1;
        old_known = all_known t old k.0;
      }

  early_by : Early t old names lent → first_that_applies (early_checks t old names lent) ≡ 0
  early_by e =
      rw (
        le-ltb 131072 t e.new.few_facets,
        right_lengths t names lent e.new,
        eq-eqb _ _ e.as_many,
        known_all t old e.old_known,
        known_all t names e.new.known,
      )

  -- the numbers of the first three are below 18
  early_below : first_that_applies (early_checks t old names lent) < 18
  unfolding every
  early_below = go (first_is (early_checks t old names lent))
    where
      go : (first_that_applies (early_checks t old names lent) ≡ 0) ⊎ Memᴰ (first_that_applies (early_checks t old names lent)) (3 ∷ 15 ∷ 4 ∷ [])
          → first_that_applies (early_checks t old names lent) < 18
      go (inl z) = omega arith
      go (inr m) = ltb-true _ 18 (every_member (λ n. ltb n 18) _ (3 ∷ 15 ∷ 4 ∷ []) refl m)

  -- the three ways of an update
  pub data Ways (number : ℕ) : Type 0 where
    refused : first_that_applies (early_checks t old names lent) ≡ number → (number ≡ 0 → ⊥) → number < 18 → Ways number
    stale : first_that_applies (early_checks t old names lent) ≡ 0 → (IsIndex t old lent → ⊥) → number ≡ 18 → Ways number
    fresh : Updatable t old names lent → number ≡ 0 → Ways number

  pub ways : (number : ℕ) (left : Index) → Updates t old names lent number left → Ways number
  ways number left u = go (ℕ_discrete (first_that_applies (early_checks t old names lent)) 0)
    where
      last : List Check
      last = record { applies = not u.current; number = 18 } ∷ []

      go : Dec (first_that_applies (early_checks t old names lent) ≡ 0) → Ways number
      go (no n) =
          let e = u.numbered ∙ by_group (early_checks t old names lent) last n in
          refused (sym e) (λ z. n (sym e ∙ z)) (omega (arith, e, early_below))
      go (yes z) = told u.current refl
        where
          e : number ≡ first_that_applies last
          e = u.numbered ∙ past_group (early_checks t old names lent) last (omega arith, (omega arith, (omega arith, tt))) z

          told : (b : Bool) → u.current ≡ b → Ways number
          told true w =
              let p = early z in
              fresh (record { new = p.new; as_many = p.as_many; old_known = p.old_known; current = told_yes u.current u.told w })
              (e ∙ ap (λ (b : Bool). cond (not b) 18 0) w)
          told false w = stale z (told_no u.current u.told w) (e ∙ ap (λ (b : Bool). cond (not b) 18 0) w)

  -- and where all is right it is the last
  pub updates_by : (number : ℕ) (left : Index) → Updates t old names lent number left → Updatable t old names lent → number ≡ 0
  updates_by number left u r = go (ways number left u)
    where
      passed : first_that_applies (early_checks t old names lent) ≡ 0
      passed = early_by (record { new = r.new; as_many = r.as_many; old_known = r.old_known })

      go : Ways number → number ≡ 0
      go (refused e n l) = absurd (n (sym e ∙ passed))
      go (stale e n z) = absurd (n r.current)
      go (fresh r z) = z

-- what is told of one thing is one answer
pub tells_one : (A : Type 0) (a b : Bool) → Tells a A → Tells b A → a ≡ b
unfolding Tells
tells_one A true true x y = refl
tells_one A true false x y = absurd (y x)
tells_one A false true x y = absurd (x y)
tells_one A false false x y = refl
