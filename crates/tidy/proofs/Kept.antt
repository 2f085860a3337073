-- Of any mesh: its firsts, how its triangles are listed, and what it is to be used, each by what the definition promises. A triangle that
-- repeats an earlier one repeats a kept one: the least of them. A used vertex is its own first, and used vertices have numbers of their
-- own. Assumes nothing.
use Prim.Native.Nat.{ℕ, ◌<◌}
use native.Mathlib.Decide.{dec_lt}
use native.Mathlib.Omega.{arith}
use mathlib.Core.Path.{◌≡◌, refl, sym, ap, ap₂, ◌∙◌}
use mathlib.Core.Bool.{Bool, true, false, cond, ◌&&◌, true≢false, and-eq-true_iff}
use borrow.Author.Tests.{eqb-true, eq-eqb}
use Rattle.picks.specs.Picks.{least, some}
use Rattle.picks.proofs.Picks.{least_le, least_passes, least_below, some_none, some_not, Passes, some_one, one_some, count_one}
use Rattle.mesh_topology.specs.Topology.{kth}
use Rattle.mesh.specs.Mesh.{Mesh, triangles_in}
use Rattle.tidy.specs.declared.ThreeWords.{ThreeWords}
use Rattle.tidy.specs.Same.{same_words}
use Rattle.tidy.specs.Numbers.{renumbered, two_equal_numbers, same_numbers, has_number}
use Rattle.tidy.specs.Tidy.{vertex_bits, triangle_total, first_of, merged, cause, is_kept, used, number_after}
use Rattle.tidy.specs.Meaning.{First, Stays, Repeats, Listed, stays, two_equal_lem, repeats}
use Rattle.tidy.proofs.Same.{same_eq, eq_same}
use Rattle.tidy.proofs.Numbers.{On, on_of, has_on, has_own}
use Rattle.tidy.proofs.Ascending.{same_numbers_on, same_two_equal}

-- a test that does not pass fails
pub fails : (b : Bool) → (b ≡ true → ⊥) → b ≡ false
fails true h = absurd (h refl)
fails false h = refl

module _ (m : Mesh) where
  abbrev bits : ℕ → ThreeWords
  bits v = vertex_bits m.vertices v

  -- ---- firsts

  pub first : (v : ℕ) → First m v (first_of m v)
  unfolding first_of
  first v = record { identical = go (dec_lt (least test v) v); not_after_lem = least_le test v; none_before = before }
    where
      test : ℕ → Bool
      test w = same_words (bits w) (bits v)

      go : Dec (least test v < v) → bits (least test v) ≡ bits v
      go (yes h) = same_eq (bits (least test v)) (bits v) (least_passes test v h)
      go (no h) = let e : least test v ≡ v = omega (arith, least_le test v) in ap bits e

      before : (w : ℕ) → w < least test v → bits w ≡ bits v → ⊥
      before w h e = true≢false (sym (eq_same (bits w) (bits v) e) ∙ least_below test v w h)

  -- there is one such vertex
  pub first_one : (v f : ℕ) → First m v f → f ≡ first_of m v
  first_one v f p = go (dec_lt f (first_of m v)) (dec_lt (first_of m v) f)
    where
      go : Dec (f < first_of m v) → Dec (first_of m v < f) → f ≡ first_of m v
      go (yes l) d = absurd ((first v).none_before f l p.identical)
      go (no l) (yes g) = absurd (p.none_before (first_of m v) g (first v).identical)
      go (no l) (no g) = omega arith

  pub first_own : (v : ℕ) → ((w : ℕ) → w < v → bits w ≡ bits v → ⊥) → first_of m v ≡ v
  first_own v h = sym (first_one v v (record { identical = refl; not_after_lem = omega arith; none_before = h }))

  -- a first is its own first
  pub first_first : (v : ℕ) → first_of m (first_of m v) ≡ first_of m v
  first_first v = first_own (first_of m v) (λ w l e. (first v).none_before w l (e ∙ (first v).identical))

  -- ---- what is kept

  pub kept_cause : (k : ℕ) → is_kept m k ≡ true → cause m k ≡ 0
  unfolding is_kept
  kept_cause k h = eqb-true (cause m k) 0 h

  pub cause_kept : (k : ℕ) → cause m k ≡ 0 → is_kept m k ≡ true
  unfolding is_kept
  cause_kept k h = eq-eqb (cause m k) 0 h

  pub stays_kept : (k : ℕ) → Stays m k → is_kept m k ≡ true
  unfolding is_kept cause
  stays_kept k h = rw (h.unequal, some_none (λ j. same_numbers (merged m j) (merged m k)) k h.new)

  module _ (k : ℕ) where
    abbrev earlier : ℕ → Bool
    earlier j = same_numbers (merged m j) (merged m k)

    -- of those before k that have its numbers, the least has none before it: it is kept
    repeated : two_equal_numbers (merged m k) ≡ false → some earlier k ≡ true → Repeats m (cause m) k
    repeated f s =
        record {
          unequal = f;
          of = of;
          earlier = before;
          kept = kept_cause of (stays_kept of (record { unequal = same_two_equal (merged m of) (merged m k) numbers ∙ f; new = new }));
          numbers = numbers;
        }
      where
        of : ℕ
        of = least earlier k

        before : of < k
        before = go (dec_lt of k) (some_one earlier k s)
          where
            go : Dec (of < k) → Passes earlier k → of < k
            go (yes l) r = l
            go (no l) r = absurd (true≢false (sym r.passes ∙ least_below earlier k r.at (omega (arith, r.below))))

        numbers : earlier of ≡ true
        numbers = least_passes earlier k before

        new : (j : ℕ) → j < of → same_numbers (merged m j) (merged m of) ≡ false
        new j l =
            fails (same_numbers (merged m j) (merged m of)) (λ z.
            true≢false (sym (same_numbers_on (merged m j) (merged m of) (merged m k) z numbers) ∙ least_below earlier k j l))

    pub listed : Listed m (cause m) k
    unfolding cause
    listed = go (two_equal_numbers (merged m k)) refl (some earlier k) refl
      where
        is : {f s : Bool} → two_equal_numbers (merged m k) ≡ f → some earlier k ≡ s → cause m k ≡ cond f 1 (cond s 2 0)
        is a b = ap₂ (λ (f : Bool) (s : Bool). cond f 1 (cond s 2 0)) a b

        go : (f : Bool) → two_equal_numbers (merged m k) ≡ f → (s : Bool) → some earlier k ≡ s → Listed m (cause m) k
        go true a s b = two_equal_lem (is a b) a
        go false a true b = repeats (is a b) (repeated a b)
        go false a false b = stays (is a b) (record { unequal = a; new = λ j l. some_not earlier k j b l })

  pub kept_stays : (k : ℕ) → is_kept m k ≡ true → Stays m k
  kept_stays k h = go (kept_cause k h) (listed k)
    where
      go : cause m k ≡ 0 → Listed m (cause m) k → Stays m k
      go z (stays e p) = p
      go z (two_equal_lem e p) = absurd (omega arith)
      go z (repeats e p) = absurd (omega arith)

  -- ---- what is used

  -- v is a number of kept triangle `at`
  pub record Uses (v : ℕ) : Type 0 where
    pub at : ℕ
    pub below : at < triangle_total m
    pub stays : is_kept m at ≡ true
    pub holds : has_number (merged m at) v ≡ true

  pub used_uses : (v : ℕ) → used m v ≡ true → Uses v
  unfolding used
  used_uses v h =
      let r = some_one (λ k. is_kept m k && has_number (merged m k) v) (triangle_total m) h in
      let b = (and-eq-true_iff (is_kept m r.at) (has_number (merged m r.at) v)).0 r.passes in
      record { at = r.at; below = r.below; stays = b.0; holds = b.1 }

  pub uses_used : (v : ℕ) → Uses v → used m v ≡ true
  unfolding used
  uses_used v u = one_some (λ k. is_kept m k && has_number (merged m k) v) (triangle_total m) u.at u.below (rw (u.stays, u.holds))

  -- the numbers of a merged triangle are firsts
  merged_first : (k : ℕ) → On (λ v. first_of m v ≡ v) (merged m k)
  unfolding merged renumbered
  merged_first k =
      let t = kth (triangles_in m) k in
      record { a = first_first t.a; b = first_first t.b; c = first_first t.c }

  -- so a used vertex is its own first
  pub used_first : (v : ℕ) → used m v ≡ true → first_of m v ≡ v
  used_first v h = let u = used_uses v h in has_on (λ v. first_of m v ≡ v) (merged m u.at) v (merged_first u.at) u.holds

  -- each number of a kept triangle is used
  pub kept_used : (k : ℕ) → k < triangle_total m → is_kept m k ≡ true → On (λ v. used m v ≡ true) (merged m k)
  kept_used k l h =
      on_of (λ v. has_number (merged m k) v ≡ true) (λ v. used m v ≡ true) (merged m k)
      (λ v w. uses_used v (record { at = k; below = l; stays = h; holds = w }))
      (has_own (merged m k))

  -- numbers of used vertices are apart
  pub number_apart : (u v : ℕ) → used m u ≡ true → used m v ≡ true → number_after m u ≡ number_after m v → u ≡ v
  unfolding number_after
  number_apart u v g h e = count_one (used m) u v g h e
