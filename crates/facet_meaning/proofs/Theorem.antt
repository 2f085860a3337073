-- What the index of a field's names means for who calls it. What is left by a call that is answered 0 is the index of its names, and names have
-- exactly one: so two such calls leave the same, and the next update finds the index of its old names. Any other number changes nothing. Assumes
-- nothing.
use Prim.Native.Nat.{ℕ, suc, ◌<◌}
use native.Mathlib.Decide.{ℕ_discrete}
use native.Mathlib.Omega.{arith}
use mathlib.Core.Path.{◌≡◌, refl, sym, ap, ◌∙◌}
use mathlib.Core.Logic.{◌⊎◌, inl, inr}
use mathlib.Core.Bool.{Bool}
use mathlib.Core.List.Memᴰ
use mathlib.Core.List.{List, [], ◌∷◌, Memᴰ}
use lib.ListN.{length, get_or}
use borrow.Author.Tests.{eqb-true, eq-eqb}
use Rattle.lists.specs.Checks.{first_that_applies}
use Rattle.lists.proofs.Checks.{first_is}
use Rattle.picks.specs.Picks.{InTurn}
use Rattle.run.proofs.Waiting.{member_at}
use Rattle.facet_index.specs.Index.{Index, names_it, IsIndex}
use Rattle.facet_index.specs.Refusals.{build_checks, early_checks, update_checks, Leaves, Updates}
use Rattle.facet_index.proofs.One.{counted, index_is, has_index, one_index}
use Rattle.facet_meaning.specs.Words.{Named, SaysTheSame, ExactlyOne, CellsOf}
use Rattle.facet_meaning.specs.Calls.{Buildable, Updatable, NotStale, RefusedBy}
use Rattle.facet_meaning.specs.Calls.{BuildAnswered, UpdateAnswered, Asked, AskedAfterBuild, AskedAfterUpdate, AsFreshBuild, BuildThenUpdate, UpdateThenUpdate}
use Rattle.facet_meaning.specs.Calls.{BuildRefused, UpdateRefused, StaleRefused, OneBuild, OneUpdate}
use Rattle.facet_meaning.proofs.Words.{stands_under, under_named, index_means, means_index}
use Rattle.facet_meaning.proofs.Checks.{buildable, builds_by, build_same, Ways, refused, stale, fresh, ways, updates_by, tells_one}

-- ---- the words

pub says_the_same : (t : ℕ) (names : List ℕ) (i : Index) → SaysTheSame t names i
says_the_same t names i few = (λ x. index_means t names i x few, means_index t names i)

pub exactly_one : (t : ℕ) (names : List ℕ) → ExactlyOne t names
exactly_one t names few =
    record {
      index = counted t names;
      means = index_means t names (counted t names) (has_index t names) few;
      no_other = λ i m. index_is t names i (means_index t names i m);
    }

pub cells_of : (t : ℕ) (names : List ℕ) (i : Index) → IsIndex t names i → CellsOf t names i
cells_of t names i x k c h = (under_named t names i x k c h, stands_under t names i x k c h)

-- ---- answered 0

pub build_answered : (t : ℕ) (names : List ℕ) (lent : Index) (number : ℕ) (left : Index) → BuildAnswered t names lent number left
build_answered t names lent number left b =
    record {
      when = (right, λ r. b.numbered ∙ builds_by t names lent r);
      made = λ z. index_means t names left (b.leaves.made z) (right z).few_names;
    }
  where
    right : number ≡ 0 → Buildable t names lent
    right z = buildable t names lent (sym b.numbered ∙ z)

updatable : (t : ℕ) (old names : List ℕ) (lent : Index) (number : ℕ) (left : Index) → Updates t old names lent number left → number ≡ 0
    → Updatable t old names lent
updatable t old names lent number left u z = go (ways t old names lent number left u)
  where
    go : Ways t old names lent number → Updatable t old names lent
    go (refused e n l) = absurd (n z)
    go (stale e n w) = absurd (omega arith)
    go (fresh r w) = r

pub update_answered : (t : ℕ) (old names : List ℕ) (lent : Index) (number : ℕ) (left : Index) → UpdateAnswered t old names lent number left
update_answered t old names lent number left u =
    record {
      when = (updatable t old names lent number left u, updates_by t old names lent number left u);
      made = λ z. index_means t names left (u.leaves.made z) (updatable t old names lent number left u z).new.few_names;
    }

-- a member stands at a place
at_member : (c : ℕ) (l : List ℕ) → Memᴰ c l → (j : ℕ) × (j < length l) × (get_or l j 0 ≡ c)
at_member c [] m = absurd (Memᴰ.not-nil m)
at_member c (x ∷ l) m = go (at_member c l) (Memᴰ.cases_cons m)
  where
    go : (Memᴰ c l → (j : ℕ) × (j < length l) × (get_or l j 0 ≡ c)) → (c ≡ x) ⊎ Memᴰ c l
        → (j : ℕ) × (j < length (x ∷ l)) × (get_or (x ∷ l) j 0 ≡ c)
    go f (inl e) = (0, omega arith, sym e)
    go f (inr m) = let r = f m in (suc r.0, omega (arith, r.1), r.2)

asked : (t : ℕ) (names : List ℕ) (i : Index) (k : ℕ) (cells : List ℕ) → IsIndex t names i → Asked t names i k cells
asked t names i k cells x h a c = (to, from)
  where
    turn : InTurn (names_it names k) (length names) (length cells) (λ j. get_or cells j 0)
    turn = a.serves t names x h

    to : Memᴰ c cells → Named names k c
    to m =
        let r = at_member c cells m in
        record {
          cell = rw r.2 at (turn.below r.0 r.1);
          name = eqb-true (get_or names c 0) k (rw r.2 at (turn.passes r.0 r.1));
        }

    from : Named names k c → Memᴰ c cells
    from n =
        let r = turn.each c n.cell (eq-eqb (get_or names c 0) k n.name) in
        Memᴰ.cast (sym r.2) (member_at cells r.0 0 r.1)

pub asked_after_build : (t : ℕ) (names : List ℕ) (lent left : Index) (k : ℕ) (cells : List ℕ) → AskedAfterBuild t names lent left k cells
asked_after_build t names lent left k cells b = asked t names left k cells (b.leaves.made refl)

pub asked_after_update : (t : ℕ) (old names : List ℕ) (lent left : Index) (k : ℕ) (cells : List ℕ)
    → AskedAfterUpdate t old names lent left k cells
asked_after_update t old names lent left k cells u = asked t names left k cells (u.leaves.made refl)

-- ---- a fresh build, and the next update

pub as_fresh_build : (t : ℕ) (old names : List ℕ) (lent left lent' : Index) (number : ℕ) (built : Index)
    → AsFreshBuild t old names lent left lent' number built
as_fresh_build t old names lent left lent' number built u b = (
  λ z. one_index t names left built (u.leaves.made refl) (b.leaves.made z),
  λ e. b.numbered ∙ sym (build_same t names lent lent' e) ∙ builds_by t names lent (updatable t old names lent 0 left u refl).new,
)

-- of any call that was answered 0 and left the index of the old names
not_stale : (t : ℕ) (old names : List ℕ) (lent i : Index) (number : ℕ) (left : Index) → Buildable t old lent → IsIndex t old i
    → Updates t old names i number left → NotStale t old names number
not_stale t old names lent i number left b x u =
    record {
      not_18 = λ e. go e (ways t old names i number left u);
      answered = λ e k.
          updates_by t old names i number left u
          (record {
            new = record {
              few_facets = b.few_facets;
              starts_long = x.starts_long;
              few_names = omega (arith, b.few_names);
              list_long = x.list_long ∙ sym e;
              known = k;
            };
            as_many = sym e;
            old_known = b.known;
            current = x;
          });
    }
  where
    go : number ≡ 18 → Ways t old names i number → ⊥
    go e (refused f n l) = omega arith
    go e (stale f n z) = n x
    go e (fresh r z) = omega arith

pub build_then_update : (t : ℕ) (old names : List ℕ) (lent i : Index) (number : ℕ) (left : Index)
    → BuildThenUpdate t old names lent i number left
build_then_update t old names lent i number left b u =
    not_stale t old names lent i number left (buildable t old lent (sym b.numbered)) (b.leaves.made refl) u

pub update_then_update : (t : ℕ) (older old names : List ℕ) (lent i : Index) (number : ℕ) (left : Index)
    → UpdateThenUpdate t older old names lent i number left
update_then_update t older old names lent i number left v u =
    not_stale t old names lent i number left (updatable t older old lent 0 i v refl).new (v.leaves.made refl) u

-- ---- refused

-- 0, or a number of the checks; and then nothing is changed
refused_by_lem : (t : ℕ) (names numbers : List ℕ) (lent : Index) (number : ℕ) (left : Index) → Leaves t names lent number left
    → (number ≡ 0) ⊎ Memᴰ number numbers → (number ≡ 0) ⊎ RefusedBy numbers lent number left
refused_by_lem t names numbers lent number left l (inl z) = inl z
refused_by_lem t names numbers lent number left l (inr m) = go (ℕ_discrete number 0)
  where
    go : Dec (number ≡ 0) → (number ≡ 0) ⊎ RefusedBy numbers lent number left
    go (yes z) = inl z
    go (no z) = inr (record { one_of = m; unchanged = l.unchanged z })

pub build_refused : (t : ℕ) (names : List ℕ) (lent : Index) (number : ℕ) (left : Index) → BuildRefused t names lent number left
build_refused t names lent number left b =
    refused_by_lem t names _ lent number left b.leaves (rw b.numbered (first_is (build_checks t names lent)))

pub update_refused : (t : ℕ) (old names : List ℕ) (lent : Index) (number : ℕ) (left : Index) → UpdateRefused t old names lent number left
update_refused t old names lent number left u =
    refused_by_lem t names _ lent number left u.leaves (rw u.numbered (first_is (update_checks t old names lent u.current)))

pub stale_refused : (t : ℕ) (old names : List ℕ) (lent : Index) (number : ℕ) (left : Index) → StaleRefused t old names lent number left
stale_refused t old names lent number left u = (to (ways t old names lent number left u), λ r. from r (ways t old names lent number left u))
  where
    to : Ways t old names lent number → number ≡ 18 → (first_that_applies (early_checks t old names lent) ≡ 0) × (IsIndex t old lent → ⊥)
    to (refused e n l) w = absurd (omega arith)
    to (stale e n z) w = (e, n)
    to (fresh r z) w = absurd (omega arith)

    from : (first_that_applies (early_checks t old names lent) ≡ 0) × (IsIndex t old lent → ⊥) → Ways t old names lent number → number ≡ 18
    from r (refused e n l) = absurd (n (sym e ∙ r.0))
    from r (stale e n z) = z
    from r (fresh p z) = absurd (r.1 p.current)

-- ---- one outcome

-- where both were answered the same number, and it was not 0, both changed nothing
left_alike : (t : ℕ) (names : List ℕ) (lent : Index) (number number' : ℕ) (left left' : Index) → number ≡ number'
    → Leaves t names lent number left → Leaves t names lent number' left' → left ≡ left'
left_alike t names lent number number' left left' e l l' = go (ℕ_discrete number 0)
  where
    go : Dec (number ≡ 0) → left ≡ left'
    go (yes z) = one_index t names left left' (l.made z) (l'.made (sym e ∙ z))
    go (no z) = l.unchanged z ∙ sym (l'.unchanged (λ w. z (e ∙ w)))

pub one_build : (t : ℕ) (names : List ℕ) (lent : Index) (number : ℕ) (left lent' : Index) (number' : ℕ) (left' : Index)
    → OneBuild t names lent number left lent' number' left'
one_build t names lent number left lent' number' left' b b' same =
    record {
      numbers = e;
      made_alike = λ z. one_index t names left left' (b.leaves.made z) (b'.leaves.made (sym e ∙ z));
      lent_alike = λ w. left_alike t names lent number number' left left' e b.leaves (rw (sym w) at b'.leaves);
    }
  where
    e : number ≡ number'
    e = b.numbered ∙ build_same t names lent lent' same ∙ sym b'.numbered

pub one_update : (t : ℕ) (old names : List ℕ) (lent : Index) (number : ℕ) (left : Index) (number' : ℕ) (left' : Index)
    → OneUpdate t old names lent number left number' left'
one_update t old names lent number left number' left' u u' = (e, left_alike t names lent number number' left left' e u.leaves u'.leaves)
  where
    e : number ≡ number'
    e =
        u.numbered
        ∙ ap (λ (b : Bool). first_that_applies (update_checks t old names lent b))
        (tells_one (IsIndex t old lent) u.current u'.current u.told u'.told)
        ∙ sym u'.numbered
