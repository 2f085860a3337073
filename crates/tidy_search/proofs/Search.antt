-- A search as a loop has it: it has come to a link, and what that link holds is read. It begins with a head, goes on past an item with
-- another key to a link that lies behind, and ends at a 0 or at an item with the key. Assumes nothing.
use Prim.Native.Nat.{ℕ, suc, ◌-◌, ◌*◌, ◌<◌}
use native.Mathlib.Omega.{arith}
use mathlib.Core.Path.{◌≡◌, sym, ◌∙◌}
use mathlib.Core.Bool.{Bool, true, false, true≢false}
use mathlib.Core.List.{List}
use lib.ListN.{get_or}
use Rattle.tidy.specs.declared.ThreeWords.{ThreeWords}
use Rattle.tidy.specs.Same.{same_words}
use Rattle.tidy.proofs.Same.{same_eq, eq_same}
use Rattle.tidy_search.specs.Links.{head_link, turned_key, link_of, Comes, begins, passes, Ends, Named, Entered}

pub record Searching (key : ℕ → ThreeWords) (n : ℕ) (row : List ℕ) (k rest : ThreeWords) (at held : ℕ) : Type 0 where
  pub comes : Comes key n row k rest at
  pub within : at < 3 * n
  pub holds : held ≡ get_or row at 0

module _ {key : ℕ → ThreeWords} {n : ℕ} {row : List ℕ} {k : ThreeWords} where
  pub search_begins : {rest : ThreeWords} {at held : ℕ} → rest ≡ k → at ≡ head_link n k → at < n → held ≡ get_or row at 0
      → Searching key n row k rest at held
  search_begins r a l h = record { comes = rw (r, a) begins; within = omega arith; holds = h }

  pub search_ended : {rest : ThreeWords} {at held : ℕ} → Searching key n row k rest at held → held ≡ 0 → Ends key n row k at
  search_ended {rest} s z =
      record { rest = rest; comes = s.comes; within = s.within; found = λ w h. absurd (omega (arith, sym z ∙ s.holds ∙ h)) }

  module _ {rest : ThreeWords} {at held : ℕ} (s : Searching key n row k rest at held) (some : held ≡ 0 → ⊥) where
    -- the item that the link names
    item : get_or row at 0 ≡ suc (held - 1)
    item = sym s.holds ∙ omega arith

    pub search_named : {enters : ThreeWords → Bool} {v : ℕ} → Entered key enters n v row → Named key n v at (held - 1)
    search_named e = e.names at (held - 1) item

    pub search_found : same_words (key (held - 1)) k ≡ true → Ends key n row k at
    search_found h =
        record {
          rest = rest;
          comes = s.comes;
          within = s.within;
          found = λ w f. let e : w ≡ held - 1 = omega (arith, sym f ∙ item) in rw e (same_eq (key (held - 1)) k h);
        }

    pub search_on : {left : ThreeWords} {next found : ℕ} → same_words (key (held - 1)) k ≡ false
        → left ≡ turned_key rest → next ≡ link_of n (held - 1) rest → next < 3 * n → found ≡ get_or row next 0
        → Searching key n row k left next found
    search_on h l a w f =
        record {
          comes = rw (l, a) (passes (held - 1) s.comes item (λ e. true≢false (sym (eq_same (key (held - 1)) k e) ∙ h)));
          within = w;
          holds = f;
        }

-- the next link lies behind
pub search_behind : {key : ℕ → ThreeWords} {n v at w next : ℕ} (rest : ThreeWords) → Named key n v at w → next ≡ link_of n w rest → at < next
unfolding link_of
search_behind rest m e = omega (arith, m.behind)
