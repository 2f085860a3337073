-- Which number is given, by what a file and a buffer are: one law for each check, and what holds where none applies. Assumes nothing.
use Prim.Native.Nat.{ℕ, zero, suc, ◌*◌, ◌/◌, ◌%◌, ◌≤◌, ◌<◌}
use native.Mathlib.Omega.{arith}
use mathlib.Core.Path.{◌≡◌, refl, sym, ap}
use mathlib.Core.Bool.{not}
use mathlib.Core.List.{List, ◌++◌}
use lib.Dec.{ltb, eqb}
use lib.ListN.{length}
use borrow.Author.Tests.{ltb-false, not-false, eqb-true, lt-ltb, le-ltb, eq-eqb, ne_eqb}
use Rattle.std.specs.Prelude.{Ok, Err}
use Rattle.lists.specs.Checks.{first_that_applies}
use Rattle.lists.proofs.Checks.{neither, none_applies, past_group, by_group}
use Rattle.refusals.specs.declared.Refusal.{Refusal}
use Rattle.refusals.specs.Numbers.{refused, number_of}
use Rattle.stl.specs.File.{count_in, length_for}
use Rattle.stl.specs.Reply.{file_checks, buffer_checks, writing_checks, stl_number, stl_facets, answer_by, left_by, outcome_by, FileGives}

-- ---- a file

module _ (file : List ℕ) where
  pub short : length file < 84 → first_that_applies (file_checks file) ≡ 11
  short h = rw (lt-ltb (length file) 84 h)

  module _ (h : 84 ≤ length file) where
    pub unlike : (length file ≡ length_for (count_in file) → ⊥) → first_that_applies (file_checks file) ≡ 11
    unlike e = rw (le-ltb (length file) 84 h, ne_eqb (length file) (length_for (count_in file)) e)

    module _ (e : length file ≡ length_for (count_in file)) where
      pub many : 131072 < count_in file → first_that_applies (file_checks file) ≡ 12
      many m = rw (le-ltb (length file) 84 h, eq-eqb (length file) (length_for (count_in file)) e, lt-ltb 131072 (count_in file) m)

      pub fits : count_in file ≤ 131072 → first_that_applies (file_checks file) ≡ 0
      fits m = rw (le-ltb (length file) 84 h, eq-eqb (length file) (length_for (count_in file)) e, le-ltb 131072 (count_in file) m)

  -- what holds of a file that neither 11 nor 12 is given for
  pub record Fits : Type 0 where
    pub long : length file ≡ length_for (count_in file)
    pub few : count_in file ≤ 131072

  pub fitting : first_that_applies (file_checks file) ≡ 0 → Fits
  fitting z =
      let p = none_applies (file_checks file) (omega arith, (omega arith, tt)) z in
      let q = neither (ltb (length file) 84) (not (eqb (length file) (length_for (count_in file)))) p.0 in
      record { long = eqb-true (length file) (length_for (count_in file)) (not-false _ q.1); few = ltb-false 131072 (count_in file) p.1.0 }

-- ---- the buffer of the corners

module _ (file : List ℕ) (f : first_that_applies (file_checks file) ≡ 0) (numbers : ℕ) where
  reading_is : first_that_applies (file_checks file ++ buffer_checks file numbers) ≡ first_that_applies (buffer_checks file numbers)
  reading_is = past_group (file_checks file) (buffer_checks file numbers) (omega arith, (omega arith, tt)) f

  pub unlent : (numbers ≡ 9 * count_in file → ⊥) → first_that_applies (file_checks file ++ buffer_checks file numbers) ≡ 5
  unlent e = rw (reading_is, ne_eqb numbers (9 * count_in file) e)

  pub lent : numbers ≡ 9 * count_in file → first_that_applies (file_checks file ++ buffer_checks file numbers) ≡ 0
  lent e = rw (reading_is, eq-eqb numbers (9 * count_in file) e)

-- a file that is refused is refused whatever was lent
pub refused_first : (file : List ℕ) (numbers : ℕ) → (first_that_applies (file_checks file) ≡ 0 → ⊥)
    → first_that_applies (file_checks file ++ buffer_checks file numbers) ≡ first_that_applies (file_checks file)
refused_first file numbers h = by_group (file_checks file) (buffer_checks file numbers) h

-- ---- what is to be written

module _ (numbers bytes : ℕ) where
  pub uneven : (numbers % 9 ≡ 0 → ⊥) → first_that_applies (writing_checks numbers bytes) ≡ 2
  uneven e = rw (ne_eqb (numbers % 9) 0 e)

  module _ (e : numbers % 9 ≡ 0) where
    pub many_facets : 131072 < numbers / 9 → first_that_applies (writing_checks numbers bytes) ≡ 12
    many_facets m = rw (eq-eqb (numbers % 9) 0 e, lt-ltb 131072 (numbers / 9) m)

    module _ (m : numbers / 9 ≤ 131072) where
      pub unlent_file : (bytes ≡ length_for (numbers / 9) → ⊥) → first_that_applies (writing_checks numbers bytes) ≡ 5
      unlent_file l = rw (eq-eqb (numbers % 9) 0 e, le-ltb 131072 (numbers / 9) m, ne_eqb bytes (length_for (numbers / 9)) l)

      pub lent_file : bytes ≡ length_for (numbers / 9) → first_that_applies (writing_checks numbers bytes) ≡ 0
      lent_file l = rw (eq-eqb (numbers % 9) 0 e, le-ltb 131072 (numbers / 9) m, eq-eqb bytes (length_for (numbers / 9)) l)

  -- what holds where none is given
  pub record Writable : Type 0 where
    pub even : numbers % 9 ≡ 0
    pub few : numbers / 9 ≤ 131072
    pub long : bytes ≡ length_for (numbers / 9)

  pub writable : first_that_applies (writing_checks numbers bytes) ≡ 0 → Writable
  writable z =
      let p = none_applies (writing_checks numbers bytes) (omega arith, (omega arith, (omega arith, tt))) z in
      record {
        even = eqb-true (numbers % 9) 0 (not-false _ p.0);
        few = ltb-false 131072 (numbers / 9) p.1.0;
        long = eqb-true bytes (length_for (numbers / 9)) (not-false _ p.1.1.0);
      }

-- ---- the outcome by its number

-- 0 is no refusal's number
pub numbered : (r : Refusal) → number_of r ≡ 0 → ⊥
numbered r z = grind arith

pub refused_is : (n facets : ℕ) → (n ≡ 0 → ⊥) → refused n ≡ answer_by n facets
refused_is zero facets h = absurd (h refl)
refused_is (suc n) facets h = refl

kept : {A : Type 0} (n : ℕ) (made lent : List A) → (n ≡ 0 → ⊥) → lent ≡ left_by n made lent
kept zero made lent h = absurd (h refl)
kept (suc n) made lent h = refl

-- n is what the checks come to, r the refusal or the facets that the code gives
module _ {A : Type 0} (facets : ℕ) (made lent : List A) {n : ℕ} where
  pub refused_by_lem : (r : Refusal) → number_of r ≡ n → FileGives (outcome_by n facets made lent) (Err r) lent
  refused_by_lem r e =
      let some = numbered r in
      rw (sym e) (record {
        answers = refused_is (number_of r) facets some;
        numbers = ap stl_number (refused_is (number_of r) facets some);
        facets = ap stl_facets (refused_is (number_of r) facets some);
        leaves = kept (number_of r) made lent some;
      })

  pub done_by : {r : ℕ} {left : List A} → n ≡ 0 → r ≡ facets → left ≡ made → FileGives (outcome_by n facets made lent) (Ok r) left
  done_by z e l = rw (z, e, l) (record { answers = refl; numbers = refl; facets = refl; leaves = refl })
