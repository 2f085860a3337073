-- A loop that reads n lines, each by the reader p, and stores their values in `out`, whose first i are `held i out`: the lines that are left, behind
-- those whose values are stored, are all of the lines. Assumes nothing.
use Prim.Native.Nat.{ℕ, ◌+◌, ◌-◌, ◌≤◌, ◌<◌}
use native.Mathlib.Omega.{arith}
use mathlib.Core.Path.{◌≡◌, refl, sym, ap, ◌∙◌}
use mathlib.Core.List.{List, [], ◌∷◌, ◌++◌}
use lib.ListN.{length, drop}
use Rattle.text.specs.Reader.{Got, took, nothing, lines_at}
use Rattle.text.proofs.Lines.{afterwards, lines_begin, lines_more, lines_not, lines_end}

module _ {A : Type 0} (p : List ℕ → Got A) (held : ℕ → List ℕ → List A) where
  pub record Stored (text : List ℕ) (at n : ℕ) (out₀ out : List ℕ) (k i : ℕ) : Type 0 where
    pub few : i ≤ n
    pub long : length out ≡ length out₀
    pub all : lines_at n p (drop at text) ≡ afterwards p (held i out) (n - i) (drop k text)

  pub stored_none : (text : List ℕ) (at n : ℕ) (out : List ℕ) → held 0 out ≡ [] → Stored text at n out out at 0
  stored_none text at n out e =
      record {
        few = omega arith;
        long = refl;
        all = lines_begin p n (drop at text) ∙ ap (λ (l : List A). afterwards p l (n - 0) (drop at text)) (sym e);
      }

  module _ {text : List ℕ} {at n : ℕ} {out₀ out : List ℕ} {k i : ℕ} (s : Stored text at n out₀ out k i) where
    pub stored_not : i < n → nothing ≡ p (drop k text) → nothing ≡ lines_at n p (drop at text)
    stored_not h e = sym (s.all ∙ lines_not p n i (held i out) (drop k text) h e)

    pub stored_more : {now : List ℕ} {next : ℕ} {a : A}
        → i < n
        → took a (drop next text) ≡ p (drop k text)
        → length now ≡ length out
        → held (i + 1) now ≡ held i out ++ a ∷ []
        → Stored text at n out₀ now next (i + 1)
    stored_more h e l g =
        record { few = omega arith; long = l ∙ s.long; all = s.all ∙ lines_more p n i (held i out) (drop k text) h e g }

    pub stored_all : n ≤ i → took (held n out) (drop k text) ≡ lines_at n p (drop at text)
    stored_all h =
        let e : n ≡ i = omega (arith, s.few) in
        sym (s.all ∙ lines_end p n i (held i out) (drop k text) h (ap (λ (m : ℕ). held m out) e))
