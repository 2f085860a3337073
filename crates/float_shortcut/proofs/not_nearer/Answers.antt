-- `float_shortcut::not_nearer`: the wide values are the values themselves, so the tests are the definition's, and `shown_size` says what they show.
-- Assumes nothing.
use Rattle.std.proofs.Common.{◌≡◌, Bool, true, ◌&&◌, ◌||◌, T, sym, refl, ◌∙◌, subst, ap₂}
use lib.Ieee.{Float, binary32, binary64, fits, mul, le}
use lib.Ieee.Bits.{is_false}
use Rattle.float.specs.Arith.{◌≺◌, f0}
use Rattle.float.proofs.Bools.{and_first, and_second}
use Rattle.float_shortcut.specs.Shown.{size_of, at_least_square, Shown}
use Rattle.float_shortcut.proofs.Signed.{shown_number, shown_size}
use Rattle.float_shortcut.proofs.not_nearer.Goals as goal
use Rattle.float_shortcut.proofs.not_nearer.Goals.{Then-wide-f32_to_f64_with_nan}

-- by the answers of both tests
answered : (q h : Float) → T (fits binary32 q) → T (fits binary32 h) → (t u : Bool) → t ≡ at_least_square (size_of q) h → u ≡ ((f0 ≺ h) || (q ≺ f0)) → Shown q h (t && u)
answered q h fq fh t u e f =
    record {
      is = ap₂ ◌&&◌ e f;
      number = λ a. is_false _ (shown_number q h (sym e ∙ and_first t u a));
      not_nearer = λ a. shown_size q h (sym e ∙ and_first t u a) fq fh (sym f ∙ and_second t u a);
    }

held_q : (c : Then-wide-f32_to_f64_with_nan) → T (fits binary32 c.args.q)
held_q c = subst T (sym c.well_formed.0.1) tt

held_h : (c : Then-wide-f32_to_f64_with_nan) → T (fits binary32 c.args.h)
held_h c = subst T (sym c.well_formed.1.0.1) tt

-- the code's test is the definition's
square_test : (c : Then-wide-f32_to_f64_with_nan) → le (mul binary64 c.f32_to_f64_with_nan-wide.result c.f32_to_f64_with_nan-wide.result) c.f32_to_f64_with_nan.result ≡ at_least_square (size_of c.args.q) c.args.h
square_test c =
    ap₂ (λ (a : Float) (b : Float). le (mul binary64 a a) b) c.f32_to_f64_with_nan-wide.ensures (c.f32_to_f64_with_nan.ensures ∙ c.size_of.ensures)

pub returns-then-wide-f32_to_f64_with_nan : goal.returns-then-wide-f32_to_f64_with_nan
returns-then-wide-f32_to_f64_with_nan c =
    answered c.args.q c.args.h (held_q c) (held_h c) true _ (sym c.if-wide-f32_to_f64_with_nan.true ∙ square_test c) refl
