-- `float_root::sqrt_bits`: by the pattern (`crates/float/proofs/Signs.antt`). Assumes nothing.
use mathlib.Core.Path.{◌≡◌, sym, ap, ◌∙◌}
use Prim.Native.Nat.{ℕ}
use native.Mathlib.Omega.{arith}
use Rattle.float.specs.RootOf.{root_bits}
use Rattle.float.proofs.Signs.{root_bits_zero, root_bits_infinity, root_bits_minus_zero, no_root}
use Rattle.float_root.proofs.sqrt_bits.Goals as goal

-- the pattern b is a
at : (a b : ℕ) → b ≡ a → a ≡ root_bits a → a ≡ root_bits b
at a b e h = h ∙ ap (λ (n : ℕ). root_bits n) (sym e)

pub returns-then-b-eq0 : goal.returns-then-b-eq0
returns-then-b-eq0 c = at 0 c.args.b c.if-b-eq0.true root_bits_zero

pub returns-then-b-eq2139095040 : goal.returns-then-b-eq2139095040
returns-then-b-eq2139095040 c = at 0x7f80_0000 c.args.b c.if-b-eq2139095040.true root_bits_infinity

pub returns-then-b-eq2147483648 : goal.returns-then-b-eq2147483648
returns-then-b-eq2147483648 c = at 0x8000_0000 c.args.b c.if-b-eq2147483648.true root_bits_minus_zero

pub returns : goal.returns
returns c =
    no_root c.args.b (omega (arith, c.if-b-eq2139095040.false)) c.ranges.b.fits c.if-b-eq2147483648.false
