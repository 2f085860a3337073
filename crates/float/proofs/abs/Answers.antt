-- `float::abs`: the pattern without its sign bit is that of the magnitude (`abs_bits`). Assumes nothing.
use mathlib.Core.Path.{◌≡◌, refl, sym, ap, ◌∙◌, subst}
use Prim.Native.Nat.{ℕ, ◌%◌, ◌≤◌}
use lib.Dec.{T}
use lib.Ieee.{Float, nan, binary32, fits, of_bits, to_bits}
use lib.Ieee.Bits.{of_bits-to_bits}
use lib.Ieee.Compare.{differs_from_itself}
use Rattle.float.specs.Steps.{abs_of}
use Rattle.float.proofs.Order.{bits_no_nan}
use Rattle.float.proofs.Magnitude.{is_number, abs_fits, abs_distance, abs_bits}
use Rattle.float.proofs.abs.Goals as goal
use Rattle.float.proofs.abs.Goals.{Else-x}

abs_nan : nan ≡ abs_of nan
unfolding abs_of
abs_nan = refl

held : (c : Else-x) → T (fits binary32 c.args.x)
held c = subst T (sym c.well_formed.0.1) tt

cleared : (c : Else-x) → to_bits binary32 c.args.x % 0x8000_0000 ≡ to_bits binary32 (abs_of c.args.x)
cleared c = abs_bits c.args.x (held c) (is_number c.args.x c.if-x.false)

pub returns-then-x : goal.returns-then-x
returns-then-x c =
    subst (λ (v : Float). v ≡ abs_of v) (sym (differs_from_itself c.args.x (subst T (sym c.if-x.true) tt))) abs_nan

pub float_to_bits-result : goal.float_to_bits-result
float_to_bits-result c = is_number c.args.x c.if-x.false

pub float_from_bits-result : goal.float_from_bits-result
float_from_bits-result c =
    bits_no_nan (to_bits binary32 c.args.x % 0x8000_0000)
    (subst (λ (n : ℕ). n ≤ 0x7f80_0000) (sym (cleared c)) (abs_distance c.args.x (held c) (is_number c.args.x c.if-x.false)).small)

pub returns : goal.returns
returns c =
    let x = c.args.x in
    ap (of_bits binary32) (cleared c) ∙ of_bits-to_bits binary32 (abs_of x) (abs_fits x (held c))
