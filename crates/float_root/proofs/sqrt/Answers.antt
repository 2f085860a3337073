-- `float_root::sqrt`: by the sign of x, and above zero by its pattern, which reads back as x. Assumes nothing.
use mathlib.Core.Path.{◌≡◌, refl, sym, ap, ◌∙◌, subst}
use mathlib.Core.Bool.{false}
use Prim.Native.Nat.{◌≤◌, ◌<◌}
use native.Mathlib.Nat.{le_of_lt}
use native.Mathlib.Omega.{arith}
use lib.Dec.{T}
use lib.Ieee.{Float, inf, binary32, fits, of_bits, to_bits}
use lib.Ieee.Bits.{of_bits-to_bits}
use Rattle.float.specs.Distance.{Distance, unsigned}
use Rattle.float.specs.RootOf.{root_of}
use Rattle.float.proofs.Units.{infinity}
use Rattle.float.proofs.Order.{unsigned_distance, bits_no_nan}
use Rattle.float.proofs.Roots.{root_fits, is_root_of}
use Rattle.float.proofs.Signs.{above_zero_lem, below_zero, neither_side, quotient}
use Rattle.float_root.proofs.sqrt.Goals as goal

root_infinity : inf false ≡ root_of (inf false)
unfolding root_of
root_infinity = refl

-- the largest pattern of a distance is infinity's
at_infinity : (x : Float) → Distance x → 0x7f80_0000 ≤ to_bits binary32 x → x ≡ root_of x
at_infinity x d h =
    let e : x ≡ inf false = sym (of_bits-to_bits binary32 x d.held) ∙ ap (of_bits binary32) top ∙ infinity in
    e ∙ root_infinity ∙ ap root_of (sym e)
  where
    top : to_bits binary32 x ≡ 0x7f80_0000
    top = omega (arith, d.small)

pub root_bits-requires : goal.root_bits-requires
root_bits-requires c =
    let held : T (fits binary32 c.args.x) = subst T (sym c.well_formed.0.1) tt in
    let plus : T (unsigned c.args.x) × (0 < to_bits binary32 c.args.x) = above_zero_lem c.args.x (held) c.if-x.true in
    ((plus).1, c.if-b-lt2139095040.true)

pub float_from_bits-result : goal.float_from_bits-result
float_from_bits-result c = bits_no_nan c.root_bits.result (le_of_lt c.root_bits.ensures.0)

pub returns-then-b-lt2139095040 : goal.returns-then-b-lt2139095040
returns-then-b-lt2139095040 c =
    let held : T (fits binary32 c.args.x) = subst T (sym c.well_formed.0.1) tt in
    let x = c.args.x in
    is_root_of x (of_bits binary32 c.root_bits.result) (held)
    (ap (of_bits binary32) (c.root_bits.ensures.1 ∙ ap (λ (v : Float). to_bits binary32 (root_of v)) (of_bits-to_bits binary32 x (held))) ∙ of_bits-to_bits binary32 (root_of x) (root_fits x (held)))

pub returns-then-x : goal.returns-then-x
returns-then-x c =
    let held : T (fits binary32 c.args.x) = subst T (sym c.well_formed.0.1) tt in
    let plus : T (unsigned c.args.x) × (0 < to_bits binary32 c.args.x) = above_zero_lem c.args.x (held) c.if-x.true in
    let x = c.args.x in
    is_root_of x x (held) (at_infinity x (unsigned_distance x (held) (plus).0) c.if-b-lt2139095040.false)

pub returns-then-x-2 : goal.returns-then-x-2
returns-then-x-2 c =
    let held : T (fits binary32 c.args.x) = subst T (sym c.well_formed.0.1) tt in
    is_root_of c.args.x _ (held) (quotient ∙ sym (below_zero c.args.x c.if-x-2.true))

pub returns : goal.returns
returns c =
    let held : T (fits binary32 c.args.x) = subst T (sym c.well_formed.0.1) tt in
    is_root_of c.args.x c.args.x (held) (neither_side c.args.x c.if-x.false c.if-x-2.false)
