-- `float::sign_bit`: from 2 ^ 31 on a number's pattern has the sign bit (`sign_bits`), and a NaN is told apart first. Assumes nothing.
use mathlib.Core.Path.{◌≡◌, refl, sym, subst}
use mathlib.Core.Bool.{false}
use lib.Dec.{T}
use lib.Ieee.{Float, binary32, fits}
use lib.Ieee.Compare.{differs_from_itself}
use Rattle.float.specs.Steps.{sign_bit}
use Rattle.float.proofs.Magnitude.{is_number, sign_bits}
use Rattle.float.proofs.sign_bit.Goals as goal
use Rattle.float.proofs.sign_bit.Goals.{Else-x}

held : (c : Else-x) → T (fits binary32 c.args.x)
held c = subst T (sym c.well_formed.0.1) tt

pub returns-then-x : goal.returns-then-x
returns-then-x c = subst (λ (v : Float). false ≡ sign_bit v) (sym (differs_from_itself c.args.x (subst T (sym c.if-x.true) tt))) refl

pub float_to_bits-result : goal.float_to_bits-result
float_to_bits-result c = is_number c.args.x c.if-x.false

pub returns : goal.returns
returns c = let x = c.args.x in sign_bits x (held c) (is_number x c.if-x.false)
