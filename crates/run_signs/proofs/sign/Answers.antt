-- `run_signs::sign`: the loop fills the field from the front with the signed distances. Assumes nothing.
use Rattle.std.specs.Prelude.{if◌then◌else◌}
use native.Mathlib.Omega.{arith}
use mathlib.Core.Path.{refl, ap₂, ◌∙◌}
use mathlib.Core.Bool.{Bool}
use lib.Ieee.{Float, nan, neg}
use Rattle.lists.proofs.Table.{filled_more, filled_all}
use Rattle.run_signs.specs.Sign.{signed_by}
use Rattle.run_signs.proofs.sign.Goals as goal

pub loop-i-preserved : goal.loop-i-preserved
loop-i-preserved c =
    let l = c.loop-i in
    let stored = c.negated_if.ensures ∙ ap₂ (λ (b : Bool) (d : Float). if b then neg d else d) c.inside_at-inside.ensures (l.invariant.back l.i (omega arith)) in
    filled_more nan _ _ l.i l.field _ (omega arith) stored l.invariant

pub returns : goal.returns
unfolding signed_by
returns c = let l = c.loop-i in filled_all nan _ _ l.field l.i _ refl (omega arith) l.invariant
