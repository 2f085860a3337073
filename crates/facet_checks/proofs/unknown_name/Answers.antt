-- `facet_checks::unknown_name`: whether some name before this one is not known. Assumes nothing.
use native.Mathlib.Omega.{arith}
use mathlib.Core.Path.{◌≡◌, sym, ap, ap₂, ◌∙◌}
use mathlib.Core.Bool.{Bool, not, ◌||◌}
use lib.ListN.{length}
use Rattle.picks.specs.Picks.{some}
use Rattle.picks.proofs.Picks.{some_none, some_more, some_fails}
use Rattle.facet_index.specs.Refusals.{known}
use Rattle.facet_checks.proofs.unknown_name.Invariants.{unknown_at}
use Rattle.facet_checks.proofs.unknown_name.Goals as goal

pub loop-name-init : goal.loop-name-init
loop-name-init c =
    sym (some_none (unknown_at c.args.triangles c.args.names.now) 0 (λ i h. absurd (omega arith)))

pub loop-name-preserved : goal.loop-name-preserved
loop-name-preserved c =
    let l = c.loop-name in
    ap₂ (λ (a b : Bool). a || not b) l.invariant c.is_known.ensures
    ∙ sym (some_more (unknown_at c.args.triangles c.args.names.now) l.name-index)

pub returns : goal.returns
returns c =
    let l = c.loop-name in
    let e : l.name-index ≡ length c.args.names.now = omega arith in
    l.invariant ∙ ap (some (unknown_at c.args.triangles c.args.names.now)) e ∙ some_fails (known c.args.triangles) 0 c.args.names.now
