-- `offer_to`: a step leads off the grid, or to a cell. Assumes nothing.
use Rattle.run_offer.proofs.Offers.{step_off, step_at_lem}
use Rattle.run_offer.proofs.offer_to.Goals as goal

pub returns-then-to-eq-NOWHERE : goal.returns-then-to-eq-NOWHERE
returns-then-to-eq-NOWHERE c = step_off c.args.k c.args.to _ c.requires.held c.requires.number_value.0 c.if-to-eq-NOWHERE.true

pub offer-requires : goal.offer-requires
offer-requires c =
    let n = c.requires.number_value.1 in record { held = c.requires.held; number_value = (c.requires.number_value.0, n.below c.if-to-eq-NOWHERE.false, n.even) }

pub returns : goal.returns
returns c =
    step_at_lem c.args.k c.args.to _ c.if-to-eq-NOWHERE.false c.offer.ensures
