-- `asked::triangle_bounding_box`: within the bounds a box holds no NaN. Assumes nothing.
use Rattle.ask_geo.specs.Asked.{box_nan}
use Rattle.ask_geo.proofs.Answers.{given, box_no_nan}
use Rattle.ask_geo.proofs.asked.triangle_bounding_box.Goals as goal

pub returns-clause-answered : goal.returns-clause-answered
returns-clause-answered c =
    let h = rw (c.within-3.ensures, c.within-2.ensures, c.within.ensures) at c.if-not-inside.false in
    rw c.triangle_bounding_box.ensures (given box_nan _ h (box_no_nan _ _ _ h))
