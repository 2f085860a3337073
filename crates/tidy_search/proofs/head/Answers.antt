-- `tidy_search::head`: three numbers mixed in turn; the head that comes of them is below n by its law. Assumes nothing.
use Rattle.tidy_search.specs.Links.{head_link}
use Rattle.tidy_search.proofs.Links.{head_below}
use Rattle.tidy_search.proofs.head.Goals as goal

pub returns : goal.returns
unfolding head_link
returns c =
    let three = c.mixed-h.ensures.0 in
    let two = c.mixed-2.ensures.0 in
    let one = c.mixed.ensures.0 in
    (rw (three, two, one), rw (three, two, one) (head_below c.args.n c.args.key c.requires.0))
