-- `tidy_firsts::place`: the invariant is that the search has come to the link and knows what it holds; each next link lies behind the
-- last. Assumes nothing.
use native.Mathlib.Omega.{arith}
use mathlib.Core.Path.{ap, ◌∙◌}
use Rattle.tidy.proofs.Same.{same_told}
use Rattle.tidy_search.specs.Links.{head_link}
use Rattle.tidy_search.proofs.Search.{search_begins, search_ended, search_named, search_found, search_on, search_behind}
use Rattle.tidy_firsts.proofs.Firsts.{long}
use Rattle.tidy_firsts.proofs.place.Goals as goal

pub bits_at-key-requires : goal.bits_at-key-requires
bits_at-key-requires c =
    omega (arith, c.requires.three, c.requires.next)

pub head-at-requires : goal.head-at-requires
head-at-requires c =
    (omega (arith, c.requires.next), omega (arith, c.requires.few))

pub number_at-held-requires : goal.number_at-held-requires
number_at-held-requires c =
    omega (arith, long c.requires, c.head-at.ensures.1)

pub loop-held-init : goal.loop-held-init
loop-held-init c =
    search_begins c.bits_at-key.ensures (c.head-at.ensures.0 ∙ ap (head_link c.args.n) c.bits_at-key.ensures) c.head-at.ensures.1
    c.number_at-held.ensures

pub overflow_cast-w : goal.overflow_cast-w
overflow_cast-w c =
    omega (arith, (search_named c.loop-held.invariant c.loop-held-test.true c.requires.entered).earlier, c.requires.next, c.requires.few)

pub bits_at-other-requires : goal.bits_at-other-requires
bits_at-other-requires c =
    omega (arith, (search_named c.loop-held.invariant c.loop-held-test.true c.requires.entered).earlier, c.requires.next, c.requires.three)

pub returns-then-eq : goal.returns-then-eq
returns-then-eq c =
    search_found c.loop-held.invariant c.loop-held-test.true (same_told c.eq.ensures c.bits_at-other.ensures c.bits_at-key.ensures ∙ c.if-eq.true)

pub link-at-requires : goal.link-at-requires
link-at-requires c =
    (omega (arith, c.requires.few), omega (arith, (search_named c.loop-held.invariant c.loop-held-test.true c.requires.entered).earlier, c.requires.next))

pub number_at-held-requires-in-loop-held : goal.number_at-held-requires-in-loop-held
number_at-held-requires-in-loop-held c =
    omega (arith, long c.requires, c.link-at.ensures.1)

pub loop-held-smaller : goal.loop-held-smaller
loop-held-smaller c =
    let b = search_behind c.loop-held.rest (search_named c.loop-held.invariant c.loop-held-test.true c.requires.entered) c.link-at.ensures.0 in
    omega (arith, c.link-at.ensures.1)

pub loop-held-preserved : goal.loop-held-preserved
loop-held-preserved c =
    search_on c.loop-held.invariant c.loop-held-test.true (same_told c.eq.ensures c.bits_at-other.ensures c.bits_at-key.ensures ∙ c.if-eq.false)
    c.turn-rest.ensures c.link-at.ensures.0 c.link-at.ensures.1 c.number_at-held-in-loop-held.ensures

pub returns : goal.returns
returns c = search_ended c.loop-held.invariant c.loop-held-test.false
