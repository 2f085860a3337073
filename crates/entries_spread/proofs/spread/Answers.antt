-- `entries_spread::spread`: a pop is counted, its entry taken, its offers made and its batch queued, which is a pop of the run; or the pops are spent. Assumes
-- nothing.
use native.Mathlib.Omega.{arith}
use mathlib.Core.Path.{◌∙◌}
use Rattle.run_pop.proofs.Pops.{first_known}
use Rattle.run_spread.proofs.Spreads.{spread_begins, spread_ends, spread_stops, spread_on, counted}
use Rattle.entries.proofs.Projections.{same_room}
use Rattle.entries_spread.proofs.Popping.{ends_spent, fewer, still_held, pop}
use Rattle.entries_spread.proofs.spread.Goals as goal

pub loop-run-init : goal.loop-run-init
loop-run-init c = spread_begins c.requires.3 c.requires.4 c.requires.1 c.requires.2

pub take-e-requires : goal.take-e-requires
take-e-requires c = let a = c.loop-run.invariant in (a.holds.held, c.loop-run-test.true, (a.states.good 0).apart)

pub offers-b-requires : goal.offers-b-requires
offers-b-requires c =
    let a = c.loop-run.invariant in
    (c.requires.0.ready, first_known c.loop-run.run a.states c.take-e.ensures, a.holds.field_long, a.holds.names_long)

pub push_all-run-requires : goal.push_all-run-requires
push_all-run-requires c =
    (still_held c.loop-run.invariant c.popped-run.ensures c.if-run-ne0.false c.take-e.ensures, c.if-run-ne0.false, c.offers-b.ensures.few)

pub loop-run-smaller : goal.loop-run-smaller
loop-run-smaller c =
    let a = c.loop-run.invariant in
    let z = c.if-run-ne0.false in
    let one = pop a c.popped-run.ensures z c.take-e.ensures c.requires.0 (same_room c.loop-run.row c.take-e.new.row c.take-e.auto.row) c.offers-b.auto.field c.offers-b.auto.names
    c.offers-b.ensures (c.push_all-run.ensures c.offers-b.new.field c.offers-b.new.names) in
    omega (arith, fewer a c.popped-run.ensures z, counted a c.loop-run-test.true one c.if-run-ne0-2.false)

pub loop-run-preserved : goal.loop-run-preserved
loop-run-preserved c =
    let a = c.loop-run.invariant in
    let z = c.if-run-ne0.false in
    let one = pop a c.popped-run.ensures z c.take-e.ensures c.requires.0 (same_room c.loop-run.row c.take-e.new.row c.take-e.auto.row) c.offers-b.auto.field c.offers-b.auto.names
    c.offers-b.ensures (c.push_all-run.ensures c.offers-b.new.field c.offers-b.new.names) in
    spread_on a c.loop-run-test.true one c.requires.0 (fewer a c.popped-run.ensures z)
    (same_room c.loop-run.row c.push_all-run.new.row (c.push_all-run.auto.row ∙ c.take-e.auto.row)) c.if-run-ne0-2.false

-- nothing waits
pub returns-after-loop-run : goal.returns-after-loop-run
returns-after-loop-run c = spread_ends c.loop-run.invariant c.loop-run-test.false

-- the pops are spent
pub returns-then-run-ne0 : goal.returns-then-run-ne0
returns-then-run-ne0 c = ends_spent c.loop-run.invariant c.popped-run.ensures c.loop-run-test.true c.if-run-ne0.true

-- the batch found no room, or was refused
pub returns-then-run-ne0-2 : goal.returns-then-run-ne0-2
returns-then-run-ne0-2 c =
    let a = c.loop-run.invariant in
    let z = c.if-run-ne0.false in
    let one = pop a c.popped-run.ensures z c.take-e.ensures c.requires.0 (same_room c.loop-run.row c.take-e.new.row c.take-e.auto.row) c.offers-b.auto.field c.offers-b.auto.names
    c.offers-b.ensures (c.push_all-run.ensures c.offers-b.new.field c.offers-b.new.names) in
    spread_stops a c.loop-run-test.true one (fewer a c.popped-run.ensures z) c.if-run-ne0-2.true
