-- `facet_calls::facet_cells`: each return by the tests that led there (`no_facet`, `starts_fall`, `beyond`, `the_part`). Assumes nothing.
use native.Mathlib.Omega.{arith}
use Prim.Native.Nat.{◌+◌}
use mathlib.Core.Path.{sym}
use Rattle.facet_index.proofs.Asked.{no_facet, starts_fall, beyond, the_part, answers}
use Rattle.facet_calls.proofs.facet_cells.Goals as goal

-- there is no such facet
pub returns-then-starts-k : goal.returns-then-starts-k
returns-then-starts-k c =
    answers _ _ _ (sym (no_facet _ _ c.if-starts-k.true))

pub overflow_cast-from : goal.overflow_cast-from
overflow_cast-from c = omega (arith, c.type_inv.starts c.args.facet)

pub overflow_cast-to : goal.overflow_cast-to
overflow_cast-to c = omega (arith, c.type_inv.starts (c.args.facet + 1))

-- there is no such part
pub returns-then-to-from : goal.returns-then-to-from
returns-then-to-from c =
    answers _ _ _ (sym (starts_fall _ _ c.if-starts-k.false c.if-to-from.true))

pub returns-then-list-to : goal.returns-then-list-to
returns-then-list-to c =
    answers _ _ _ (sym (beyond _ _ c.if-starts-k.false c.if-to-from.false c.if-list-to.true))

-- the part
pub returns : goal.returns
returns c =
    answers _ _ _ (sym (the_part _ _ c.if-starts-k.false c.if-to-from.false c.if-list-to.false))
