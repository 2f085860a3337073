-- `cell_batch`: the test is the definition's, and the entry is what the cell holds. Assumes nothing.
use Prim.Native.Nat.{ℕ}
use mathlib.Core.Path.{refl, ap}
use lib.ListN.{get_or}
use Rattle.run.proofs.Ways.{less_no_nan}
use Rattle.entries_batch.proofs.Cells.{cell_none, cell_one}
use Rattle.entries_batch.proofs.cell_batch.Goals as goal

pub key_of-requires : goal.key_of-requires
key_of-requires c = less_no_nan _ _ c.if-d.true

pub returns-then-d : goal.returns-then-d
returns-then-d c =
    let a = c.args in
    cell_one a.field.now a.names.now a.c _ refl c.if-d.true refl
    (ap (λ (key : ℕ). record { distance = key; cell = a.c; triangle = get_or a.names.now a.c 0 }) c.key_of.ensures)

pub returns : goal.returns
returns c =
    cell_none c.args.field.now c.args.names.now c.args.c _ refl c.if-d.false refl
