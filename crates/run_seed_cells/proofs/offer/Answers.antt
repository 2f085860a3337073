-- `run_seed_cells::offer`: each return is one of the three ways of an offer. Assumes nothing.
use mathlib.Core.Path.{◌≡◌, sym, subst}
use lib.ListN.{get_or, set}
use lib.Dec.{T}
use lib.Ieee.{Float, nan, binary32, fits}
use Rattle.float_shortcut.specs.Shown.{signed_root}
use Rattle.lists.specs.Turns.{told}
use Rattle.run.specs.Run.{offer_at, nothing_else}
use Rattle.run.proofs.Ways.{is_number, told_nearer}
use Rattle.run_seed_cells.specs.Parts.{seed_state}
use Rattle.run_seed_cells.proofs.Offers.{refused, passed, took}
use Rattle.run_seed_cells.proofs.offer.Goals as goal
use Rattle.run_seed_cells.proofs.offer.Goals.{Start}

-- the square is a float of the field's kind
single : (c : Start) → T (fits binary32 c.args.q)
single c = subst T (sym c.well_formed.1.1.1.1.0.1) tt

-- the square shows that the triangle is no nearer
pub returns-then-not_nearer : goal.returns-then-not_nearer
returns-then-not_nearer c =
    let shown = c.not_nearer.ensures in
    passed c.args.field.now c.args.names.now c.args.c c.args.k c.args.q (single (goal.at.returns-then-not_nearer c).Start) (shown.number c.if-not_nearer.true) (shown.not_nearer c.if-not_nearer.true)

pub returns-then-q : goal.returns-then-q
returns-then-q c =
    refused c.args.field.now c.args.names.now c.args.c c.args.k c.args.q (single (goal.at.returns-then-q c).Start) c.if-q.true

pub returns-then-is_nearer : goal.returns-then-is_nearer
returns-then-is_nearer c =
    let field = c.args.field.now in
    let is = c.signed_root-d.ensures in
    subst
    (λ (d : Float).
    offer_at nothing_else c.args.k c.args.c (signed_root c.args.q) (seed_state field c.args.names.now)
    ≡ told 0 (seed_state (set field c.args.c d) (set c.args.names.now c.args.c c.args.k)))
    (sym is)
    (took field c.args.names.now c.args.c c.args.k c.args.q (single (goal.at.returns-then-is_nearer c).Start) c.if-q.false
    (told_nearer (get_or field c.args.c nan) is c.is_nearer.ensures c.if-is_nearer.true))

pub returns : goal.returns
returns c =
    let field = c.args.field.now in
    passed field c.args.names.now c.args.c c.args.k c.args.q (single (goal.at.returns c).Start) (is_number c.args.q c.if-q.false)
    (told_nearer (get_or field c.args.c nan) c.signed_root-d.ensures c.is_nearer.ensures c.if-is_nearer.false)
