-- `offer`: the tests on the square and on the root are those of an offer. Assumes nothing.
use mathlib.Core.Path.{sym, ap, ◌∙◌, subst}
use lib.Dec.{T}
use lib.Ieee.{binary32, fits, is_nan}
use Rattle.float_shortcut.proofs.Signed.{signed_nan}
use Rattle.run.proofs.Ways.{is_number, no_nan, told_nearer}
use Rattle.run_offer.proofs.Offers.{offered_nan, offered_passed, offered_taken}
use Rattle.run_offer.proofs.offer.Goals as goal
use Rattle.run_offer.proofs.offer.Goals.{Start}

-- the square is a float of the field's kind
single : (c : Start) → T (fits binary32 c.args.q)
single c = subst T (sym c.well_formed.1.1.1.1.1.1.1.1.0.1) tt

-- the square shows that the triangle is no nearer
pub returns-then-not_nearer : goal.returns-then-not_nearer
returns-then-not_nearer c =
    let a = c.args in
    let shown = c.not_nearer.ensures in
    offered_passed a.at a.k a.c a.q (single (goal.at.returns-then-not_nearer c).Start) c.requires.held c.requires.number_value.0 (shown.number c.if-not_nearer.true) (shown.not_nearer c.if-not_nearer.true)

pub returns-then-q : goal.returns-then-q
returns-then-q c =
    let a = c.args in
    rw c.refused.ensures (offered_nan a.at a.k a.c a.q (single (goal.at.returns-then-q c).Start) c.requires.held c.if-q.true)

-- what is nearer is a number
pub key_of-distance-requires : goal.key_of-distance-requires
key_of-distance-requires c =
    no_nan _ (ap is_nan c.signed_root-d.ensures ∙ signed_nan c.args.q (single (goal.at.key_of-distance-requires c).Start) ∙ is_number c.args.q c.if-q.false)

pub returns-then-is_nearer : goal.returns-then-is_nearer
returns-then-is_nearer c =
    let a = c.args in
    let is-nearer = sym c.is_nearer.ensures ∙ c.if-is_nearer.true in
    offered_taken a.at a.k a.c a.q (single (goal.at.returns-then-is_nearer c).Start) c.if-q.false c.signed_root-d.ensures is-nearer c.key_of-distance.ensures c.enqueue.ensures

pub returns : goal.returns
returns c =
    let a = c.args in
    let not_nearer = told_nearer _ c.signed_root-d.ensures c.is_nearer.ensures c.if-is_nearer.false in
    offered_passed a.at a.k a.c a.q (single (goal.at.returns c).Start) c.requires.held c.requires.number_value.0 (is_number a.q c.if-q.false) not_nearer
