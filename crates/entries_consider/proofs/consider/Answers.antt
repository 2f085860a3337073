-- `consider`: the tests on the index, on the square and on the root are those of an offer. Assumes nothing.
use Prim.Native.Nat.{◌<◌}
use native.Mathlib.Omega.{arith}
use lib.ListN.{length}
use mathlib.Core.Path.{sym, ap, ◌∙◌, subst}
use lib.Dec.{T}
use lib.Ieee.{binary32, fits, is_nan}
use Rattle.float_shortcut.proofs.Signed.{signed_nan}
use Rattle.run.proofs.Ways.{is_number, no_nan, told_nearer}
use Rattle.entries_consider.proofs.Considers.{was_off, was_nan, was_passed, was_taken}
use Rattle.entries_consider.proofs.consider.Goals as goal
use Rattle.entries_consider.proofs.consider.Goals.{Start}

-- the square is a float of the field's kind
single : (c : Start) → T (fits binary32 c.args.q)
single c = subst T (sym c.well_formed.1.1.1.1.0.1) tt

pub returns-then-to-eq-NOWHERE : goal.returns-then-to-eq-NOWHERE
returns-then-to-eq-NOWHERE c = was_off _ _ _ _ _ c.if-to-eq-NOWHERE.true

pub bounds-field-i : goal.bounds-field-i
bounds-field-i c =
    c.requires.below c.if-to-eq-NOWHERE.false

-- the square shows that the triangle is no nearer
pub returns-then-not_nearer : goal.returns-then-not_nearer
returns-then-not_nearer c =
    let shown = c.not_nearer.ensures in
    was_passed _ _ _ _ _ c.if-to-eq-NOWHERE.false (single (goal.at.returns-then-not_nearer c).Start) (shown.number c.if-not_nearer.true) (shown.not_nearer c.if-not_nearer.true)

pub returns-then-q : goal.returns-then-q
returns-then-q c =
    was_nan _ _ _ _ _ c.if-to-eq-NOWHERE.false (single (goal.at.returns-then-q c).Start) c.if-q.true

pub bounds-field-i-then-is_nearer : goal.bounds-field-i-then-is_nearer
bounds-field-i-then-is_nearer c =
    c.requires.below c.if-to-eq-NOWHERE.false

pub bounds-names-i : goal.bounds-names-i
bounds-names-i c =
    let below : c.args.to < length c.args.field.now = c.requires.below c.if-to-eq-NOWHERE.false in
    omega (arith, below, c.requires.even)

-- what is nearer is a number
pub key_of-requires : goal.key_of-requires
key_of-requires c =
    no_nan _ (ap is_nan c.signed_root-d.ensures ∙ signed_nan c.args.q (single (goal.at.key_of-requires c).Start) ∙ is_number c.args.q c.if-q.false)

pub returns-then-is_nearer : goal.returns-then-is_nearer
returns-then-is_nearer c =
    was_taken _ _ _ _ _ c.if-to-eq-NOWHERE.false (single (goal.at.returns-then-is_nearer c).Start) c.if-q.false c.signed_root-d.ensures
    (sym c.is_nearer.ensures ∙ c.if-is_nearer.true) c.key_of.ensures

pub returns : goal.returns
returns c =
    let not_nearer = told_nearer _ c.signed_root-d.ensures c.is_nearer.ensures c.if-is_nearer.false in
    was_passed _ _ _ _ _ c.if-to-eq-NOWHERE.false (single (goal.at.returns c).Start) (is_number c.args.q c.if-q.false) not_nearer
