-- `float_shortcut::signed_root`: the root of the magnitude, by the sign bit. Assumes nothing.
use Rattle.std.proofs.Common.{◌≡◌, Bool, true, false, cond, T, sym, ap, ◌∙◌, subst}
use lib.Ieee.{Float, neg}
use Rattle.float.specs.RootOf.{root_of}
use Rattle.float.specs.Steps.{abs_of, sign_bit}
use Rattle.float_shortcut.specs.Shown.{signed_root}
use Rattle.float_shortcut.proofs.Signed.{unsigned_root, above_bare}
use Rattle.float_shortcut.proofs.signed_root.Goals as goal
use Rattle.float_shortcut.proofs.signed_root.Goals.{After-sign_bit}

-- where the root is known, and the sign bit
by_sign : (q r : Float) (s : Bool) → r ≡ root_of (abs_of q) → s ≡ sign_bit q → cond s (neg r) r ≡ signed_root q
unfolding signed_root
by_sign q r s e f = rw (e, f)

root : (c : After-sign_bit) → c.sqrt-root.result ≡ root_of (abs_of c.args.q)
root c = c.sqrt-root.ensures.is ∙ ap root_of c.abs.ensures

-- above 0 it is the root itself
pub returns-then-q : goal.returns-then-q
returns-then-q c =
    c.sqrt.ensures.is ∙ sym (unsigned_root c.args.q (above_bare c.args.q (subst T (sym c.well_formed.0.1) tt) c.if-q.true))

pub returns-then-sign_bit : goal.returns-then-sign_bit
returns-then-sign_bit c = by_sign _ _ true (root (search)) (sym c.if-sign_bit.true ∙ c.sign_bit.ensures)

pub returns-else-sign_bit : goal.returns-else-sign_bit
returns-else-sign_bit c = by_sign _ _ false (root (search)) (sym c.if-sign_bit.false ∙ c.sign_bit.ensures)
