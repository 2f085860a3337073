-- `float_order::is_nearer`: by what the comparison answers; a NaN is nearer than nothing, and nothing than a NaN. Assumes nothing.
use mathlib.Core.Path.{◌≡◌, sym, subst}
use mathlib.Core.Bool.{true, false, ◌||◌, true≢false}
use lib.Dec.{T}
use lib.Ieee.{Float, nan, inf, fin, binary32, fits, is_nan}
use Rattle.float_order.specs.Nearer.{nearer}
use Rattle.float_order.proofs.Nearer.{nan_nearer, nearer_nan}
use Rattle.float_order.proofs.is_nearer.Goals as goal

-- of a NaN and another value either way round
no_number : (a b : Float) → T (fits binary32 b) → (is_nan b || is_nan a) ≡ true → false ≡ nearer a b
unfolding is_nan
no_number nan b f h = sym (nan_nearer b f)
no_number (inf s) nan f h = sym (nearer_nan (inf s))
no_number (inf s) (inf t) f h = absurd (true≢false (sym h))
no_number (inf s) (fin t m e) f h = absurd (true≢false (sym h))
no_number (fin s m e) nan f h = sym (nearer_nan (fin s m e))
no_number (fin s m e) (inf t) f h = absurd (true≢false (sym h))
no_number (fin s m e) (fin t n d) f h = absurd (true≢false (sym h))

pub returns-then-is_nan : goal.returns-then-is_nan
returns-then-is_nan c =
    no_number c.args.a c.args.b (subst T (sym c.well_formed.1.0.1) tt)
    (rw (c.is_nan.ensures.value, c.is_nan-2.ensures.value) at c.if-is_nan.true)
