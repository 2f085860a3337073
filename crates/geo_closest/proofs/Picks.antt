-- A result that is one side of a pick whose test is known. (`rw` with a test that is a field would rewrite that field wherever its
-- record stands.) Assumes nothing.
use mathlib.Core.Path.{◌≡◌}
use mathlib.Core.Bool.{Bool, true, false, cond}

pub picked : {A : Type 0} {t : Bool} {r x : A} (y : A) → t ≡ true → r ≡ x → r ≡ cond t x y
picked y e h = rw e h

pub passed : {A : Type 0} {t : Bool} {r y : A} (x : A) → t ≡ false → r ≡ y → r ≡ cond t x y
passed x e h = rw e h
