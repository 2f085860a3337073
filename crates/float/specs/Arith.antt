-- The arithmetic and the tests of binary32 by short names. "IEEE 754 binary32 decides every operation" (document 01): each of
-- these is one operation of the kit's `lib.Ieee`, rounded once. Definitions only.
use Rattle.std.specs.Prelude.{Bool, cond, Float}
use Rattle.std.specs.Float.Ieee as Ieee
use Rattle.std.specs.Float.{binary32}

infixl 6 ◌⊕◌ ◌⊖◌
infixl 7 ◌⊗◌ ◌⊘◌
infix 5 ◌≦◌ ◌≺◌ ◌≐◌
-- the sum, the difference, the product and the quotient, each rounded to nearest, ties to even
abbrev pub ◌⊕◌ : Float → Float → Float
x ⊕ y = Ieee.add binary32 x y

abbrev pub ◌⊖◌ : Float → Float → Float
x ⊖ y = Ieee.sub binary32 x y

abbrev pub ◌⊗◌ : Float → Float → Float
x ⊗ y = Ieee.mul binary32 x y

abbrev pub ◌⊘◌ : Float → Float → Float
x ⊘ y = Ieee.div binary32 x y

-- the tests `<=`, `<` and `==`: false where either side is a NaN, and -0 equals +0
abbrev pub ◌≦◌ : Float → Float → Bool
x ≦ y = Ieee.le x y

abbrev pub ◌≺◌ : Float → Float → Bool
x ≺ y = Ieee.lt x y

abbrev pub ◌≐◌ : Float → Float → Bool
x ≐ y = Ieee.eq x y

-- 0.0, 0.5 and 1.0
abbrev pub f0 : Float
f0 = Ieee.of_bits binary32 0x0000_0000

abbrev pub f½ : Float
f½ = Ieee.of_bits binary32 0x3f00_0000

abbrev pub f1 : Float
f1 = Ieee.of_bits binary32 0x3f80_0000

-- f32::MAX, the largest finite value
abbrev pub f_max : Float
f_max = Ieee.of_bits binary32 0x7f7f_ffff
