-- Three numbers that are compared together. Definitions only.
use Rattle.std.specs.Prelude.{Bool, ◌&&◌, eqb}
use Rattle.tidy.specs.declared.ThreeWords.{ThreeWords}

-- all three agree
unfoldable pub same_words : ThreeWords → ThreeWords → Bool
same_words x y = eqb x.a y.a && eqb x.b y.b && eqb x.c y.c
