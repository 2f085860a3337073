-- "That comparison is a total order" (document 02 §8), over the values that are no NaN. Definitions only.
use Rattle.std.specs.Prelude.{Bool, true, false, not, T, Float}
use Rattle.std.specs.Float.{binary32}
use Rattle.std.specs.Float.Ieee.{fits, is_nan}
use Rattle.float_order.specs.Compare.{order}
use Rattle.std.specs.declared.cmp.Ordering.{Ordering}
use Rattle.std.specs.declared.cmp.Ordering.TheVariants.{Less, Equal, Greater}

-- a value of binary32 that is no NaN
pub record Value : Type 0 where
  pub float : Float
  pub held : T (fits binary32 float)
  pub number : T (not (is_nan float))

-- x goes first: it is less than y or equal to it
abbrev pub not_greater : Ordering → Bool
not_greater Less = true
not_greater Equal = true
not_greater Greater = false

abbrev pub not_after : Value → Value → Bool
not_after x y = not_greater (order x.float y.float)

-- the order the other way round
abbrev pub opposite : Ordering → Ordering
opposite Less = Greater
opposite Equal = Equal
opposite Greater = Less
