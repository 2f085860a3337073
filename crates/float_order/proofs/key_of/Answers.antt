-- `float_order::key_of`: the pattern's parts are the key's. Assumes nothing.
use native.Mathlib.Omega.{arith}
use mathlib.Core.Path.{sym, subst}
use lib.Dec.{T}
use Rattle.float_order.specs.Total.{Value}
use Rattle.float_order.proofs.Keys.{key_is, key_small}
use Rattle.float_order.proofs.key_of.Goals as goal
use Rattle.float_order.proofs.key_of.Goals.{Start}

abbrev value : Start → Value
value c = record { float = c.args.d; held = subst T (sym c.well_formed.0.1) tt; number = c.requires }

pub overflow_add-result : goal.overflow_add-result
overflow_add-result c = record { fits = omega (arith, key_is (value c), key_small (value c)) }

pub returns : goal.returns
returns c = key_is (value c)
