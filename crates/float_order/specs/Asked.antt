-- "Asked by itself, .. the comparison answers 6 for a NaN." (document 01). Definitions only.
use Rattle.std.specs.Prelude.{ℕ, ◌≡◌, ◌||◌, Float, Result, Ok, Err, if◌then◌else◌}
use Rattle.std.proofs.Math.Option.{Option, none, some}
use Rattle.std.specs.Float.Ieee.{is_nan}
use Rattle.float_order.specs.Compare.{order}
use Rattle.std.specs.declared.cmp.Ordering.{Ordering}
use Rattle.refusals.specs.Numbers.{number_of}
use Rattle.refusals.specs.declared.Refusal.{Refusal}

-- document 01's number for each answer, and the order that it gives: a refusal gives none
abbrev pub compared_number : Result Ordering Refusal → ℕ
compared_number (Ok o) = 0
compared_number (Err r) = number_of r

abbrev pub compared_order : Result Ordering Refusal → Option Ordering
compared_order (Ok o) = some o
compared_order (Err r) = none

-- r answers for a and b: 6 and no order where either is a NaN, else 0 and the order of the two
pub record Compared (a b : Float) (r : Result Ordering Refusal) : Type 0 where
  pub number : compared_number r ≡ (if is_nan a || is_nan b then 6 else 0)
  pub value : compared_order r ≡ (if is_nan a || is_nan b then none else some (order a b))
