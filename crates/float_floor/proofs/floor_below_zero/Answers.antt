-- `float_floor::floor_below_zero`: each return by the tests that led there (`proofs/BelowZero.antt`). Assumes nothing.
use Rattle.std.proofs.Common.{◌≡◌, ◌-◌, ◌<◌, ◌≤◌, T, negsuc, sym, subst, arith, lit<}
use lib.Ieee.{binary32, fits, neg}
use Rattle.float_floor.specs.Cell.{floor_of}
use Rattle.float_floor.proofs.Floors.{Truncates}
use Rattle.float_floor.proofs.BelowZero.{Cut, cut, cut_lt, truncated, at_the_end, with_fraction, without_fraction, no_digit_left}
use Rattle.float_floor.proofs.floor_below_zero.Goals as goal
use Rattle.float_floor.proofs.floor_below_zero.Goals.{After-truncating_f32_to_u64-k, Else-k-size, Then-k-ge16777216, Then-size}

range : (c : Then-size) → Truncates (neg c.args.x)
range c = truncated c.args.x c.requires c.if-size.true

-- the truncated value is the whole part of the size
whole : (c : After-truncating_f32_to_u64-k) → Cut c.args.x c.truncating_f32_to_u64-k.result
whole c =
    subst (Cut c.args.x) (sym c.truncating_f32_to_u64-k.ensures) (cut c.args.x c.requires c.if-size.true)

held : (c : Then-k-ge16777216) → T (fits binary32 c.args.x)
held c = subst T (sym c.well_formed.0.1) tt

-- no fraction is left
last : (c : Else-k-size) → let k = c.truncating_f32_to_u64-k.result in (1 ≤ k) × (floor_of c.args.x ≡ negsuc (k - 1))
last c = without_fraction (whole (search)) (omega arith) c.if-k-size.false

pub truncating_f32_to_u64-k-requires : goal.truncating_f32_to_u64-k-requires
truncating_f32_to_u64-k-requires c = record { lower_bound = (range c).low; upper_bound = (range c).high }

pub returns-then-k-ge16777216 : goal.returns-then-k-ge16777216
returns-then-k-ge16777216 c = let w = whole (search) in (omega (arith, cut_lt w), no_digit_left (held c) w c.if-k-ge16777216.true)

pub returns-then-k-size : goal.returns-then-k-size
returns-then-k-size c = let w = whole (search) in (cut_lt w, with_fraction w (omega arith) c.if-k-size.true)

pub overflow_sub-result-then-size : goal.overflow_sub-result-then-size
overflow_sub-result-then-size c = (last c).0

pub returns-then-size : goal.returns-then-size
returns-then-size c = (omega (arith, cut_lt (whole (search))), (last c).1)

pub returns : goal.returns
returns c = (lit< tt, at_the_end c.args.x c.requires c.if-size.false)
