-- `float_floor::floor_from_zero`: below 2 ^ 63 the truncated value is the floor, and from there on the floor is the end of the range
-- (`proofs/Floors.antt`). Assumes nothing.
use Rattle.std.proofs.Common.{pos, sym, ap, ◌∙◌, arith, lit<, lit≤}
use Rattle.float_floor.proofs.Floors.{Truncates, end_is, truncates, from}
use Rattle.float_floor.proofs.floor_from_zero.Goals as goal
use Rattle.float_floor.proofs.floor_from_zero.Goals.{Then-x}

range : (c : Then-x) → Truncates c.args.x
range c = truncates end_is (lit≤ tt) c.args.x c.requires c.if-x.true

pub truncating_f32_to_u64-requires : goal.truncating_f32_to_u64-requires
truncating_f32_to_u64-requires c = record { lower_bound = (range c).low; upper_bound = (range c).high }

pub returns-then-x : goal.returns-then-x
returns-then-x c = (rw c.truncating_f32_to_u64.ensures (range (search)).small, sym (ap pos c.truncating_f32_to_u64.ensures ∙ (range (search)).is))

pub returns : goal.returns
returns c = let p = from end_is (lit≤ tt) c.args.x c.requires c.if-x.false in (lit< tt, p.is ∙ ap pos (omega (arith, p.least)))
