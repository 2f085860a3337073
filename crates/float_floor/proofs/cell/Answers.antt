-- `float_floor::cell`: each return by the tests that led there (`proofs/Floors.antt`). Assumes nothing.
use Rattle.std.proofs.Common.{◌≡◌, ℕ, ◌-◌, Bool, true, false, pos, ap, ◌∙◌, arith, lit≤}
use Rattle.float_floor.specs.Cell.{cell_of, outside, Snapped}
use Rattle.float_floor.proofs.Floors.{Truncates, most_is, truncates, inside, after, no_row, past_every_row, before_every_row}
use Rattle.float_floor.proofs.cell.Goals as goal
use Rattle.float_floor.proofs.cell.Goals.{After-wide, Then-q-2}

range : (c : Then-q-2) → Truncates c.args.q
range c = truncates most_is (lit≤ tt) c.args.q c.if-q.true c.if-q-2.true

-- the truncated value is the floor
floor_at_lem : (c : After-wide) (i : ℕ) (b : Bool) →
    let a = c.args in
    let floor = pos c.truncating_f32_to_u64-k.result in
    (i ≡ cell_of a.count floor) × (b ≡ outside a.count floor) → Snapped a.count a.q i b
floor_at_lem c i b h =
    let n = c.args.count in
    let e = ap pos c.truncating_f32_to_u64-k.ensures ∙ (range (search)).is in
    record { at = h.0 ∙ ap (cell_of n) e; past = h.1 ∙ ap (outside n) e }

pub returns-then-count-eq0 : goal.returns-then-count-eq0
returns-then-count-eq0 c = no_row _ _ c.if-count-eq0.true

pub truncating_f32_to_u64-k-requires : goal.truncating_f32_to_u64-k-requires
truncating_f32_to_u64-k-requires c = record { lower_bound = (range c).low; upper_bound = (range c).high }

pub returns-then-k-wide : goal.returns-then-k-wide
returns-then-k-wide c =
    floor_at_lem (search) _ false (inside c.args.count c.truncating_f32_to_u64-k.result (omega arith))

pub returns-then-q-2 : goal.returns-then-q-2
returns-then-q-2 c =
    let n = c.args.count in
    floor_at_lem (search) (n - 1) true (after n c.truncating_f32_to_u64-k.result (omega arith))

pub returns-then-q : goal.returns-then-q
returns-then-q c = past_every_row _ _ c.ranges.count.fits c.if-q.true c.if-q-2.false

pub returns : goal.returns
returns c = before_every_row _ c.args.count (omega arith) c.if-q.false
