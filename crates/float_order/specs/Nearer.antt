-- "compare_distances in full for what a cell takes" (document 02, §8): when one distance is nearer than another. And two numbers that
-- stand for a distance: its key, by which the queue orders, and its height, by which the proofs do. Definitions only.
use Rattle.std.specs.Prelude.{ℕ, ◌+◌, ◌*◌, ◌^◌, Bool, true, false, Float, if◌then◌else◌}
use Rattle.std.specs.Float.{binary32}
use Rattle.std.specs.Float.Ieee.{of_bits, to_bits}
use Rattle.float.specs.Steps.{abs_of, sign_bit}
use Rattle.lists.specs.Range.{count_below}
use Rattle.float_order.specs.Compare.{order}
use Rattle.std.specs.declared.cmp.Ordering.{Ordering}
use Rattle.std.specs.declared.cmp.Ordering.TheVariants.{Less, Equal, Greater}

abbrev pub is_less : Ordering → Bool
is_less Less = true
is_less Equal = false
is_less Greater = false

-- a compared with b is less. A NaN is nearer than nothing, and nothing than a NaN (`nearer_nan`, proofs/Nearer.antt)
unfoldable pub nearer : Float → Float → Bool
nearer a b = is_less (order a b)

-- "magnitude, then positive first": of two keys the smaller has the smaller magnitude, and of one magnitude the positive value has the smaller
unfoldable pub key_of : Float → ℕ
key_of d = 2 * to_bits binary32 (abs_of d) + (if sign_bit d then 1 else 0)

-- how many values of binary32 are nearer. No one works it out: it orders as `nearer` does, in whole numbers (`height_less`, `height_not_less`)
unfoldable pub height : Float → ℕ
height d = count_below (λ p. nearer (of_bits binary32 p) d) (2 ^ 32)
