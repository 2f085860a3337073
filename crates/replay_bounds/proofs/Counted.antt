-- Of a list that is long enough the first n elements are n. Assumes nothing.
use Prim.Native.Nat.{ℕ, ◌≤◌}
use mathlib.Core.Path.{sym}
use mathlib.Core.List.{List}
use lib.ListN.{length}
use lib.Seq.{length-take-le}
use Rattle.replay_bounds.specs.Counts.{Counts}

pub counted : {A : Type 0} (n : ℕ) (xs : List A) → n ≤ length xs → Counts n xs
counted n xs h = (h, sym (length-take-le n xs h))
