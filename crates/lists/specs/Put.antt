-- How a function that writes into a lent slice tells what it wrote. Definitions only.
use Rattle.std.specs.Prelude.{ℕ, ◌+◌, ◌≡◌, List, ◌++◌, length, take, drop}

-- `what` was put into old at `at`, which gave new, and r is the place after it: what stood before and what stands after is as it was
pub record Put {A : Type 0} (old : List A) (at : ℕ) (what : List A) (new : List A) (r : ℕ) : Type 0 where
  pub next : r ≡ at + length what
  pub long : length new ≡ length old
  pub front : take r new ≡ take at old ++ what
  pub back : drop r new ≡ drop r old
