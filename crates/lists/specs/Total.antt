-- A test that orders the values of a type, whichever they are. Definitions only.
use Rattle.std.specs.Prelude.{◌≡◌, Bool, true, false}

-- `le x y` says that x goes no later than y: of two, one goes no later than the other; what goes no later goes no later on; and only one
-- and the same tie
pub record Total {A : Type 0} (le : A → A → Bool) : Type 0 where
  pub total : (x y : A) → le x y ≡ false → le y x ≡ true
  pub trans : (x y z : A) → le x y ≡ true → le y z ≡ true → le x z ≡ true
  pub antisym : (x y : A) → le x y ≡ true → le y x ≡ true → x ≡ y
