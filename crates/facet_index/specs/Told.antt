-- What a yes or no tells. Definitions only.
use Rattle.std.specs.Prelude.{Bool, true, false}

-- true where A holds, and false where it does not
unfoldable pub Tells : Bool → Type 0 → Type 0
Tells true A = A
Tells false A = A → ⊥
