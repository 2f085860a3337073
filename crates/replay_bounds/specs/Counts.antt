-- n counts elements at the start of xs. The second part follows from the first, and stands here so that a slice `&xs[..n]` needs no
-- proof. Definitions only.
use Rattle.std.specs.Prelude.{ℕ, ◌≤◌, ◌≡◌, List, length, take}

abbrev pub Counts : {A : Type 0} → ℕ → List A → Type 0
Counts n xs = (n ≤ length xs) × (n ≡ length (take n xs))
