-- What a search for a vertex says of its first. Assumes nothing.
use Prim.Native.Nat.{ℕ, ◌*◌, ◌<◌}
use mathlib.Core.Path.{◌≡◌, sym, ◌∙◌}
use mathlib.Core.List.{List}
use lib.ListN.{length, length-map}
use lib.Ieee.{Float, binary32, to_bits}
use Rattle.picks.proofs.Picks.{least_none, least_is}
use Rattle.tidy.specs.Same.{same_words}
use Rattle.tidy.specs.Tidy.{vertex_bits}
use Rattle.tidy.proofs.Kept.{fails}
use Rattle.tidy.proofs.Same.{same_eq, eq_same}
use Rattle.tidy_search.specs.Links.{FirstOfKey}
use Rattle.tidy_firsts.specs.Firsts.{first_in, ReadyForVertex}

-- the row has three links for each vertex
pub long : {vs links : List Float} {n v : ℕ} → ReadyForVertex vs n v links → length links ≡ 3 * n
long {links = links} r = sym (length-map links (to_bits binary32)) ∙ r.entered.long

-- a vertex whose bits none before it has is its own first
pub first_new : (vs : List Float) (v : ℕ) → FirstOfKey (vertex_bits vs) v → first_in vs v ≡ v
first_new vs v f =
    least_none (λ w. same_words (vertex_bits vs w) (vertex_bits vs v)) v
    (λ w l. fails (same_words (vertex_bits vs w) (vertex_bits vs v)) (λ h. f w l (same_eq (vertex_bits vs w) (vertex_bits vs v) h)))

-- and one with the bits of an earlier w, which is its own first, has w
pub first_old : (vs : List Float) (v w : ℕ) → w < v → vertex_bits vs w ≡ vertex_bits vs v → FirstOfKey (vertex_bits vs) w → first_in vs v ≡ w
first_old vs v w l e f =
    least_is (λ u. same_words (vertex_bits vs u) (vertex_bits vs v)) v w l (eq_same (vertex_bits vs w) (vertex_bits vs v) e)
    (λ u h. fails (same_words (vertex_bits vs u) (vertex_bits vs v)) (λ g. f u h (same_eq (vertex_bits vs u) (vertex_bits vs v) g ∙ sym e)))
