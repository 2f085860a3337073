-- The file of floats, put together of its head and its records: the patterns of a part are the part of the patterns. Assumes nothing.
use Prim.Native.Nat.{ℕ, zero, suc, ◌*◌, ◌/◌}
use mathlib.Core.Path.{◌≡◌, refl, sym, ap, ap₂, ◌∙◌}
use mathlib.Core.List.{List, [], ◌∷◌, ◌++◌, map}
use lib.ListN.{take, drop, length-map}
use lib.Ieee.{Float, binary32, to_bits}
use Rattle.lists.specs.Joined.{joined}
use Rattle.lists.proofs.Joined.{joined_same}
use Rattle.float_bits.specs.Patterns.{bits_of}
use Rattle.stl.specs.File.{head_of, record_of, nine_at, facets_in, stl_of}

module _ {A B : Type 0} (f : A → B) where
  map_take : (n : ℕ) (l : List A) → map f (take n l) ≡ take n (map f l)
  map_take zero l = refl
  map_take (suc n) [] = refl
  map_take (suc n) (x ∷ l) = ap (λ (r : List B). f x ∷ r) (map_take n l)

  map_drop : (n : ℕ) (l : List A) → map f (drop n l) ≡ drop n (map f l)
  map_drop zero l = refl
  map_drop (suc n) [] = refl
  map_drop (suc n) (x ∷ l) = map_drop n l

pub stl_of_floats : (xs : List Float) → head_of (facets_in xs) ++ joined (λ k. record_of (bits_of (nine_at xs k))) (facets_in xs) ≡ stl_of (bits_of xs)
unfolding stl_of
stl_of_floats xs =
    let n : facets_in xs ≡ facets_in (bits_of xs) = ap (λ (m : ℕ). m / 9) (sym (length-map xs (to_bits binary32))) in
    ap₂ (λ (a b : List ℕ). a ++ b) (ap head_of n)
    (joined_same _ _ _ (λ k h. ap record_of (map_take (to_bits binary32) 9 (drop (9 * k) xs) ∙ ap (take 9) (map_drop (to_bits binary32) (9 * k) xs))) ∙ ap (joined _) n)
