-- A row of floats by its bits: what stands at a place, and what a store leaves there. Assumes nothing.
use Prim.Native.Nat.{ℕ, zero, suc, ◌^◌, ◌<◌}
use native.Mathlib.Omega.{arith}
use mathlib.Core.Path.{◌≡◌, refl, ap, ◌∙◌, subst}
use mathlib.Core.Bool.{Bool, not}
use mathlib.Core.List.{List, [], ◌∷◌, map}
use lib.Dec.{T}
use lib.ListN.{length, get_or, set, length-map, replicate, get_or-map}
use lib.Ieee.{Float, binary32, of_bits, to_bits}
use lib.Ieee.Bits.{to_bits-of_bits, nan_bits_is}
use Rattle.lists.proofs.Table.{get_d_any, map_replicate}
use Rattle.float_bits.specs.Patterns.{bits_of}
use Rattle.float_bits.proofs.Patterns.{no_nan}

pub bits_at : (xs : List Float) (i : ℕ) (d : Float) → i < length xs → get_or (bits_of xs) i 0 ≡ to_bits binary32 (get_or xs i d)
bits_at xs i d h =
    get_d_any (bits_of xs) i 0 (to_bits binary32 d) (rw (length-map xs (to_bits binary32)) h) ∙ get_or-map (to_bits binary32) xs i d

map_set : {A B : Type 0} (f : A → B) (l : List A) (i : ℕ) (a : A) → map f (set l i a) ≡ set (map f l) i (f a)
map_set f [] i a = refl
map_set f (x ∷ l) zero a = refl
map_set {B = B} f (x ∷ l) (suc i) a = ap (λ (r : List B). f x ∷ r) (map_set f l i a)

-- a number below 2 ^ 23 is a float's bits
pub small : (x : ℕ) → x < 2 ^ 23 → to_bits binary32 (of_bits binary32 x) ≡ x
small x h = to_bits-of_bits binary32 x (omega arith) (subst (λ (b : Bool). T (not b)) (nan_bits_is binary32 x) (no_nan x (omega arith)))

pub bits_set : (xs : List Float) (i x : ℕ) (y : Float) → y ≡ of_bits binary32 x → x < 2 ^ 23 → bits_of (set xs i y) ≡ set (bits_of xs) i x
bits_set xs i x y e h = map_set (to_bits binary32) xs i y ∙ ap (set (bits_of xs) i) (ap (to_bits binary32) e ∙ small x h)

-- zeros are kept as +0
pub zeros_bits : (n : ℕ) → bits_of (replicate n (of_bits binary32 0)) ≡ replicate n 0
zeros_bits n = map_replicate (to_bits binary32) n (of_bits binary32 0) ∙ ap (replicate n) (small 0 (omega arith))
