-- How long the pieces of a file are: the nine numbers of a record, a word's four bytes, the record of nine numbers. Assumes nothing.
use Prim.Native.Nat.{ℕ}
use native.Mathlib.Omega.{arith}
use mathlib.Core.Path.{◌≡◌, refl, ◌∙◌}
use mathlib.Core.List.{List}
use lib.ListN.{length, get_or, replicate, length-map, length-append}
use lib.Ieee.{binary32, of_bits}
use Rattle.lists.specs.Joined.{joined}
use Rattle.lists.proofs.Table.{length_table}
use Rattle.lists.proofs.Joined.{length_joined}
use Rattle.float_bits.specs.Patterns.{floats_of}
use Rattle.stl.specs.File.{bytes_of, nine_of, record_of}

pub corners_long : (facet : List ℕ) → length (nine_of facet) ≡ 9
unfolding nine_of
corners_long facet = length_table _ 9

pub floats_long : (facet : List ℕ) → length (floats_of (nine_of facet)) ≡ 9
floats_long facet = length-map (nine_of facet) (of_bits binary32) ∙ corners_long facet

pub word_long : (w : ℕ) → length (bytes_of w) ≡ 4
unfolding bytes_of
word_long w = refl

pub record_long : (corners : List ℕ) → length (record_of corners) ≡ 50
unfolding record_of
record_long corners =
    let numbers : ℕ → List ℕ = λ i. bytes_of (get_or corners i 0) in
    omega (arith, length-append (joined numbers 9) (replicate 2 0), length_joined numbers 4 (λ i. word_long (get_or corners i 0)) 9)
