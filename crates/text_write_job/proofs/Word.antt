-- One of some words is put, the one that a value is written by: its text stands there, in no more room than the longest takes. Assumes nothing.
use Prim.Native.Nat.{ℕ, ◌+◌, ◌≤◌}
use native.Mathlib.Omega.{arith}
use mathlib.Core.Path.{◌≡◌, refl, sym}
use mathlib.Core.List.{List}
use lib.ListN.{length}
use Rattle.lists.specs.Put.{Put}
use Rattle.lists.proofs.Puts.{said}

pub word_put : {old new word : List ℕ} {at next : ℕ} (text : List ℕ) (most : ℕ)
    → text ≡ word
    → length word ≤ most
    → Put old at word new next
    → Put old at text new next × (next ≤ at + most)
word_put text most e few p = (said (sym e) refl p, omega (arith, p.next))
