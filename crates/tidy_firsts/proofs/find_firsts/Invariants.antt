-- `tidy_firsts::find_firsts`: the invariant is that the vertices below v are entered and have their firsts. Assumes nothing.
use Prim.Native.Nat.{ℕ}
use mathlib.Core.List.{List}
use lib.Ieee.{Float}
use Rattle.lists.specs.Table.{Filled}
use Rattle.tidy_firsts.specs.Firsts.{first_in, VerticesEntered}
use Rattle.tidy_firsts.proofs.find_firsts.Given as goal

pub record Found (vs : List Float) (n v : ℕ) (links : List Float) (firsts₀ firsts : List ℕ) : Type 0 where
  pub filled : Filled 0 (first_in vs) firsts₀ v firsts
  pub entered : VerticesEntered vs n v links

abbrev pub invariant-loop-v : goal.invariant-loop-v
invariant-loop-v l = Found l.vertices l.n l.v l.links l.initial.firsts l.firsts
