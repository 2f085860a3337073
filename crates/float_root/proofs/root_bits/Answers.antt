-- `float_root::root_bits`: `is_root`, at what the callees ensure, and that there is one root. Assumes nothing.
use mathlib.Core.Path.{◌≡◌, subst}
use Prim.Native.Nat.{ℕ, ◌+◌, ◌/◌, ◌%◌, ◌^◌, ◌<◌}
use native.Mathlib.Omega.{arith}
use lib.Ieee.{binary32, of_bits}
use Rattle.float.specs.Root.{NearestRoot}
use Rattle.float.specs.RootOf.{NearestTo}
use Rattle.float.proofs.Squares.{nearest_most}
use Rattle.float.proofs.Roots.{packed, packed_lt, is_root, bits_root}
use Rattle.float_root.proofs.root_bits.Goals as goal
use Rattle.float_root.proofs.root_bits.Goals.{After-nearest_root-q}

-- w / 2 ^ 24 is half of the exponent w / 2 ^ 23
half : (w : ℕ) → 51 + w / 2 ^ 23 / 2 ≡ 51 + w / 2 ^ 24
half w = omega arith

small : (c : After-nearest_root-q) → c.nearest_root-q.result < 2 ^ 24
small c = nearest_most c.lifted.result c.nearest_root-q.result c.lifted.ensures.1 c.nearest_root-q.ensures.0

near : (c : After-nearest_root-q)
    → NearestRoot (of_bits binary32 c.args.b) (of_bits binary32 (packed (51 + c.normalised-w.result / 2 ^ 24) c.nearest_root-q.result))
near c =
    let b = c.args.b in
    let f = c.normalised-w in
    let w = f.result in
    let q = c.nearest_root-q.result in
    subst (λ (k : ℕ). NearestRoot (of_bits binary32 b) (of_bits binary32 (packed k q))) (half w)
    (is_root (of_bits binary32 b) (w % 2 ^ 23 + 2 ^ 23) (w / 2 ^ 23) q (omega (arith, f.ensures.small)) (omega arith) (omega arith) f.ensures.same
    (subst (λ (n : ℕ). NearestTo n q) c.lifted.ensures.2 c.nearest_root-q.ensures))

pub returns : goal.returns
returns c =
    let w = c.normalised-w.result in
    let q = c.nearest_root-q.result in
    let l = packed_lt (51 + w / 2 ^ 24) q (omega (arith, c.normalised-w.ensures.small)) (small c) in
    (l, bits_root c.args.b (packed (51 + w / 2 ^ 24) q) c.requires.0 c.requires.1 l (near c))
