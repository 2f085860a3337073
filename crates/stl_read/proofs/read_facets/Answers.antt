-- `stl_read::read_facets`: after k turns the corners of the first k facets stand in the vertices, one facet behind the other. Assumes nothing.
use Prim.Native.Nat.{ℕ, ◌+◌, ◌*◌, ◌≤◌}
use native.Mathlib.Nat.{add-sub_cancel_left}
use native.Mathlib.Omega.{arith}
use mathlib.Core.Path.{sym, ap, ◌∙◌}
use lib.ListN.{length, take, drop}
use lib.Ieee.{binary32, of_bits}
use Rattle.lists.specs.Joined.{joined}
use Rattle.lists.proofs.Joined.{map_joined}
use Rattle.lists.proofs.Puts.{no_pieces, pieces_more, pieces_all, part, said, whole}
use Rattle.float_bits.specs.Patterns.{floats_of}
use Rattle.stl.specs.File.{length_for, nine_of, patterns_in}
use Rattle.stl.proofs.Pieces.{floats_long}
use Rattle.stl_read.proofs.read_facets.Goals as goal

pub loop-k-init : goal.loop-k-init
loop-k-init c = no_pieces _ _ _ _ _

pub loop-k-preserved : goal.loop-k-preserved
loop-k-preserved c =
    let fits : 9 * c.loop-k.k + 9 ≤ length c.loop-k.vertices = omega (arith, c.loop-k.invariant.put.long, c.requires.vertices_len, c.loop-k-test.true) in
    let k = c.loop-k.k in
    let same = ap (λ (n : ℕ). floats_of (nine_of (take n (drop (length_for k) c.args.file.now)))) (add-sub_cancel_left (length_for k) 50) in
    pieces_more _ _ _ _ _ c.loop-k.invariant c.loop-k-test.true
    (said (c.read_facet.ensures ∙ same) (omega arith) (part _ _ (9 * k) (9 * k + 9) (omega arith) fits (ap length c.read_facet.ensures ∙ floats_long _ ∙ sym (add-sub_cancel_left (9 * k) 9))))
    (omega arith)

pub returns : goal.returns
unfolding patterns_in
returns c =
    let all = (pieces_all _ _ _ _ _ c.loop-k.invariant c.loop-k-test.false).0 in
    whole (omega (arith, c.requires.vertices_len, c.loop-k.invariant.few, c.loop-k.invariant.put.long)) all ∙ ap (joined _) c.requires.count_value ∙ sym (map_joined (of_bits binary32) _ _)
