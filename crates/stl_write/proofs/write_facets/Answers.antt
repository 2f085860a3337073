-- `stl_write::write_facets`: after k turns the records of the first k facets stand in the file, one behind the other. Assumes nothing.
use Prim.Native.Nat.{ℕ, ◌+◌, ◌*◌, ◌≤◌}
use native.Mathlib.Nat.{add-sub_cancel_left}
use native.Mathlib.Omega.{arith}
use mathlib.Core.Path.{sym, ap, ◌∙◌}
use lib.ListN.{length, take, drop}
use Rattle.lists.proofs.Puts.{no_pieces, pieces_more, part, said}
use Rattle.float_bits.specs.Patterns.{bits_of}
use Rattle.stl.specs.File.{length_for, record_of}
use Rattle.stl.proofs.Pieces.{record_long}
use Rattle.stl_write.proofs.write_facets.Goals as goal

pub loop-k-init : goal.loop-k-init
loop-k-init c = no_pieces _ _ _ _ _

pub loop-k-preserved : goal.loop-k-preserved
loop-k-preserved c =
    let fits : length_for c.loop-k.k + 50 ≤ length c.loop-k.file = omega (arith, c.loop-k.invariant.put.long, c.requires.file_len, c.loop-k-test.true) in
    let k = c.loop-k.k in
    let written = c.write_facet.ensures in
    let same = ap (λ (n : ℕ). record_of (bits_of (take n (drop (9 * k) c.args.vertices.now)))) (add-sub_cancel_left (9 * k) 9) in
    pieces_more _ _ _ _ _ c.loop-k.invariant c.loop-k-test.true
    (said (written ∙ same) (omega arith) (part _ _ (length_for k) (length_for k + 50) (omega arith) fits (ap length written ∙ record_long _ ∙ sym (add-sub_cancel_left (length_for k) 50))))
    (omega arith)
