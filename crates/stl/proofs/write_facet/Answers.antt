-- `stl::write_facet`: the normal, the nine numbers and the attributes are put one behind the other, from the front to the end. Assumes nothing.
use Prim.Native.Nat.{ℕ, ◌+◌, ◌*◌}
use native.Mathlib.Omega.{arith}
use mathlib.Core.Path.{◌≡◌, refl, sym, ap, ◌∙◌}
use mathlib.Core.List.{List}
use lib.ListN.{length, get_or, length-set}
use Rattle.lists.specs.Joined.{joined}
use Rattle.lists.proofs.Puts.{no_pieces, pieces_more, pieces_all, one, and_then, said, whole}
use Rattle.stl.specs.File.{bytes_of, record_of}
use Rattle.stl.proofs.write_facet.Goals as goal
use Rattle.stl.proofs.write_facet.Goals.{After-loop-i}

-- the record is as long as it was, wherever the loop is: 50 bytes
kept : (l : After-loop-i) → length l.loop-i.facet ≡ length l.args.facet.now
kept l = l.loop-i.invariant.put.long ∙ l.put_word-3.ensures.long ∙ l.put_word-2.ensures.long ∙ l.put_word.ensures.long

long : (l : After-loop-i) → length l.loop-i.facet ≡ 50
long l = kept l ∙ l.requires.facet_len

pub loop-i-init : goal.loop-i-init
loop-i-init c = no_pieces _ _ _ _ _

pub loop-i-preserved : goal.loop-i-preserved
loop-i-preserved c =
    pieces_more _ _ _ _ _ c.loop-i.invariant c.loop-i-test.true (said refl (omega arith) c.put_word-in-loop-i.ensures) (omega arith)

pub returns : goal.returns
unfolding record_of bytes_of
returns c =
    let normal = and_then (and_then c.put_word.ensures c.put_word-2.ensures) c.put_word-3.ensures in
    let numbers = (pieces_all _ _ _ _ _ c.loop-i.invariant c.loop-i-test.false).0 in
    let attributes = and_then (one c.loop-i.facet 48 0 (omega (arith, long c))) (one _ 49 0 (simp length-set (omega (arith, long c)))) in
    let place : 12 + 4 * c.loop-i.i ≡ 48 = omega (arith, c.loop-i.invariant.few) in
    let same = ap (λ (ws : List ℕ). joined (λ j. bytes_of (get_or ws j 0)) 9) c.nine_bits-words.ensures in
    whole (sym c.requires.facet_len) (said refl refl (and_then normal (and_then (said same place numbers) attributes)))
