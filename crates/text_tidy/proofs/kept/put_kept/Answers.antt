-- `text_tidy::kept::put_kept` meets its contract: what is put into the lent part is the text of the job that the record and the slices
-- hold. Assumes nothing.
use Prim.Native.Nat.{ℕ}
use native.Mathlib.Omega.{arith}
use mathlib.Core.Path.{◌≡◌, sym, ap, ◌∙◌}
use mathlib.Core.List.{List, ◌++◌}
use lib.ListN.{length, take, drop}
use lib.Seq.{length-take-le, length_front}
use borrow.Rule.Slice.PartMut.{mid_len}
use Rattle.lists.proofs.Puts.{inside}
use Rattle.text_tidy.proofs.Held.{patterns, kept_fits, kept_put}
use Rattle.text_tidy.proofs.kept.put_kept.Goals as goal
use Rattle.text_tidy.proofs.kept.put_kept.Goals.{After-bits-1}

front_long : (w : After-bits-1) → let n = length w.args.coordinates.now in
    length (take n w.coordinate_words-bits.result) ≡ n
front_long w = length-take-le _ w.coordinate_words-bits.result (omega (arith, w.requires.coordinates_few, w.coordinate_words-bits.ensures))

pub slice_bounds-fill_bits-end : goal.slice_bounds-fill_bits-end
slice_bounds-fill_bits-end c = sym (front_long c)

pub fill_bits-requires : goal.fill_bits-requires
fill_bits-requires c = front_long c

pub slice_bounds-put_job-end-2 : goal.slice_bounds-put_job-end-2
slice_bounds-put_job-end-2 c =
    let n = length c.args.coordinates.now in
    c.coordinate_words-bits.ensures ∙ sym (length_front c.coordinate_words-bits.result c.fill_bits.new.bits n c.fill_bits.auto.bits)

pub put_job-requires : goal.put_job-requires
put_job-requires c =
    let behind : List ℕ = drop (length c.args.coordinates.now) c.coordinate_words-bits.result in
    let filled : c.fill_bits.new.bits ++ behind ≡ patterns c.args.coordinates.now (behind) = ap (λ (l : List ℕ). l ++ behind) c.fill_bits.ensures in
    let long = mid_len c.args.at (length c.args.out.now) c.args.out.now (omega arith) in
    rw (c.kept_asked-tidied.ensures, filled) (kept_fits _ (behind) c.requires (omega (arith, long, c.requires.room)))

pub overflow_add-result : goal.overflow_add-result
overflow_add-result c =
    let put = kept_put _ _ c.requires c.kept_asked-tidied.ensures c.fill_bits.ensures c.put_job.ensures in
    omega (arith, inside (omega (arith, c.requires.room)) put, put.long, c.well_formed)

pub returns : goal.returns
returns c = kept_put _ _ c.requires c.kept_asked-tidied.ensures c.fill_bits.ensures c.put_job.ensures
