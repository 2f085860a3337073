-- `tidy_squeeze::pack`: a piece for each marked vertex, one behind the other, and zeros behind them. What is put stays in front of the marks that
-- are still to be read. Assumes nothing.
use mathlib.Core.List.{[]}
use native.Mathlib.Omega.{arith}
use Prim.Native.Nat.{ℕ, ◌≤◌}
use mathlib.Core.Path.{◌≡◌, refl, ap, ◌∙◌}
use mathlib.Core.Bool.{not, cond}
use lib.Dec.{eqb}
use lib.ListN.{length}
use Rattle.lists.proofs.Puts.{no_pieces, pieces_more, pieces_all, said, inside}
use Rattle.tidy.specs.Tidy.{coordinates_at}
use Rattle.tidy.specs.Padded.{plus_zero}
use Rattle.tidy_marks.specs.Marks.{mark_at, is_marked}
use Rattle.tidy_squeeze.proofs.Packed.{piece_short, packed, filled_behind, mark_behind}
use Rattle.tidy_squeeze.proofs.pack.Goals as goal
use Rattle.tidy_squeeze.proofs.pack.Goals.{After-loop-v, After-slice_known-in-loop-v-1}

-- vertex v still has its mark
marked : (t : After-slice_known-in-loop-v-1) → mark_at t.args.n t.loop-v.words t.loop-v.v ≡ mark_at t.args.n t.args.words.now t.loop-v.v
marked t =
    let l = t.loop-v in
    mark_behind t.args.n l.v l.invariant.put (omega (arith, l.invariant.near, t.loop-v-test.true)) (omega (arith, t.requires.1, t.loop-v-test.true))

-- what the loop put lies within
within : (c : After-loop-v) → c.loop-v.at ≤ length c.loop-v.words
within c = inside (omega arith) c.loop-v.invariant.put

pub loop-v-init : goal.loop-v-init
loop-v-init c = no_pieces _ _ _ _ _

pub put_if_marked-at-requires : goal.put_if_marked-at-requires
put_if_marked-at-requires c =
    let i = c.loop-v.invariant in record { vertices_len = (c.requires.0, i.put.long ∙ c.requires.1, c.requires.2); v_lt_n = (c.loop-v-test.true, omega (arith, i.near)) }

pub loop-v-preserved : goal.loop-v-preserved
loop-v-preserved c =
    let v = c.loop-v.v in
    let vertices = c.args.vertices.now in
    let put = said (ap (λ (m : ℕ). cond (not (eqb m 0)) (coordinates_at vertices v) []) (marked c)) refl c.put_if_marked-at.ensures in
    pieces_more _ _ _ _ _ c.loop-v.invariant c.loop-v-test.true put
    (piece_short (is_marked c.args.n c.args.words.now) (coordinates_at vertices) (λ k. refl) v _ _ put.next)

pub offset_bounds-words-at : goal.offset_bounds-words-at
offset_bounds-words-at c = let w = within c in omega arith

pub slice_bounds-fill-count : goal.slice_bounds-fill-count
slice_bounds-fill-count c = within c

pub slice_bounds-fill-start : goal.slice_bounds-fill-start
slice_bounds-fill-start c = let w = within c in omega arith

pub slice_bounds-fill-end : goal.slice_bounds-fill-end
slice_bounds-fill-end c = let w = within c in omega arith

pub shape_of-words : goal.shape_of-words
shape_of-words c =
    let put = c.loop-v.invariant.put in
    (filled_behind plus_zero put (c.fill.ensures.after (λ _ e. e))).long ∙ put.long

pub returns : goal.returns
returns c =
    let n = c.args.n in
    let put = (pieces_all _ _ _ _ _ c.loop-v.invariant c.loop-v-test.false).0 in
    (packed (is_marked n c.args.words.now) (coordinates_at c.args.vertices.now) (λ k. refl) plus_zero n put
    (filled_behind plus_zero put (c.fill.ensures.after (λ _ e. e)))).1
