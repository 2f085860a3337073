-- `tidy_squeeze::list_kept`: a piece for each kept triangle, one behind the other, and zeros behind them. Assumes nothing.
use native.Mathlib.Omega.{arith}
use Prim.Native.Nat.{ℕ, ◌≤◌}
use mathlib.Core.Path.{refl, ◌∙◌}
use mathlib.Core.List.{List}
use lib.ListN.{length}
use Rattle.lists.proofs.Puts.{no_pieces, pieces_more, pieces_room, pieces_all, inside}
use Rattle.mesh_topology.specs.Topology.{triangles_of}
use Rattle.tidy_marks.specs.Marks.{kept_by}
use Rattle.tidy_squeeze.specs.InFront.{new_numbers}
use Rattle.tidy_squeeze.proofs.Packed.{piece_short, packed, filled_behind}
use Rattle.tidy_squeeze.proofs.list_kept.Goals as goal
use Rattle.tidy_squeeze.proofs.list_kept.Goals.{After-loop-k}

-- what the loop put lies within
within : (c : After-loop-k) → c.loop-k.at ≤ length c.loop-k.out
within c = inside (omega arith) c.loop-k.invariant.put

pub loop-k-init : goal.loop-k-init
loop-k-init c = no_pieces _ _ _ _ _

pub list_if_kept-at-requires : goal.list_if_kept-at-requires
list_if_kept-at-requires c = record { fact = c.requires.fact; k_in_bounds = (c.loop-k-test.true, pieces_room _ _ _ _ _ c.loop-k.invariant c.loop-k-test.true (omega (arith, c.requires.out_len))) }

pub loop-k-preserved : goal.loop-k-preserved
loop-k-preserved c =
    let numbers : ℕ → List ℕ = new_numbers (triangles_of c.args.topology c.args.given c.args.indices.now (length c.args.firsts.now)) c.args.firsts.now c.args.words.now in
    pieces_more _ _ _ _ _ c.loop-k.invariant c.loop-k-test.true c.list_if_kept-at.ensures
    (piece_short (kept_by c.args.causes.now) (numbers) (λ k. refl) c.loop-k.k _ _ c.list_if_kept-at.ensures.next)

pub offset_bounds-out-at : goal.offset_bounds-out-at
offset_bounds-out-at c = let w = within c in omega arith

pub slice_bounds-fill-count : goal.slice_bounds-fill-count
slice_bounds-fill-count c = within c

pub slice_bounds-fill-start : goal.slice_bounds-fill-start
slice_bounds-fill-start c = let w = within c in omega arith

pub slice_bounds-fill-end : goal.slice_bounds-fill-end
slice_bounds-fill-end c = let w = within c in omega arith

pub shape_of-out : goal.shape_of-out
shape_of-out c =
    let put = c.loop-k.invariant.put in
    (filled_behind 0 put (c.fill.ensures.after (λ _ e. e))).long ∙ put.long

pub returns : goal.returns
returns c =
    let numbers : ℕ → List ℕ = new_numbers (triangles_of c.args.topology c.args.given c.args.indices.now (length c.args.firsts.now)) c.args.firsts.now c.args.words.now in
    let put = (pieces_all _ _ _ _ _ c.loop-k.invariant c.loop-k-test.false).0 in
    let all = packed (kept_by c.args.causes.now) (numbers) (λ k. refl) 0 (length c.args.causes.now) put (filled_behind 0 put (c.fill.ensures.after (λ _ e. e))) in record { value = omega (arith, all.0); out_after = all.1 }
