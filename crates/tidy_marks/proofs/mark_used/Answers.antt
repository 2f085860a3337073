-- `tidy_marks::mark_used`: the invariant is that the vertices of the kept triangles below k are marked, and no other. Assumes nothing.
use native.Mathlib.Omega.{arith}
use Prim.Native.Nat.{ℕ}
use mathlib.Core.Path.{◌≡◌, subst}
use mathlib.Core.Bool.{cond}
use mathlib.Core.List.{List}
use lib.ListN.{length}
use Rattle.picks.specs.Picks.{some}
use Rattle.mesh_topology.specs.declared.Triangle.{Triangle}
use Rattle.mesh_topology.specs.Topology.{triangles_of}
use Rattle.tidy_marks.specs.Marks.{Marks}
use Rattle.tidy_marks.proofs.Marks.{marked_more, none_marked}
use Rattle.tidy_marks.proofs.mark_used.Invariants.{has}
use Rattle.tidy_marks.proofs.mark_used.Goals as goal

pub loop-k-init : goal.loop-k-init
unfolding some
loop-k-init c =
    record { is = λ v l. none_marked _ (length c.args.firsts.now) v _ (c.fill.ensures.after (λ _ e. e)) c.requires.three l }

pub mark_if_kept-requires : goal.mark_if_kept-requires
mark_if_kept-requires c =
    let p = c.requires in
    record {
      fact = record { below = p.below; firsts_below = p.firsts_below; few = p.few; one = p.one; three = omega (arith, c.fill.auto, p.three) };
      k_in_bounds = c.loop-k-test.true;
    }

pub loop-k-preserved : goal.loop-k-preserved
loop-k-preserved c =
    let a = c.args in
    let ts : List Triangle = triangles_of a.topology a.given a.indices.now (length a.firsts.now) in
    record { is = λ v l. marked_more (has ts a.firsts.now a.causes.now v) c.loop-k.k _ _ (c.mark_if_kept.ensures.is v l) (c.loop-k.invariant.is v l) }

pub returns : goal.returns
returns c =
    let a = c.args in
    let l = c.loop-k in
    let ts : List Triangle = triangles_of a.topology a.given a.indices.now (length a.firsts.now) in
    let all : l.k ≡ length ts = omega (arith, c.requires.one) in
    subst (λ (k : ℕ). Marks (length a.firsts.now) (λ v. cond (some (has ts a.firsts.now a.causes.now v) k) 1 0) l.words) all l.invariant
