-- `tidy_marks::mark_if_kept`: nothing where there is a cause, else the marks of the merged triangle. Assumes nothing.
use native.Mathlib.Omega.{arith}
use mathlib.Core.Path.{sym, ap, ◌∙◌, subst}
use mathlib.Core.Bool.{cond}
use lib.ListN.{length}
use Rattle.tidy.specs.Numbers.{has_number}
use Rattle.mesh_topology.specs.declared.Triangle.{Triangle}
use Rattle.tidy_marks.specs.Marks.{NumbersBelow, mark_at}
use Rattle.tidy_marks.proofs.Marks.{unmarked, marked, merged_within}
use Rattle.tidy_marks.proofs.mark_if_kept.Goals as goal

pub returns-then-causes-k-ne0 : goal.returns-then-causes-k-ne0
returns-then-causes-k-ne0 c = record { is = λ v l. unmarked _ _ _ c.if-causes-k-ne0.true }

pub merge-t-requires : goal.merge-t-requires
merge-t-requires c =
    let p = c.requires.fact in
    record { below = p.below; few = omega (arith, p.few); next = omega (arith, p.one, c.requires.k_in_bounds) }

pub mark_triangle-requires : goal.mark_triangle-requires
mark_triangle-requires c =
    let p = c.requires.fact in record { words_len = (p.three, p.few); numbers_below = subst (NumbersBelow _) (sym c.merge-t.ensures) (merged_within c.args.k p (omega (arith, p.one, c.requires.k_in_bounds))) }

pub returns : goal.returns
returns c =
    let old = mark_at (length c.args.firsts.now) c.args.words.now in
    record {
      is = λ v l. c.mark_triangle.ensures.is v l
          ∙ ap (λ (x : Triangle). cond (has_number x v) 1 (old v)) c.merge-t.ensures ∙ marked _ _ (old v) c.if-causes-k-ne0.false;
    }
