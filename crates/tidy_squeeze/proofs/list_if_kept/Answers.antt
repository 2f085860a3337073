-- `tidy_squeeze::list_if_kept`: nothing where there is a cause, else the triangle by its new numbers. Assumes nothing.
use native.Mathlib.Omega.{arith}
use mathlib.Core.Path.{refl, sym, ap, ◌∙◌, subst}
use lib.ListN.{length}
use borrow.Author.Tests.{eq-eqb, ne_eqb}
use Rattle.lists.proofs.Puts.{said}
use Rattle.mesh_explicit.specs.Explicit.{vertex_numbers}
use Rattle.tidy_marks.specs.Marks.{NumbersBelow}
use Rattle.tidy_marks.proofs.Marks.{merged_within}
use Rattle.tidy_squeeze.specs.InFront.{by_marks}
use Rattle.tidy_squeeze.proofs.Packed.{put_none, put_piece}
use Rattle.tidy_squeeze.proofs.list_if_kept.Goals as goal

pub returns-then-causes-k-ne0 : goal.returns-then-causes-k-ne0
returns-then-causes-k-ne0 c = put_none _ _ _ _ (ne_eqb _ 0 c.if-causes-k-ne0.true)

pub merge-t-requires : goal.merge-t-requires
merge-t-requires c =
    let p = c.requires.fact in
    record { below = p.below; few = omega (arith, p.few); next = omega (arith, p.one, c.requires.k_in_bounds.0) }

pub renumber-requires : goal.renumber-requires
renumber-requires c =
    let p = c.requires.fact in record {
      words_len = (p.three, p.few);
      numbers_below = subst (NumbersBelow _) (sym c.merge-t.ensures)
          (merged_within c.args.k p (omega (arith, p.one, c.requires.k_in_bounds.0)));
    }

pub returns : goal.returns
returns c =
    put_piece _ (eq-eqb _ 0 c.if-causes-k-ne0.false)
    (said (ap vertex_numbers (c.renumber.ensures ∙ ap (by_marks (length c.args.firsts.now) c.args.words.now) c.merge-t.ensures)) refl c.put_triangle.ensures)
