-- `tidy_squeeze::put_if_marked`: nothing where there is no mark, else the vertex. Assumes nothing.
use native.Mathlib.Omega.{arith}
use mathlib.Core.Path.{sym, ap, ◌∙◌}
use mathlib.Core.Bool.{not}
use borrow.Author.Tests.{eq-eqb, ne_eqb}
use Rattle.tidy_squeeze.proofs.Packed.{put_none, put_piece}
use Rattle.tidy_squeeze.proofs.put_if_marked.Goals as goal

pub returns-then-mark-eq0 : goal.returns-then-mark-eq0
returns-then-mark-eq0 c =
    put_none _ _ _ _ (ap not (eq-eqb _ 0 (sym c.number_at-mark.ensures ∙ c.if-mark-eq0.true)))

pub put_vertex-requires : goal.put_vertex-requires
put_vertex-requires c =
    (omega (arith, c.requires), omega (arith, c.requires))

pub returns : goal.returns
returns c =
    put_piece _ (ap not (ne_eqb _ 0 (λ z. c.if-mark-eq0.false (c.number_at-mark.ensures ∙ z)))) c.put_vertex.ensures
