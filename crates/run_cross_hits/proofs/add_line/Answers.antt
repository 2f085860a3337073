-- `run_cross_hits::add_line`: the line's cells have their entries a step apart (`crates/run_cross_lines/proofs/Grown.antt`). Assumes nothing.
use mathlib.Core.Path.{ap, ◌∙◌}
use Rattle.run_cross_lines.specs.Lines.{entry_of}
use Rattle.run_cross_lines.proofs.Grown.{line_within, line_grown}
use Rattle.run_cross_hits.proofs.add_line.Goals as goal

pub add_each-requires-clause-places_below : goal.add_each-requires-clause-places_below
add_each-requires-clause-places_below c =
    let a = c.args in
    let b = c.requires.u_bound in
    let started = c.entry-start.ensures ∙ ap (entry_of a.grid a.axis) c.cell_on.ensures in
    rw (started, c.step-step.ensures, c.requires.crossings_len) (line_within a.grid a.axis a.u a.v a.first a.last b.0 b.1 b.2 b.3)

pub returns : goal.returns
returns c =
    let a = c.args in
    let b = c.requires.u_bound in
    let started = c.entry-start.ensures ∙ ap (entry_of a.grid a.axis) c.cell_on.ensures in
    line_grown a.grid a.axis a.u a.v a.first a.last a.crossings.now _ b.0 b.1 b.2 b.3
    (rw (started, c.step-step.ensures) at c.add_each.ensures)
