-- `job_close::finish`: the rows are counted of the field with its signs. Assumes nothing.
use mathlib.Core.Path.{ap, ◌∙◌}
use mathlib.Core.List.{List}
use lib.Ieee.{Float}
use Rattle.run.specs.Signs as Signs
use Rattle.job_close.proofs.finish.Goals as goal

pub returns : goal.returns
returns c =
    let e = c.sign_field-grazed.ensures in record { fact = record { crossings = e.1; field = e.0; rows = c.count_rows.ensures ∙ ap (λ (l : List Float). Signs.rows c.args.terms.edition c.args.grid l) e.0 }; value = e.2 }
