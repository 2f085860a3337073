-- The buffers that are lent to a job whose queue is a row of records: the queue's distances, cells and triangles are the row's three
-- projections. Definitions only.
use Rattle.std.specs.Prelude.{ℕ, List, Float}
use Rattle.queue.specs.declared.Entry.{Entry}
use Rattle.entries.specs.Row.{row_distances, row_cells, row_triangles}
use Rattle.job_checks.specs.Job.{Lent, lent_of}

abbrev pub lent_row : List Float → List ℕ → List ℕ → List ℕ → List Entry → Lent
lent_row field names crossings rows queue = lent_of field names crossings rows (row_distances queue) (row_cells queue) (row_triangles queue)
