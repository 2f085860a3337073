-- "The marked cases form a single table proved by one claim" (document 01, "What the contracts owe"). The table: the rows of each
-- part, in the order of the document. A row is a number that the definitions compute, and the number that the document gives. Definitions only.
use Rattle.std.specs.Prelude.{List, ◌++◌}
use Rattle.float.specs.Case.{Case}
use Rattle.marked_cases.specs.RootCases.{root_cases}
use Rattle.marked_cases.specs.SnapCases.{snap_cases}
use Rattle.marked_cases.specs.GeoCases.{geo_cases}
use Rattle.marked_cases.specs.CompareCases.{compare_cases}

-- roots; the four cells; distance and rays of the triangle T; comparisons
unfoldable pub marked : List Case
unfolding root_cases snap_cases geo_cases compare_cases
marked = root_cases ++ snap_cases ++ geo_cases ++ compare_cases
