-- `text_write_job::parts::put_index_lines` meets its contract: a line for each index, one after the other. Assumes nothing.
use Prim.Native.Nat.{ℕ}
use mathlib.Core.List.{List}
use lib.ListN.{length, get_or}
use Rattle.text.specs.TextJob.{index_line}
use Rattle.lists.proofs.Puts.{Pieces}
use Rattle.text_write_job.proofs.parts.put_index_lines.Given as goal

abbrev pub line_of : List ℕ → ℕ → List ℕ
line_of indices i = index_line (get_or indices i 0)

abbrev pub invariant-loop-index : goal.invariant-loop-index
invariant-loop-index l = Pieces (line_of l.indices) 13 l.initial.out l.at (length l.indices) l.out l.index-index l.next
