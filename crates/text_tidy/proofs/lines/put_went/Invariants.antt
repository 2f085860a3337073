-- `text_tidy::lines::put_went` meets its contract: after i turns the lines of the first i numbers stand there. Assumes nothing.
use lib.ListN.{length, get_or}
use Rattle.lists.proofs.Puts.{Pieces}
use Rattle.text_tidy.specs.Tidied.{went_line}
use Rattle.text_tidy.proofs.lines.put_went.Given as goal

abbrev pub invariant-loop-i : goal.invariant-loop-i
invariant-loop-i l = Pieces (went_line l.went (λ k. get_or l.values k 0)) 14 l.initial.out l.at (length l.values) l.out l.i l.next
