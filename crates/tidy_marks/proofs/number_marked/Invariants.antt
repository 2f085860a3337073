-- `tidy_marks::number_marked`: the invariant is that the marked vertices below v are numbered, and the marks from v on are as they were. Assumes
-- nothing.
use Rattle.tidy_marks.proofs.Numbering.{Numbering}
use Rattle.tidy_marks.proofs.number_marked.Given as goal

abbrev pub invariant-loop-v : goal.invariant-loop-v
invariant-loop-v l = Numbering l.n l.initial.words l.words l.v l.count
