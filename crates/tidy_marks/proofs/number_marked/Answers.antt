-- `tidy_marks::number_marked`: the invariant is that the marked vertices below v are numbered, and the marks from v on are as they were. Assumes
-- nothing.
use native.Mathlib.Omega.{arith}
use Rattle.lists.proofs.Range.{count_le}
use Rattle.tidy_marks.specs.Marks.{is_marked}
use Rattle.tidy_marks.proofs.Numbering.{numbering_begins, numbering_on, numbering_ends}
use Rattle.tidy_marks.proofs.number_marked.Goals as goal

pub loop-v-init : goal.loop-v-init
loop-v-init c = numbering_begins _ _ c.requires.0

pub number_if_marked-count-requires : goal.number_if_marked-count-requires
number_if_marked-count-requires c =
    let i = c.loop-v.invariant in record { words_len = (i.long, c.requires.1); v_lt_n = (c.loop-v-test.true, omega (arith, i.counts, count_le (is_marked c.args.n c.args.words.now) c.loop-v.v)) }

pub loop-v-preserved : goal.loop-v-preserved
loop-v-preserved c =
    numbering_on _ _ _ _ _ c.loop-v.invariant c.loop-v-test.true _ _ c.number_if_marked-count.auto.words c.number_if_marked-count.ensures.value c.number_if_marked-count.ensures.marks

pub shape_of-words : goal.shape_of-words
shape_of-words c = omega (arith, c.loop-v.invariant.long, c.requires.0)

pub returns : goal.returns
returns c = let all = numbering_ends _ _ _ _ _ c.loop-v.invariant c.loop-v-test.false in record { value = all.0; fact = all.1 }
