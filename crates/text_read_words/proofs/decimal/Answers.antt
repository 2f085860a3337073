-- `text_read_words::decimal`: the number that began at `at` is the one that goes on at k after digits of value `value`. Each way out is one step of the
-- reader on lists. Assumes nothing.
use native.Mathlib.Omega.{arith}
use mathlib.Core.Path.{sym, ◌∙◌}
use Rattle.text.proofs.Places.{number_past, number_not, number_first, digits_past, digits_stop, digits_zero, digits_not, digits_large, digits_more}
use Rattle.text_read_words.proofs.decimal.Goals as goal

pub returns-then-text-at : goal.returns-then-text-at
returns-then-text-at c = sym (number_past _ _ _ c.if-text-at.true)

pub returns-then-value-ge10 : goal.returns-then-value-ge10
returns-then-value-ge10 c = sym (number_not _ _ _ c.if-text-at.false c.digit-value.ensures c.if-value-ge10.true)

pub loop-k-init : goal.loop-k-init
loop-k-init c =
    (omega arith, number_first _ _ _ c.if-text-at.false c.digit-value.ensures c.if-value-ge10.false)

pub returns-then-b-stop : goal.returns-then-b-stop
returns-then-b-stop c =
    sym (c.loop-k.invariant.1 ∙ digits_stop _ _ _ _ c.loop-k-test.true c.if-b-stop.true)

pub returns-then-value-eq0 : goal.returns-then-value-eq0
returns-then-value-eq0 c =
    sym (c.loop-k.invariant.1 ∙ digits_zero _ _ _ _ c.loop-k-test.true c.if-b-stop.false c.if-value-eq0.true)

pub returns-then-d-ge10 : goal.returns-then-d-ge10
returns-then-d-ge10 c =
    sym
    (c.loop-k.invariant.1
    ∙ digits_not _ _ _ _ c.loop-k-test.true c.if-b-stop.false c.if-value-eq0.false c.digit-d.ensures c.if-d-ge10.true)

pub returns-then-longer-gt4294967295 : goal.returns-then-longer-gt4294967295
returns-then-longer-gt4294967295 c =
    sym
    (c.loop-k.invariant.1
    ∙ digits_large _ _ _ _ c.loop-k-test.true c.if-b-stop.false c.if-value-eq0.false c.digit-d.ensures c.if-d-ge10.false c.if-longer-gt4294967295.true)

pub loop-k-preserved : goal.loop-k-preserved
loop-k-preserved c = (
  omega (arith, c.if-longer-gt4294967295.false),
  c.loop-k.invariant.1
      ∙ digits_more _ _ _ _ c.loop-k-test.true c.if-b-stop.false c.if-value-eq0.false c.digit-d.ensures c.if-d-ge10.false c.if-longer-gt4294967295.false,
)

pub returns : goal.returns
returns c = sym (c.loop-k.invariant.1 ∙ digits_past _ _ _ _ c.loop-k-test.false)
