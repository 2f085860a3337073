-- `text_read_words::hex8`: the eight digits that began at `at` are those that go on at k, 8 - i of them, after digits of value `value`, which is
-- below 16 ^ i. Assumes nothing.
use Prim.Native.Nat.{ℕ, suc, ◌+◌, ◌*◌, ◌-◌, ◌^◌, ◌≤◌, ◌<◌}
use native.Mathlib.Nat.{pow-le-pow_right}
use native.Mathlib.Numerals.{add-one}
use native.Mathlib.Omega.{arith}
use mathlib.Core.Path.{◌≡◌, sym, ◌∙◌}
use Rattle.text.proofs.Places.{hex_past, hex_not, hex_next, hex_differs, hex_stop}
use Rattle.text_read_words.proofs.hex8.Goals as goal
use Rattle.text_read_words.proofs.hex8.Goals.{Else-d-ge16}

grown : (i v d : ℕ) → v < 16 ^ i → d < 16 → 16 * v + d < 16 ^ (i + 1)
grown i v d w h = rw add-one (omega arith)

fits : (l : Else-d-ge16) → l.loop-i.value < 2 ^ 32
fits l =
    let few : l.loop-i.i ≤ 8 = omega arith in
    let p : 16 ^ l.loop-i.i ≤ 16 ^ 8 = pow-le-pow_right (omega arith) few in
    omega (arith, l.loop-i.invariant.0)

pub returns-then-text-k : goal.returns-then-text-k
returns-then-text-k c = sym (c.loop-i.invariant.1 ∙ hex_past _ _ _ _ _ c.if-text-k.true)

pub returns-then-d-ge16 : goal.returns-then-d-ge16
returns-then-d-ge16 c =
    let fewer : 8 - c.loop-i.i ≡ suc (8 - (c.loop-i.i + 1)) = omega (arith, c.loop-i-test.true) in
    sym (c.loop-i.invariant.1 ∙ hex_not _ _ _ _ (fewer) c.if-text-k.false c.digit-d.ensures c.if-d-ge16.true)

pub overflow_mul-value : goal.overflow_mul-value
overflow_mul-value c = omega (arith, fits c)

pub overflow_add-value : goal.overflow_add-value
overflow_add-value c = omega (arith, fits c)

pub loop-i-preserved : goal.loop-i-preserved
loop-i-preserved c =
    let fewer : 8 - c.loop-i.i ≡ suc (8 - (c.loop-i.i + 1)) = omega (arith, c.loop-i-test.true) in
    let l = c.loop-i in (
      grown _ _ _ l.invariant.0 c.if-d-ge16.false,
      l.invariant.1 ∙ hex_next _ _ _ _ (fewer) c.if-text-k.false c.digit-d.ensures c.if-d-ge16.false,
    )

pub returns-then-text-k-2 : goal.returns-then-text-k-2
returns-then-text-k-2 c = sym (c.loop-i.invariant.1 ∙ hex_past _ _ _ _ _ c.if-text-k-2.true)

pub returns-then-text-k-3 : goal.returns-then-text-k-3
returns-then-text-k-3 c =
    let none_left : 8 - c.loop-i.i ≡ 0 = omega (arith, c.loop-i-test.false) in
    sym (c.loop-i.invariant.1 ∙ hex_differs _ _ _ _ (none_left) c.if-text-k-2.false c.if-text-k-3.true)

pub returns : goal.returns
returns c =
    let none_left : 8 - c.loop-i.i ≡ 0 = omega (arith, c.loop-i-test.false) in
    sym (c.loop-i.invariant.1 ∙ hex_stop _ _ _ _ (none_left) c.if-text-k-2.false c.if-text-k-3.false)
