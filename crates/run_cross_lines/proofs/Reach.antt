-- How far a hit reaches. A hit lies ahead and a cell has a size, so the quotient is no NaN and has no sign, and its floor is a number
-- from 0 on. On a line of `count` cells the cell of the quotient is then the last that is at most the floor: the last one reached, which is where
-- the quick pass adds one, and the plain pass there and at all before it. Assumes nothing.
use Prim.Native.Nat.{ℕ, ◌+◌, ◌-◌, ◌*◌, ◌≤◌, ◌<◌, min}
use native.Mathlib.Decide.{dec_lt}
use native.Mathlib.Omega.{arith}
use mathlib.Core.Path.{◌≡◌, refl, sym, ap, ◌∙◌, subst}
use mathlib.Core.Bool.{Bool, true, false, cond, not, ◌&&◌, true≢false}
use lib.Dec.{T, leb, ltb, eqb, ltb→lt}
use lib.IntN.{pos}
use lib.Ieee.{Float, nan, inf, fin, binary32, of_bits, up, down, lt, le, div, round}
use lib.Ieee.Positive.{positive, between}
use borrow.Author.Tests.{eqb-true, leb-true, leb-false, le-leb, lt-leb, lt-ltb, le-ltb}
use Rattle.float.specs.Arith.{◌⊘◌, ◌≺◌, f0}
use Rattle.float_floor.specs.Cell.{floor_of, cell_of}
use Rattle.float_floor.proofs.Floors.{cell_lt}
use Rattle.float.specs.Distance.{unsigned}
use Rattle.float.proofs.NoSign.{round_unsigned}
use Rattle.grid_axis.specs.AxisBounds.{is_size, f2¹⁰, f2⁻¹⁰}
use Rattle.terms.specs.declared.Pass.{Pass}
use Rattle.terms.specs.declared.Pass.TheVariants.{Plain, Quick}
use Rattle.geo_ray.specs.declared.RayHit.TheVariants.{Hit}
use Rattle.run.specs.Signs.{at_most}
use Rattle.run_cross_lines.specs.Pass.{first_added, adds_at}

-- ---- the quotient has no sign

zero_is : f0 ≡ fin false 0 (pos 0)
unfolding of_bits
zero_is = refl

-- t is above 0: infinite, or a value without a sign
quotient : (t size : Float) → lt (fin false 0 (pos 0)) t ≡ true → T (positive size) → T (unsigned (t ⊘ size))
unfolding lt div
quotient t nan h p = absurd p
quotient t (inf s) h p = absurd p
quotient t (fin true n d) h p = absurd p
quotient nan (fin false n d) h p = absurd (true≢false (sym h))
quotient (inf true) (fin false n d) h p = absurd (true≢false (sym h))
quotient (inf false) (fin false n d) h p = tt
quotient (fin true m e) (fin false n d) h p = absurd (true≢false (sym h))
quotient (fin false m e) (fin false n d) h p = go (eqb n 0) (eqb m 0) refl
  where
    go : (b c : Bool) → eqb n 0 ≡ b → T (unsigned (cond b (cond c nan (inf false)) (round binary32 false (m * up e * down d) (n * up d * down e))))
    go true c q = absurd (none n (ltb→lt 0 n p) q)
      where
        none : (n : ℕ) → 0 < n → eqb n 0 ≡ true → ⊥
        none n l q = omega (arith, eqb-true n 0 q)
    go false c q = round_unsigned (m * up e * down d) (n * up d * down e)

size_positive : (size : Float) → is_size size ≡ true → T (positive size)
unfolding of_bits
size_positive size h = between f2⁻¹⁰ size f2¹⁰ tt tt (so (parts (le f2⁻¹⁰ size) (le size f2¹⁰) h).0) (so (parts (le f2⁻¹⁰ size) (le size f2¹⁰) h).1)
  where
    parts : (a b : Bool) → (a && b) ≡ true → (a ≡ true) × (b ≡ true)
    parts true b e = (refl, e)
    parts false b e = absurd (true≢false (sym e))

    so : {a : Bool} → a ≡ true → T a
    so e = subst T (sym e) tt

-- ---- the floor, and the line

floor_up : (q : Float) → T (unsigned q) → (k : ℕ) × (floor_of q ≡ pos k)
unfolding floor_of
floor_up nan p = absurd p
floor_up (inf true) p = absurd p
floor_up (inf false) p = (_, refl)
floor_up (fin true m e) p = absurd p
floor_up (fin false m e) p = (_, refl)

-- of a line's numbers, those at most k are those at most the smaller of k and the last
at_last : (i k count : ℕ) → i < count → leb i (min k (count - 1)) ≡ leb i k
at_last i k count h = go (leb i k) refl
  where
    go : (b : Bool) → leb i k ≡ b → leb i (min k (count - 1)) ≡ leb i k
    go true e = let l = leb-true i k e in le-leb i (min k (count - 1)) (omega arith) ∙ sym e
    go false e = let l = leb-false i k e in lt-leb i (min k (count - 1)) (omega arith) ∙ sym e

reached : (t size : Float) (i count : ℕ) → f0 ≺ t ≡ true → is_size size ≡ true → i < count
    → leb i (cell_of count (floor_of (t ⊘ size))) ≡ at_most i (floor_of (t ⊘ size))
unfolding cell_of
reached t size i count h s l =
    let q = floor_up (t ⊘ size) (quotient t size (ap (λ (z : Float). lt z t) (sym zero_is) ∙ h) (size_positive size s)) in
    rw q.1 (at_last i q.0 count l)

-- ---- where a pass adds one

-- from the last cell to the last cell: where it is reached, and the next, if there is one, is not
only_last : (i last count : ℕ) (here next : Bool) → i < count → last < count → leb i last ≡ here → (i + 1 < count → leb (i + 1) last ≡ next)
    → (leb last i && leb i last) ≡ (here && not (ltb (i + 1) count && next))
only_last i last count here next h l e f = go (dec_lt i last) (dec_lt last i)
  where
    go : Dec (i < last) → Dec (last < i) → (leb last i && leb i last) ≡ (here && not (ltb (i + 1) count && next))
    go (yes b) d =
        rw (lt-leb last i b, ← e, le-leb i last (omega arith), lt-ltb (i + 1) count (omega arith), ← f (omega arith), le-leb (i + 1) last (omega arith))
    go (no b) (yes d) = rw (le-leb last i (omega arith), ← e, lt-leb i last d)
    go (no b) (no d) = rw (le-leb last i (omega arith), ← e, le-leb i last (omega arith)) (alone (dec_lt (i + 1) count))
      where
        alone : Dec (i + 1 < count) → true ≡ not (ltb (i + 1) count && next)
        alone (yes m) = rw (lt-ltb (i + 1) count m, ← f m, lt-leb (i + 1) last (omega arith))
        alone (no m) = rw (le-ltb (i + 1) count (omega arith))

pub first_le : (pass : Pass) (last : ℕ) → first_added pass last ≤ last
first_le Plain last = omega arith
first_le Quick last = omega arith

pub added : (pass : Pass) (t size : Float) (i count : ℕ) → f0 ≺ t ≡ true → is_size size ≡ true → i < count
    → (let last = cell_of count (floor_of (t ⊘ size)) in (leb (first_added pass last) i && leb i last) ≡ adds_at pass size count i (Hit t))
added Plain t size i count h s l = rw (le-leb 0 i (omega arith)) (reached t size i count h s l)
added Quick t size i count h s l =
    only_last i (cell_of count (floor_of (t ⊘ size))) count _ _ l (cell_lt count (floor_of (t ⊘ size)) (omega arith)) (reached t size i count h s l)
    (λ m. reached t size (i + 1) count h s m)
