-- One entry after another, the last one first. The next cell on a line has the higher entry, which is summed already; so an entry and the next
-- one's sum make its sum. What is summed from entry 0 on is summed, and where the marks are the hits that end, it is the crossings. Once
-- over the three axes. Assumes nothing.
use Prim.Native.Nat.{ℕ, ◌+◌, ◌*◌, ◌^◌, ◌≤◌, ◌<◌}
use native.Mathlib.Decide.{dec_lt, ℕ_discrete}
use native.Mathlib.Omega.{arith}
use mathlib.Core.Path.{◌≡◌, refl, sym, ap, ap₂, ◌∙◌}
use mathlib.Core.Bool.{Bool, true}
use mathlib.Core.List.{List}
use lib.Dec.{ltb}
use lib.ListN.{length, get_or, set, length-set}
use lib.Seq.{get_or-set_other}
use borrow.Author.Tests.{ltb-true, lt-ltb, le-ltb}
use Rattle.lists.proofs.Range.{count_le}
use Rattle.lists.proofs.Table.{stored_at}
use Rattle.point.specs.declared.Axis.{Axis}
use Rattle.point.specs.declared.Axis.TheVariants.{Y, Z}
use Rattle.grid.specs.declared.Grid.{Grid}
use Rattle.grid.specs.declared.Cell.{Cell}
use Rattle.grid.specs.Axes.{count_on, cell_on}
use Rattle.grid.specs.Index.{Inside, index_of, total, stride_on}
use Rattle.grid.specs.Bounds.{in_bounds}
use Rattle.grid.proofs.Laws.{index_along, put_same}
use Rattle.grid.proofs.Facts.{inside_on, inside_put, stride_pos}
use Rattle.mesh.specs.Mesh.{Mesh, triangles_in}
use Rattle.terms.specs.declared.Pass.TheVariants.{Quick}
use Rattle.run.specs.Signs.{crosses, crossings, all_crossings}
use Rattle.run.specs.Ends.{ends, after, summed_back}
use Rattle.run.proofs.Ends.{back_last, back_next, back_as, same_counts}
use Rattle.run_cross_lines.specs.Lines.{entry_of}
use Rattle.run_cross_lines.specs.Pass.{Counted}
use Rattle.run_cross_lines.proofs.Entries.{entry_below, one_axis, one_cell}
use Rattle.run_cross_lines.proofs.Hits.{all_crossings_lem, counted_quick}
use Rattle.run_cross_back.specs.Back.{mark_of, SumsFit, SummedBack, SummedFrom, with_next, next_added}

-- ---- the next entry

entry_after : (g : Grid) (axis : Axis) (c : Cell) → entry_of g axis (after axis c) ≡ entry_of g axis c + 3 * stride_on g axis
unfolding entry_of
entry_after g axis c =
    let here = ap (index_of g) (sym (put_same axis c)) ∙ index_along axis (count_on Y g) (count_on Z g) (cell_on axis c) c in
    let there = index_along axis (count_on Y g) (count_on Z g) (cell_on axis c + 1) c in
    omega (arith, here, there)

-- ---- one entry more

-- where the next number lies is where the next cell's entry is, and there is more on the line where there is a next cell
pub record OnLine (g : Grid) (axis : Axis) (c : Cell) (at apart : ℕ) (more : Bool) : Type 0 where
  pub entered : at ≡ entry_of g axis c
  pub step : apart ≡ 3 * stride_on g axis
  pub told : more ≡ ltb (cell_on axis c + 1) (count_on axis g)

module _ (g : Grid) (bounded : in_bounds g ≡ true) (old : List ℕ) where
  -- what the sum at an entry is, while those from the entry behind it on are summed
  with_next_lem : (axis : Axis) (c : Cell) (l : List ℕ) → Inside g c → cell_on axis c + 1 < count_on axis g → SummedFrom g old (entry_of g axis c + 1) l
      → with_next (entry_of g axis c) (3 * stride_on g axis) l ≡ summed_back g axis (mark_of g old axis) c
  with_next_lem axis c l w h s =
      ap₂ ◌+◌
      (s.rest axis c w (omega arith))
      (ap (λ (i : ℕ). get_or l i 0) (sym (entry_after g axis c))
      ∙ s.done axis (after axis c) (inside_put g axis w h) (omega (arith, entry_after g axis c, stride_pos g bounded axis)))
      ∙ sym (back_next g axis (mark_of g old axis) c h)

  -- the next entry is one of the list's, and the sum fits
  pub next_fits : (axis : Axis) (c : Cell) (at apart : ℕ) (more : Bool) (l : List ℕ) → OnLine g axis c at apart more → Inside g c → length old ≡ 3 * total g → SumsFit g old
      → SummedFrom g old (entry_of g axis c + 1) l → more ≡ true → (at + apart < length l) × (with_next at apart l < 2 ^ 32)
  next_fits axis c at apart more l o w long f s m =
      let h = ltb-true (cell_on axis c + 1) (count_on axis g) (sym o.told ∙ m) in
      rw (o.entered, o.step) (
        omega (arith, entry_after g axis c, entry_below g axis (after axis c) (inside_put g axis w h), s.long),
        rw (with_next_lem axis c l w h s) (f axis c w),
      )

  pub summed_more : (axis : Axis) (c : Cell) (at apart : ℕ) (more : Bool) (l m : List ℕ) → OnLine g axis c at apart more → Inside g c → length old ≡ 3 * total g
      → SummedFrom g old (entry_of g axis c + 1) l → m ≡ next_added at apart more l → SummedFrom g old (entry_of g axis c) m
  summed_more axis c at apart more l m o w long s q = rw (q, o.entered, o.step, o.told) (go (dec_lt (cell_on axis c + 1) (count_on axis g)))
    where
      e : ℕ
      e = entry_of g axis c

      -- the entry itself, and all others as they were
      stored : (n : List ℕ) → length n ≡ length l → get_or n e 0 ≡ summed_back g axis (mark_of g old axis) c → ((i : ℕ) → (i ≡ e → ⊥) → get_or n i 0 ≡ get_or l i 0)
          → SummedFrom g old e n
      stored n same here others = record { long = same ∙ s.long; done = λ a d v k. settled a d v k (ℕ_discrete (entry_of g a d) e); rest = λ a d v k. others (entry_of g a d) (λ q. omega arith) ∙ s.rest a d v (omega arith) }
        where
          settled : (a : Axis) (d : Cell) → Inside g d → e ≤ entry_of g a d → Dec (entry_of g a d ≡ e) → mark_of g n a d ≡ summed_back g a (mark_of g old a) d
          settled a d v k (yes q) =
              ap (λ (i : ℕ). get_or n i 0) q ∙ here
              ∙ sym (ap₂ (λ (b : Axis) (x : Cell). summed_back g b (mark_of g old b) x) (one_axis g a axis d c q) (one_cell g a axis d c v w q))
          settled a d v k (no q) = others (entry_of g a d) q ∙ s.done a d v (omega arith)

      sum : ℕ
      sum = with_next e (3 * stride_on g axis) l

      go : Dec (cell_on axis c + 1 < count_on axis g) → SummedFrom g old e (next_added e (3 * stride_on g axis) (ltb (cell_on axis c + 1) (count_on axis g)) l)
      go (yes h) =
          rw (lt-ltb (cell_on axis c + 1) (count_on axis g) h)
          (stored (set l e sum) (length-set l e sum)
          (stored_at 0 l e e sum (omega (arith, entry_below g axis c w, s.long)) refl ∙ with_next_lem axis c l w h s)
          (λ i q. get_or-set_other l e i sum 0 q))
      go (no h) =
          rw (le-ltb (cell_on axis c + 1) (count_on axis g) (omega arith))
          (stored l refl (s.rest axis c w (omega arith) ∙ sym (back_last g axis (mark_of g old axis) c (omega (arith, inside_on g w axis)))) (λ i q. refl))

-- ---- from the first to the last

pub summed_none : (g : Grid) (l : List ℕ) (e : ℕ) → e ≡ 3 * total g → SummedFrom g l e l
summed_none g l e q =
    record { long = refl; done = λ a c w h. absurd (past a c w h); rest = λ a c w h. refl }
  where
    past : (a : Axis) (c : Cell) → Inside g c → e ≤ entry_of g a c → ⊥
    past a c w h = omega (arith, entry_below g a c w)

pub summed_all : (g : Grid) (old l : List ℕ) (e : ℕ) → e ≡ 0 → SummedFrom g old e l → SummedBack g old l
summed_all g old l e q s = record { long = s.long; each = λ a c w. s.done a c w (omega arith) }

-- ---- the crossings

-- the marks of the quick pass, summed back
marks_summed : (g : Grid) (m : Mesh) (l : List ℕ) → Counted Quick g m (length (triangles_in m)) l
    → (axis : Axis) (c : Cell) → Inside g c → summed_back g axis (mark_of g l axis) c ≡ crossings g m axis c
marks_summed g m l s axis c w = back_as g axis (mark_of g l axis) (ends g m axis) (counted_quick g m l s axis) c w ∙ same_counts g m axis c w

-- none is above the number of triangles
pub marks_fit : (g : Grid) (m : Mesh) (l : List ℕ) → length (triangles_in m) ≤ 131072 → Counted Quick g m (length (triangles_in m)) l → SumsFit g l
unfolding crossings
marks_fit g m l few s axis c w = omega (arith, marks_summed g m l s axis c w, count_le (crosses g m axis c) (length (triangles_in m)))

pub back_crossings : (g : Grid) (m : Mesh) (old new : List ℕ) → Counted Quick g m (length (triangles_in m)) old → SummedBack g old new → new ≡ all_crossings g m
back_crossings g m old new s t = all_crossings_lem g m new (t.long ∙ s.long) (λ a c w. t.each a c w ∙ marks_summed g m old s a c w)
