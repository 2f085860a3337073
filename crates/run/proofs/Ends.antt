-- The marks summed back are the crossing counts. A hit that reaches a cell either ends there or reaches the next, and never both; so a
-- count is the marks of its cell and the count of the next, and at the end of the line the marks alone. What has this form from the far
-- end on is the sum. Once over the three axes. Assumes nothing.
use Prim.Native.Nat.{ℕ, zero, suc, ◌+◌, ◌-◌, ◌<◌}
use native.Mathlib.Omega.{arith}
use mathlib.Core.Path.{◌≡◌, refl, sym, ap, ap₂, ◌∙◌}
use mathlib.Core.Bool.{Bool, true, false, cond, not, ◌&&◌, true≢false}
use lib.Dec.{ltb}
use lib.IntN.{ℤ, pos, negsuc}
use lib.ListN.{length}
use lib.Ieee.{Float}
use borrow.Author.Tests.{leb-true, le-leb, lt-ltb, le-ltb}
use Rattle.lists.specs.Range.{count_below, sum_below}
use Rattle.lists.proofs.Range.{count_same, count_nowhere, count_split, sum_none, sum_first}
use Rattle.float.specs.Arith.{◌⊘◌}
use Rattle.float_floor.specs.Cell.{floor_of}
use Rattle.point.specs.declared.Axis.{Axis}
use Rattle.point.specs.declared.Axis.TheVariants.{X, Y, Z}
use Rattle.grid.specs.declared.Grid.{Grid}
use Rattle.grid.specs.declared.Cell.{Cell}
use Rattle.grid.specs.Axes.{count_on, size_on, cell_on, put}
use Rattle.grid.specs.Index.{Inside}
use Rattle.grid.proofs.Laws.{put_on, put_same, put_again}
use Rattle.grid.proofs.Facts.{inside_on, inside_put}
use Rattle.geo_ray.specs.declared.RayHit.{RayHit}
use Rattle.geo_ray.specs.declared.RayHit.TheVariants.{Miss, Grazed, Hit}
use Rattle.mesh.specs.Mesh.{Mesh, triangles_in}
use Rattle.run.specs.Signs.{at_most, reaches, ray_from, crosses, crossings}
use Rattle.run.specs.Ends.{ends_at, ends, after, summed_back}

-- ---- a line

own_place : (axis : Axis) (c : Cell) → put axis (cell_on axis c + 0) c ≡ c
own_place axis c = ap (λ (n : ℕ). put axis n c) (plus (cell_on axis c)) ∙ put_same axis c
  where
    plus : (n : ℕ) → n + 0 ≡ n
    plus n = omega arith

-- ---- the sum, from the far end on

-- the last cell of a line has its own mark
pub back_last : (g : Grid) (axis : Axis) (mark : Cell → ℕ) (c : Cell) → cell_on axis c + 1 ≡ count_on axis g → summed_back g axis mark c ≡ mark c
unfolding summed_back
back_last g axis mark c e = go (count_on axis g - cell_on axis c) (omega arith)
  where
    from : ℕ → ℕ
    from j = mark (put axis (cell_on axis c + j) c)

    go : (k : ℕ) → k ≡ 1 → sum_below from k ≡ mark c
    go k q = ap (sum_below from) q ∙ sum_first from 0 ∙ ap₂ ◌+◌ (ap mark (own_place axis c)) (sum_none (λ j. from (j + 1))) ∙ plus (mark c)
      where
        plus : (n : ℕ) → n + 0 ≡ n
        plus n = omega arith

-- any other has its own and those from the next on
pub back_next : (g : Grid) (axis : Axis) (mark : Cell → ℕ) (c : Cell) → cell_on axis c + 1 < count_on axis g
    → summed_back g axis mark c ≡ mark c + summed_back g axis mark (after axis c)
unfolding summed_back
back_next g axis mark c h = go (count_on axis g - (cell_on axis c + 1)) (count_on axis g - cell_on axis c) (omega arith) refl
  where
    from : ℕ → ℕ
    from j = mark (put axis (cell_on axis c + j) c)

    later : ℕ → ℕ
    later j = mark (put axis (cell_on axis (after axis c) + j) (after axis c))

    shifted : (j : ℕ) → from (j + 1) ≡ later j
    shifted j =
        ap mark (ap (λ (n : ℕ). put axis n c) (sum (cell_on axis c) j ∙ ap (λ (n : ℕ). n + j) (sym (put_on axis (cell_on axis c + 1) c)))
        ∙ sym (put_again axis (cell_on axis (after axis c) + j) (cell_on axis c + 1) c))
      where
        sum : (n j : ℕ) → n + (j + 1) ≡ n + 1 + j
        sum n j = omega arith

    go : (k l : ℕ) → l ≡ k + 1 → k ≡ count_on axis g - (cell_on axis c + 1) → sum_below from l ≡ mark c + sum_below later (count_on axis g - cell_on axis (after axis c))
    go k l e q =
        ap (sum_below from) e
        ∙ sum_first from k
        ∙ ap₂ ◌+◌ (ap mark (own_place axis c)) (ap₂ (λ (f : ℕ → ℕ) (n : ℕ). sum_below f n) (λ i j. shifted j i) (q ∙ ap (λ (n : ℕ). count_on axis g - n) (sym (put_on axis (cell_on axis c + 1) c))))

-- so what is at the last cell its mark, and before it the mark and what is at the next, is the sum
is_summed : (g : Grid) (axis : Axis) (mark whole : Cell → ℕ)
    → ((c : Cell) → Inside g c → cell_on axis c + 1 ≡ count_on axis g → whole c ≡ mark c)
    → ((c : Cell) → Inside g c → cell_on axis c + 1 < count_on axis g → whole c ≡ mark c + whole (after axis c))
    → (c : Cell) → Inside g c → summed_back g axis mark c ≡ whole c
is_summed g axis mark whole last more c w = go (count_on axis g - (cell_on axis c + 1)) c w (omega (arith, inside_on g w axis))
  where
    go : (k : ℕ) (c : Cell) → Inside g c → cell_on axis c + 1 + k ≡ count_on axis g → summed_back g axis mark c ≡ whole c
    go zero c w e = back_last g axis mark c (omega arith) ∙ sym (last c w (omega arith))
    go (suc k) c w e =
        back_next g axis mark c (omega arith)
        ∙ ap (λ (n : ℕ). mark c + n) (go k (after axis c) (inside_put g axis w (omega arith)) (omega (arith, put_on axis (cell_on axis c + 1) c)))
        ∙ sym (more c w (omega arith))

-- the same marks on the grid give the same sums
pub back_as : (g : Grid) (axis : Axis) (p q : Cell → ℕ) → ((c : Cell) → Inside g c → p c ≡ q c) → (c : Cell) → Inside g c → summed_back g axis p c ≡ summed_back g axis q c
back_as g axis p q h =
    is_summed g axis p (summed_back g axis q)
    (λ c w e. back_last g axis q c e ∙ sym (h c w))
    (λ c w l. back_next g axis q c l ∙ ap (λ (n : ℕ). n + summed_back g axis q (after axis c)) (sym (h c w)))

-- ---- the counts

-- the ray of a line is the same from each of its cells
ray_of_line : (g : Grid) (m : Mesh) (axis : Axis) (n : ℕ) (c : Cell) (k : ℕ) → ray_from g m axis (put axis n c) k ≡ ray_from g m axis c k
unfolding ray_from
ray_of_line g m X n c k = refl
ray_of_line g m Y n c k = refl
ray_of_line g m Z n c k = refl

-- what reaches a cell reaches those before it
reaches_before : (size : Float) (i : ℕ) (hit : RayHit) → reaches size (i + 1) hit ≡ true → reaches size i hit ≡ true
reaches_before size i Miss h = h
reaches_before size i Grazed h = h
reaches_before size i (Hit t) h = go (floor_of (t ⊘ size)) h
  where
    go : (q : ℤ) → at_most (i + 1) q ≡ true → at_most i q ≡ true
    go (pos n) l = le-leb i n (omega (arith, leb-true (i + 1) n l))
    go (negsuc n) l = l

-- a cell that is reached is the last one reached, or the next is reached too
ends_or_goes_on : (size : Float) (count i : ℕ) (hit : RayHit)
    → cond (reaches size i hit) 1 0 ≡ cond (ends_at size count i hit) 1 0 + cond (ltb (i + 1) count && reaches size (i + 1) hit) 1 0
ends_or_goes_on size count i hit = go (reaches size i hit) (ltb (i + 1) count) (reaches size (i + 1) hit) (reaches_before size i hit)
  where
    go : (here more next : Bool) → (next ≡ true → here ≡ true) → cond here 1 0 ≡ cond (here && not (more && next)) 1 0 + cond (more && next) 1 0
    go true true true h = refl
    go true true false h = refl
    go true false next h = refl
    go false true true h = absurd (true≢false (sym (h refl)))
    go false true false h = refl
    go false false next h = refl

count_ends : (g : Grid) (m : Mesh) (axis : Axis) (c : Cell)
    → crossings g m axis c ≡ ends g m axis c + count_below (λ k. ltb (cell_on axis c + 1) (count_on axis g) && reaches (size_on axis g) (cell_on axis c + 1) (ray_from g m axis c k)) (length (triangles_in m))
unfolding crossings crosses ends
count_ends g m axis c = count_split _ _ _ (length (triangles_in m)) (λ k. ends_or_goes_on (size_on axis g) (count_on axis g) (cell_on axis c) (ray_from g m axis c k))

-- at the last cell of its line
count_last : (g : Grid) (m : Mesh) (axis : Axis) (c : Cell) → cell_on axis c + 1 ≡ count_on axis g → crossings g m axis c ≡ ends g m axis c
count_last g m axis c e =
    let none = count_nowhere _ (length (triangles_in m)) (λ k l. ap (λ (b : Bool). b && reaches (size_on axis g) (cell_on axis c + 1) (ray_from g m axis c k)) (le-ltb (cell_on axis c + 1) (count_on axis g) (omega arith))) in
    omega (arith, count_ends g m axis c, none)

-- and before it
count_next : (g : Grid) (m : Mesh) (axis : Axis) (c : Cell) → cell_on axis c + 1 < count_on axis g → crossings g m axis c ≡ ends g m axis c + crossings g m axis (after axis c)
unfolding crossings crosses
count_next g m axis c h = count_ends g m axis c ∙ ap (λ (n : ℕ). ends g m axis c + n) (count_same _ _ (length (triangles_in m)) (λ k l. on k))
  where
    on : (k : ℕ) → (ltb (cell_on axis c + 1) (count_on axis g) && reaches (size_on axis g) (cell_on axis c + 1) (ray_from g m axis c k))
        ≡ reaches (size_on axis g) (cell_on axis (after axis c)) (ray_from g m axis (after axis c) k)
    on k = rw (lt-ltb (cell_on axis c + 1) (count_on axis g) h, put_on axis (cell_on axis c + 1) c, ray_of_line g m axis (cell_on axis c + 1) c k)

-- "Its counts equal to the first pass's for all grids and triangles, once over the three axes" (document 02, §4)
pub same_counts : (g : Grid) (m : Mesh) (axis : Axis) (c : Cell) → Inside g c → summed_back g axis (ends g m axis) c ≡ crossings g m axis c
same_counts g m axis = is_summed g axis (ends g m axis) (crossings g m axis) (λ c w. count_last g m axis c) (λ c w. count_next g m axis c)
