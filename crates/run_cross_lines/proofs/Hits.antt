-- The ray of a line, from the parts that the pass works out once, and what its answer can be. Assumes nothing.
use Rattle.std.specs.Prelude.{if◌then◌else◌}
use Prim.Native.Nat.{ℕ, ◌+◌, ◌*◌, ◌/◌, ◌^◌, ◌≤◌, ◌<◌}
use native.Mathlib.Decide.{dec_lt}
use native.Mathlib.Omega.{arith}
use mathlib.Core.Path.{◌≡◌, refl, sym, ap, ◌∙◌, subst}
use mathlib.Core.Bool.{Bool, true, false, cond, ◌&&◌, ◌||◌}
use mathlib.Core.List.{List}
use lib.Dec.{eqb}
use lib.ListN.{length, get_or, replicate, length-replicate, get_or-replicate, get_or-eq_default}
use lib.Ieee.{Float}
use borrow.Author.Tests.{not-false}
use Rattle.float.specs.Arith.{◌⊖◌, ◌⊘◌, ◌≺◌, f0}
use Rattle.float.proofs.Bools.{and_second}
use Rattle.float_floor.specs.Cell.{floor_of, cell_of}
use Rattle.point.specs.declared.Axis.{Axis}
use Rattle.point.specs.declared.Axis.TheVariants.{X, Y, Z}
use Rattle.grid.specs.declared.Grid.{Grid}
use Rattle.grid.specs.declared.Cell.{Cell}
use Rattle.grid.specs.Axes.{count_on, size_on, cell_on, next, cell_from}
use Rattle.grid.specs.Index.{Inside, cell_at, total}
use Rattle.grid.specs.Bounds.{in_bounds}
use Rattle.grid.specs.Place.{centre_of}
use Rattle.grid.proofs.Facts.{bounds_of, on_axis, inside_on}
use Rattle.terms.specs.declared.Pass.{Pass}
use Rattle.terms.specs.declared.Pass.TheVariants.{Plain, Quick}
use Rattle.geo_ray.specs.declared.Three.{Three}
use Rattle.geo_ray.specs.declared.RayHit.TheVariants.{Miss, Grazed, Hit}
use Rattle.geo_ray.specs.Ray.{all_below, all_above, hits, grazes, reach, cast_of, across_z, across_y, along_x, ray_of}
use Rattle.geo_ray.proofs.Rays.{in_parts}
use Rattle.geo_ray.proofs.Sides as Sides
use Rattle.lists.specs.Range.{count_below}
use Rattle.lists.proofs.Range.{count_none, count_more, count_le}
use Rattle.lists.proofs.Table.{is_table}
use Rattle.mesh.specs.declared.Corners.{Corners}
use Rattle.mesh.specs.Mesh.{Mesh, triangles_in, corners_at}
use Rattle.run.specs.Signs.{axis_at, ray_from, crosses, crossings, crossings_at, all_crossings}
use Rattle.run.specs.Ends.{ends}
use Rattle.slices.specs.Counts.{Room}
use Rattle.run_cross_lines.specs.Lines.{u_of, v_of, centre_along, entry_of}
use Rattle.run_cross_lines.specs.Pass.{Grown, same, on_line, first_added, adds_on, line_crossed, hit_on, crossed_by, adds_for, Counted, may_meet, ahead, Across, cast_hit}
use Rattle.run_cross_lines.proofs.Entries.{entry_below, inside_at_lem, entry_at}
use Rattle.run_cross_lines.proofs.Grown.{grown_as}
use Rattle.run_cross_lines.proofs.Reach.{added}

-- ---- the answer

pub must_miss : (zs ys xs : Three) → may_meet zs ys ≡ false → ray_of zs ys xs ≡ Miss
unfolding may_meet ray_of
must_miss zs ys xs h = Sides.must_miss _ _ _ _ (not-false _ h)

pub hit_ahead : (zs ys xs : Three) → ahead (ray_of zs ys xs) ≡ true
unfolding ray_of
hit_ahead zs ys xs =
    let w0 = zs.v0 ⊖ ys.v0 in
    let w1 = zs.v1 ⊖ ys.v1 in
    let w2 = zs.v2 ⊖ ys.v2 in
    let t = reach w0 w1 w2 xs.v0 xs.v1 xs.v2 in
    go t (hits w0 w1 w2 t) (grazes w0 w1 w2) (and_second (all_below w0 w1 w2 || all_above w0 w1 w2) (f0 ≺ t))
  where
    go : (t : Float) (b c : Bool) → (b ≡ true → f0 ≺ t ≡ true) → ahead (if b then Hit t else (if c then Grazed else Miss)) ≡ true
    go t true c h = h refl
    go t false true h = refl
    go t false false h = refl

-- a hit adds one from the first cell that the pass has for it to the cell of the quotient
pub hit_grown : (pass : Pass) (g : Grid) (axis : Axis) (u v first last : ℕ) (t : Float) {l m : List ℕ} → in_bounds g ≡ true → f0 ≺ t ≡ true
    → last ≡ cell_of (count_on axis g) (floor_of (t ⊘ size_on axis g)) → first ≡ first_added pass last → Grown g (on_line axis u v first last) l m
    → Grown g (line_crossed pass g axis u v (Hit t)) l m
hit_grown pass g axis u v first last t b h e f s =
    grown_as
    (λ a c w. ap (λ (r : Bool). (same a axis && eqb (u_of axis c) u) && (eqb (v_of axis c) v && r))
    (rw (f, e) (added pass t (size_on axis g) (cell_on axis c) (count_on axis g) h (on_axis (bounds_of g b) axis).sized (inside_on g w axis))))
    s

-- ---- the line's ray, in parts

pub in_parts_on : (g : Grid) (t : Corners) (axis : Axis) (u v : ℕ)
    → (let f = cast_of axis t.a t.b t.c in
    ray_of (across_z f (centre_along g (next (next axis)) v)) (across_y f (centre_along g (next axis) u)) (along_x f (centre_along g axis 0)) ≡ hit_on g t axis u v)
unfolding hit_on centre_of
in_parts_on g t X u v = in_parts (centre_of g (cell_from X 0 u v)) t.a t.b t.c X
in_parts_on g t Y u v = in_parts (centre_of g (cell_from Y 0 u v)) t.a t.b t.c Y
in_parts_on g t Z u v = in_parts (centre_of g (cell_from Z 0 u v)) t.a t.b t.c Z

pub cast_hits : (g : Grid) (t : Corners) (axis : Axis) (z0 z1 z2 : List Float)
    → Across g (next (next axis)) (cast_of axis t.a t.b t.c) (count_on (next (next axis)) g) z0 z1 z2
    → (u v : ℕ) → v < count_on (next (next axis)) g → cast_hit g axis (cast_of axis t.a t.b t.c) z0 z1 z2 u v ≡ hit_on g t axis u v
cast_hits g t axis z0 z1 z2 p u v h =
    let f = cast_of axis t.a t.b t.c in
    ap (λ (zs : Three). ray_of zs (across_y f (centre_along g (next axis) u)) (along_x f (centre_along g axis 0))) (p.each v h) ∙ in_parts_on g t axis u v

-- ---- the counts of the run

by_triangle : (pass : Pass) (g : Grid) (m : Mesh) (axis : Axis) (c : Cell) (k : ℕ) → adds_on pass g axis c (ray_from g m axis c k) ≡ crossed_by pass g (corners_at m k) axis c
unfolding ray_from crossed_by hit_on
by_triangle pass g m X c k = refl
by_triangle pass g m Y c k = refl
by_triangle pass g m Z c k = refl

pub counted_none : (pass : Pass) (g : Grid) (m : Mesh) (l : List ℕ) → l ≡ replicate (3 * total g) 0 → Counted pass g m 0 l
counted_none pass g m l e =
    record {
      long = ap length e ∙ length-replicate (3 * total g) 0;
      each = λ a c w. ap (λ (s : List ℕ). get_or s (entry_of g a c) 0) e ∙ get_or-replicate (3 * total g) (entry_of g a c) 0 0 (entry_below g a c w) ∙ sym (count_none (adds_for pass g m a c));
    }

-- no count is above the number of triangles, so no sum wraps
pub counted_room : (pass : Pass) (g : Grid) (m : Mesh) (k : ℕ) (l : List ℕ) → k ≤ 131072 → Counted pass g m k l → Room 5 l
counted_room pass g m k l h s i = go (dec_lt i (3 * total g))
  where
    go : Dec (i < 3 * total g) → get_or l i 0 + 5 < 2 ^ 32
    go (yes w) =
        subst (λ (j : ℕ). get_or l j 0 + 5 < 2 ^ 32) (entry_at g i)
        (omega (arith, s.each (axis_at i) (cell_at g (i / 3)) (inside_at_lem g i w), count_le (adds_for pass g m (axis_at i) (cell_at g (i / 3))) k))
    go (no w) =
        let past : length l ≤ i = omega (arith, s.long) in
        let none : get_or l i 0 ≡ 0 = get_or-eq_default l 0 past in
        omega arith

pub counted_more : (pass : Pass) (g : Grid) (m : Mesh) (k : ℕ) {l n : List ℕ} → Counted pass g m k l → Grown g (crossed_by pass g (corners_at m k)) l n → Counted pass g m (k + 1) n
counted_more pass g m k s t =
    record {
      long = t.long ∙ s.long;
      each = λ a c w. t.each a c w ∙ ap (λ (i : ℕ). i + cond (crossed_by pass g (corners_at m k) a c) 1 0) (s.each a c w) ∙ sym (count_more (adds_for pass g m a c) k ∙ ap (λ (b : Bool). count_below (adds_for pass g m a c) k + cond b 1 0) (by_triangle pass g m a c k));
    }

-- entries that are all the crossing counts are the crossings
pub all_crossings_lem : (g : Grid) (m : Mesh) (l : List ℕ) → length l ≡ 3 * total g
    → ((a : Axis) (c : Cell) → Inside g c → get_or l (entry_of g a c) 0 ≡ crossings g m a c) → l ≡ all_crossings g m
unfolding all_crossings crossings_at
all_crossings_lem g m l long each =
    is_table 0 (crossings_at g m) (3 * total g) l long
    (λ i h. ap (λ (j : ℕ). get_or l j 0) (sym (entry_at g i)) ∙ each (axis_at i) (cell_at g (i / 3)) (inside_at_lem g i h))

-- which is what the plain pass adds up, and of the quick pass the marks
pub counted_plain : (g : Grid) (m : Mesh) (l : List ℕ) → Counted Plain g m (length (triangles_in m)) l → l ≡ all_crossings g m
unfolding crossings crosses
counted_plain g m l s = all_crossings_lem g m l s.long s.each

pub counted_quick : (g : Grid) (m : Mesh) (l : List ℕ) → Counted Quick g m (length (triangles_in m)) l
    → (a : Axis) (c : Cell) → Inside g c → get_or l (entry_of g a c) 0 ≡ ends g m a c
unfolding ends
counted_quick g m l s = s.each
