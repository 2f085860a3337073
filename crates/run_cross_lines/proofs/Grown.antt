-- Entries that grow by one: nothing grows, one growth after another, and the growths of a line, a row, an axis and a triangle put
-- together. Each step is a fact about tests on the numbers of a cell's line. Assumes nothing.
use Prim.Native.Nat.{ℕ, ◌+◌, ◌-◌, ◌*◌, ◌/◌, ◌^◌, ◌≤◌, ◌<◌}
use native.Mathlib.Decide.{dec_lt, ℕ_discrete}
use native.Mathlib.Omega.{arith}
use mathlib.Core.Path.{◌≡◌, refl, sym, ap, ap₂, ◌∙◌, subst}
use mathlib.Core.Bool.{Bool, true, false, cond, ◌&&◌, and-false, true≢false}
use mathlib.Core.List.{List}
use lib.Dec.{leb, ltb, eqb}
use lib.ListN.{length, get_or, get_or-eq_default}
use lib.Ieee.{Float}
use borrow.Author.Tests.{eqb-true, leb-true, lt-ltb, le-ltb, le-leb, eq-eqb, ne_eqb}
use Rattle.point.specs.declared.Axis.{Axis}
use Rattle.point.specs.declared.Axis.TheVariants.{X, Y, Z}
use Rattle.grid.specs.declared.Grid.{Grid}
use Rattle.grid.specs.declared.Cell.{Cell}
use Rattle.grid.specs.Axes.{count_on, size_on, cell_on, next, cell_from}
use Rattle.grid.specs.Index.{Inside, cell_at, total, stride_on}
use Rattle.grid.proofs.Facts.{inside_on}
use Rattle.terms.specs.declared.Pass.{Pass}
use Rattle.terms.specs.declared.Pass.TheVariants.{Plain, Quick}
use Rattle.geo_ray.specs.declared.RayHit.{RayHit}
use Rattle.geo_ray.specs.declared.RayHit.TheVariants.{Miss}
use Rattle.mesh.specs.declared.Corners.{Corners}
use Rattle.run.specs.Signs.{axis_at, reaches}
use Rattle.slices.specs.Counts.{Room, PlacesBelow, Stepped}
use Rattle.run_cross_lines.specs.Lines.{u_of, v_of, axis_number, entry_of}
use Rattle.run_cross_lines.specs.Pass.{Grown, same, on_line, adds_at, adds_on, line_crossed, row_crossed, axis_crossed, hit_on, crossed_by}
use Rattle.run_cross_lines.proofs.Entries.{on_its_line, line_number, line_u, line_v, inside_line, same_place, entry_below, one_axis, one_cell, entry_along, inside_at_lem, entry_at}

-- ---- growths in general

pub room_less : (n k : ℕ) (l : List ℕ) → n ≤ k → Room k l → Room n l
room_less n k l h r i = omega (arith, r i)

module _ {g : Grid} where
  pub grown_none : {test : Axis → Cell → Bool} (l : List ℕ) → ((a : Axis) (c : Cell) → Inside g c → test a c ≡ false) → Grown g test l l
  grown_none {test} l h = record { long = refl; each = λ a c w. sym (ap (λ (b : Bool). get_or l (entry_of g a c) 0 + cond b 1 0) (h a c w) ∙ plus _) }
    where
      plus : (n : ℕ) → n + 0 ≡ n
      plus n = omega arith

  pub grown_as : {p q : Axis → Cell → Bool} {l m : List ℕ} → ((a : Axis) (c : Cell) → Inside g c → p a c ≡ q a c) → Grown g p l m → Grown g q l m
  grown_as {p} {q} {l} {m} h s =
      record { long = s.long; each = λ a c w. s.each a c w ∙ ap (λ (b : Bool). get_or l (entry_of g a c) 0 + cond b 1 0) (h a c w) }

  -- r is p or q, and never both
  pub grown_then : {p q r : Axis → Cell → Bool} {l m n : List ℕ} → ((a : Axis) (c : Cell) → Inside g c → cond (r a c) 1 0 ≡ cond (p a c) 1 0 + cond (q a c) 1 0)
      → Grown g p l m → Grown g q m n → Grown g r l n
  grown_then {p} {q} {r} {l} {m} {n} h s t =
      record { long = t.long ∙ s.long; each = λ a c w. omega (arith, s.each a c w, t.each a c w, h a c w) }

  -- what has grown has room for one less
  pub room_after : {test : Axis → Cell → Bool} {l m : List ℕ} (n k : ℕ) → k ≡ n + 1 → length l ≡ 3 * total g → Room k l → Grown g test l m → Room n m
  room_after {test} {l} {m} n k e long r s i = go (dec_lt i (3 * total g))
    where
      one : (b : Bool) → cond b 1 0 ≤ 1
      one true = omega arith
      one false = omega arith

      go : Dec (i < 3 * total g) → get_or m i 0 + n < 2 ^ 32
      go (yes h) =
          subst (λ (j : ℕ). get_or m j 0 + n < 2 ^ 32) (entry_at g i)
          (omega (arith, s.each (axis_at i) (cell_at g (i / 3)) (inside_at_lem g i h), one (test (axis_at i) (cell_at g (i / 3))), r (entry_of g (axis_at i) (cell_at g (i / 3)))))
      go (no h) =
          let past : length m ≤ i = omega (arith, s.long) in
          let none : get_or m i 0 ≡ 0 = get_or-eq_default m 0 past in
          omega (arith, r i)

-- ---- a line

both : (a b : Bool) → (a && b) ≡ true → (a ≡ true) × (b ≡ true)
both true b h = (refl, h)
both false b h = absurd (true≢false (sym h))

pub same_self : (a : Axis) → same a a ≡ true
same_self a = eq-eqb (axis_number a) (axis_number a) refl

-- the test of a line holds of its cells, and of no others
on_line_lem : (axis : Axis) (u v first last j : ℕ) → first ≤ j → j ≤ last → on_line axis u v first last axis (cell_from axis j u v) ≡ true
on_line_lem axis u v first last j h l =
    rw (same_self axis, line_u axis j u v, line_v axis j u v, line_number axis j u v, eq-eqb u u refl, eq-eqb v v refl, le-leb first j h, le-leb j last l)

record Found (axis : Axis) (u v first last : ℕ) (a : Axis) (c : Cell) : Type 0 where
  pub along : a ≡ axis
  pub cell_is : c ≡ cell_from axis (cell_on axis c) u v
  pub from : first ≤ cell_on axis c
  pub to : cell_on axis c ≤ last

found : (axis : Axis) (u v first last : ℕ) (a : Axis) (c : Cell) → on_line axis u v first last a c ≡ true → Found axis u v first last a c
found axis u v first last a c h =
    let parts = both (same a axis && eqb (u_of axis c) u) (eqb (v_of axis c) v && (leb first (cell_on axis c) && leb (cell_on axis c) last)) h in
    let su = both (same a axis) (eqb (u_of axis c) u) parts.0 in
    let vn = both (eqb (v_of axis c) v) (leb first (cell_on axis c) && leb (cell_on axis c) last) parts.1 in
    let n = both (leb first (cell_on axis c)) (leb (cell_on axis c) last) vn.1 in
    let e-u = eqb-true (u_of axis c) u su.1 in
    let e-v = eqb-true (v_of axis c) v vn.0 in
    record {
      along = same_place a axis (eqb-true (axis_number a) (axis_number axis) su.0);
      cell_is = sym (on_its_line axis c) ∙ ap₂ (λ (x : ℕ) (y : ℕ). cell_from axis (cell_on axis c) x y) e-u e-v;
      from = leb-true first (cell_on axis c) n.0;
      to = leb-true (cell_on axis c) last n.1;
    }

-- a line's cells lie within the entries, a step apart
pub line_within : (g : Grid) (axis : Axis) (u v first last : ℕ) → u < count_on (next axis) g → v < count_on (next (next axis)) g → first ≤ last → last < count_on axis g
    → PlacesBelow (entry_of g axis (cell_from axis first u v)) (3 * stride_on g axis) (last - first + 1) (3 * total g)
line_within g axis u v first last hu hv hf hn j h =
    subst (λ (i : ℕ). i < 3 * total g) (entry_along g axis first j u v)
    (entry_below g axis (cell_from axis (first + j) u v) (inside_line g axis (first + j) u v (omega arith) hu hv))

-- one added a step apart is one added to the line's cells
pub line_grown : (g : Grid) (axis : Axis) (u v first last : ℕ) (l m : List ℕ) → u < count_on (next axis) g → v < count_on (next (next axis)) g → first ≤ last → last < count_on axis g
    → Stepped (entry_of g axis (cell_from axis first u v)) (3 * stride_on g axis) (last - first + 1) l m → Grown g (on_line axis u v first last) l m
line_grown g axis u v first last l m hu hv hf hn s = record { long = s.long; each = λ a c w. go a c w (on_line axis u v first last a c) refl }
  where
    start : ℕ
    start = entry_of g axis (cell_from axis first u v)

    step : ℕ
    step = 3 * stride_on g axis

    place_of : (a : Axis) (c : Cell) → Found axis u v first last a c → entry_of g a c ≡ start + (cell_on axis c - first) * step
    place_of a c f =
        let from = f.from in
        let number : cell_on axis c ≡ first + (cell_on axis c - first) = omega arith in
        ap₂ (λ (b : Axis) (d : Cell). entry_of g b d) f.along f.cell_is
        ∙ ap (λ (n : ℕ). entry_of g axis (cell_from axis n u v)) number
        ∙ entry_along g axis first (cell_on axis c - first) u v

    off : (a : Axis) (c : Cell) → Inside g c → on_line axis u v first last a c ≡ false → (j : ℕ) → j < last - first + 1 → entry_of g a c ≡ start + j * step → ⊥
    off a c w h j k e =
        let d = cell_from axis (first + j) u v in
        let i : entry_of g a c ≡ entry_of g axis d = e ∙ sym (entry_along g axis first j u v) in
        let ea = one_axis g a axis c d i in
        let ec = one_cell g a axis c d w (inside_line g axis (first + j) u v (omega arith) hu hv) i in
        true≢false
        (sym (on_line_lem axis u v first last (first + j) (omega arith) (omega arith)) ∙ sym (ap₂ (λ (b : Axis) (x : Cell). on_line axis u v first last b x) ea ec) ∙ h)

    go : (a : Axis) (c : Cell) → Inside g c → (b : Bool) → on_line axis u v first last a c ≡ b
        → get_or m (entry_of g a c) 0 ≡ get_or l (entry_of g a c) 0 + cond (on_line axis u v first last a c) 1 0
    go a c w true h =
        let f = found axis u v first last a c h in
        let from = f.from in
        let to = f.to in
        subst (λ (b : Bool). get_or m (entry_of g a c) 0 ≡ get_or l (entry_of g a c) 0 + cond b 1 0) (sym h)
        (subst (λ (i : ℕ). get_or m i 0 ≡ get_or l i 0 + 1) (sym (place_of a c f)) (s.on (cell_on axis c - first) (omega arith)))
    go a c w false h =
        subst (λ (b : Bool). get_or m (entry_of g a c) 0 ≡ get_or l (entry_of g a c) 0 + cond b 1 0) (sym h) (s.off (entry_of g a c) (off a c w h) ∙ sym (plus _))
      where
        plus : (n : ℕ) → n + 0 ≡ n
        plus n = omega arith

-- ---- one line, one row more

-- of the numbers below v + 1 one is v, and the others are below v
one_more : (w v : ℕ) (s : Bool) (r : ℕ → Bool) → cond (ltb w (v + 1) && (s && r w)) 1 0 ≡ cond (ltb w v && (s && r w)) 1 0 + cond (s && (eqb w v && r v)) 1 0
one_more w v s r = go (dec_lt w v) (ℕ_discrete w v)
  where
    none : (b : Bool) → cond b 1 0 ≡ cond b 1 0 + cond (s && false) 1 0
    none b = rw and-false (omega arith)

    go : Dec (w < v) → Dec (w ≡ v) → cond (ltb w (v + 1) && (s && r w)) 1 0 ≡ cond (ltb w v && (s && r w)) 1 0 + cond (s && (eqb w v && r v)) 1 0
    go (yes h) d = rw (lt-ltb w (v + 1) (omega arith), lt-ltb w v h, ne_eqb w v (λ e. omega arith)) (none (s && r w))
    go (no h) (yes e) = rw (lt-ltb w (v + 1) (omega arith), le-ltb w v (omega arith), eq-eqb w v e, ← e) (omega arith)
    go (no h) (no e) = rw (le-ltb w (v + 1) (omega arith), le-ltb w v (omega arith), ne_eqb w v e, and-false)

pub row_none : (pass : Pass) (g : Grid) (axis : Axis) (u : ℕ) (hit : ℕ → RayHit) (l : List ℕ) → Grown g (λ a c. ltb (v_of axis c) 0 && row_crossed pass g axis u hit a c) l l
row_none pass g axis u hit l = grown_none l (λ a c w. ap (λ (b : Bool). b && row_crossed pass g axis u hit a c) (le-ltb (v_of axis c) 0 (omega arith)))

pub row_more : (pass : Pass) (g : Grid) (axis : Axis) (u v : ℕ) (hit : ℕ → RayHit) {l m n : List ℕ} → Grown g (λ a c. ltb (v_of axis c) v && row_crossed pass g axis u hit a c) l m
    → Grown g (line_crossed pass g axis u v (hit v)) m n → Grown g (λ a c. ltb (v_of axis c) (v + 1) && row_crossed pass g axis u hit a c) l n
row_more pass g axis u v hit s t =
    grown_then (λ a c w. one_more (v_of axis c) v (same a axis && eqb (u_of axis c) u) (λ i. adds_on pass g axis c (hit i))) s t

pub row_all : (pass : Pass) (g : Grid) (axis : Axis) (u v : ℕ) (hit : ℕ → RayHit) {l m : List ℕ} → count_on (next (next axis)) g ≤ v
    → Grown g (λ a c. ltb (v_of axis c) v && row_crossed pass g axis u hit a c) l m → Grown g (row_crossed pass g axis u hit) l m
row_all pass g axis u v hit h s =
    grown_as (λ a c w. ap (λ (b : Bool). b && row_crossed pass g axis u hit a c) (lt-ltb (v_of axis c) v (omega (arith, inside_on g w (next (next axis)))))) s

-- nothing is added where nothing is reached
adds_none : (pass : Pass) (size : Float) (count i : ℕ) (hit : RayHit) → reaches size i hit ≡ false → adds_at pass size count i hit ≡ false
adds_none Plain size count i hit h = h
adds_none Quick size count i hit h = rw h

-- a line whose ray reaches no cell
pub line_passed : (pass : Pass) (g : Grid) (axis : Axis) (u v : ℕ) (hit : RayHit) (l : List ℕ) → ((i : ℕ) → reaches (size_on axis g) i hit ≡ false)
    → Grown g (line_crossed pass g axis u v hit) l l
line_passed pass g axis u v hit l h =
    grown_none l
    (λ a c w. rw (adds_none pass (size_on axis g) (count_on axis g) (cell_on axis c) hit (h (cell_on axis c)), and-false (eqb (v_of axis c) v), and-false))

-- a row of lines that are all missed
pub row_missed : (pass : Pass) (g : Grid) (axis : Axis) (u : ℕ) (hit : ℕ → RayHit) (l : List ℕ) → ((v : ℕ) → v < count_on (next (next axis)) g → hit v ≡ Miss)
    → Grown g (row_crossed pass g axis u hit) l l
row_missed pass g axis u hit l h =
    grown_none l
    (λ a c w. rw (h (v_of axis c) (inside_on g w (next (next axis))), adds_none pass (size_on axis g) (count_on axis g) (cell_on axis c) Miss refl, and-false))

pub axis_none : (pass : Pass) (g : Grid) (axis : Axis) (hit : ℕ → ℕ → RayHit) (l : List ℕ) → Grown g (λ a c. ltb (u_of axis c) 0 && axis_crossed pass g axis hit a c) l l
axis_none pass g axis hit l = grown_none l (λ a c w. ap (λ (b : Bool). b && axis_crossed pass g axis hit a c) (le-ltb (u_of axis c) 0 (omega arith)))

pub axis_more : (pass : Pass) (g : Grid) (axis : Axis) (u : ℕ) (hit : ℕ → ℕ → RayHit) {l m n : List ℕ} → Grown g (λ a c. ltb (u_of axis c) u && axis_crossed pass g axis hit a c) l m
    → Grown g (row_crossed pass g axis u (hit u)) m n → Grown g (λ a c. ltb (u_of axis c) (u + 1) && axis_crossed pass g axis hit a c) l n
axis_more pass g axis u hit s t =
    grown_then
    (λ a c w. one_more (u_of axis c) u (same a axis) (λ i. adds_on pass g axis c (hit i (v_of axis c))))
    s
    (grown_as (λ a c w. assoc (same a axis) (eqb (u_of axis c) u) _) t)
  where
    assoc : (a b c : Bool) → ((a && b) && c) ≡ (a && (b && c))
    assoc true b c = refl
    assoc false b c = refl

pub axis_all : (pass : Pass) (g : Grid) (axis : Axis) (u : ℕ) (hit : ℕ → ℕ → RayHit) {l m : List ℕ} → count_on (next axis) g ≤ u
    → Grown g (λ a c. ltb (u_of axis c) u && axis_crossed pass g axis hit a c) l m → Grown g (axis_crossed pass g axis hit) l m
axis_all pass g axis u hit h s =
    grown_as (λ a c w. ap (λ (b : Bool). b && axis_crossed pass g axis hit a c) (lt-ltb (u_of axis c) u (omega (arith, inside_on g w (next axis))))) s

-- other answers that are the same on the grid's lines
pub axis_as : (pass : Pass) (g : Grid) (axis : Axis) (p q : ℕ → ℕ → RayHit) {l m : List ℕ} → ((u v : ℕ) → v < count_on (next (next axis)) g → p u v ≡ q u v)
    → Grown g (axis_crossed pass g axis p) l m → Grown g (axis_crossed pass g axis q) l m
axis_as pass g axis p q h s =
    grown_as (λ a c w. ap (λ (r : RayHit). same a axis && adds_on pass g axis c r) (h (u_of axis c) (v_of axis c) (inside_on g w (next (next axis))))) s

-- ---- the three axes

pub triangle_grown : (pass : Pass) (g : Grid) (t : Corners) {k l m n : List ℕ} → Grown g (axis_crossed pass g X (hit_on g t X)) k l → Grown g (axis_crossed pass g Y (hit_on g t Y)) l m
    → Grown g (axis_crossed pass g Z (hit_on g t Z)) m n → Grown g (crossed_by pass g t) k n
unfolding crossed_by
triangle_grown pass g t {k} {l} {m} {n} x y z =
    record { long = z.long ∙ y.long ∙ x.long; each = go }
  where
    go : (a : Axis) (c : Cell) → Inside g c → get_or n (entry_of g a c) 0 ≡ get_or k (entry_of g a c) 0 + cond (crossed_by pass g t a c) 1 0
    go X c w = omega (arith, x.each X c w, y.each X c w, z.each X c w)
    go Y c w = omega (arith, x.each Y c w, y.each Y c w, z.each Y c w)
    go Z c w = omega (arith, x.each Z c w, y.each Z c w, z.each Z c w)
