-- Questions asked by themselves. A ray's reply never holds a NaN, since t > 0 fails for one; nor does a box, since its coordinates are sums and
-- differences of finite values. Assumes nothing.
use Rattle.std.specs.Prelude.{if◌then◌else◌}
use Prim.Native.Nat.{ℕ, zero, suc, ◌+◌, ◌-◌, ◌*◌, ◌/◌, ◌%◌, ◌^◌, compare}
use mathlib.Core.Path.{◌≡◌, refl, sym}
use mathlib.Core.Bool.{Bool, true, false, cond, beq, ◌&&◌, ◌||◌, true≢false}
use lib.Dec.{T, ltb}
use lib.Ieee.{Float, nan, inf, fin, Format, binary32, low, emax, prec, up, down, size, nearest, odd, units, round, sum, add, sub, neg, lt, le, is_nan, of_bits}
use lib.Ieee.Fits.{round_is}
use lib.Ieee.Scale.{finite}
use Rattle.float.specs.Arith.{◌⊕◌, ◌⊖◌, ◌≺◌, f0}
use Rattle.float.specs.Steps.{abs_of, least_of, greatest_of, finite_at_most}
use Rattle.float.proofs.Bools.{and_first, and_second}
use Rattle.point.specs.Point.{turned}
use Rattle.point.specs.declared.Point.{Point}
use Rattle.point.specs.declared.Axis.{Axis}
use Rattle.geo_box.specs.Box.{box_margin, least_of3, greatest_of3, padded_box}
use Rattle.geo_ray.specs.Ray.{weights_x, reach_x, all_below, all_above, hits, grazes, reply, ray_x, ray_aligned}
use Rattle.ask_geo.specs.Asked.{bound, within, point_nan, box_nan, ray_nan, answered}
use Rattle.refusals.specs.Numbers as Reply
use Rattle.geo_ray.specs.declared.RayHit.TheVariants.{Miss, Grazed, Hit}

-- what is given within the bounds, where no NaN is
pub given : {A : Type 0} {inside : Bool} (bad : A → Bool) (x : A) → inside ≡ true → bad x ≡ false → Reply.given x ≡ answered inside bad x
given bad x e h = rw (e, h)

-- ---- a ray's reply

above_no_nan : (t : Float) → f0 ≺ t ≡ true → is_nan t ≡ false
unfolding is_nan lt of_bits
above_no_nan nan h = absurd (true≢false (sym h))
above_no_nan (inf s) h = refl
above_no_nan (fin s m e) h = refl

reply_no_nan : (w0 w1 w2 t : Float) → ray_nan (reply w0 w1 w2 t) ≡ false
reply_no_nan w0 w1 w2 t = go (hits w0 w1 w2 t) (grazes w0 w1 w2) (and_second (all_below w0 w1 w2 || all_above w0 w1 w2) (f0 ≺ t))
  where
    go : (u v : Bool) → (u ≡ true → f0 ≺ t ≡ true) → ray_nan (if u then Hit t else (if v then Grazed else Miss)) ≡ false
    go true v h = above_no_nan t (h refl)
    go false true h = refl
    go false false h = refl

pub ray_no_nan : (o v0 v1 v2 : Point) (axis : Axis) → ray_nan (ray_aligned o v0 v1 v2 axis) ≡ false
unfolding ray_aligned ray_x
ray_no_nan o v0 v1 v2 axis =
    let p = turned axis o in
    let a = turned axis v0 in
    let b = turned axis v1 in
    let c = turned axis v2 in
    let w = weights_x p a b c in
    reply_no_nan w.v0 w.v1 w.v2 (reach_x p a b c)

-- ---- a box

cond_no_nan : (t : Bool) (x y : Float) → is_nan x ≡ false → is_nan y ≡ false → is_nan (cond t x y) ≡ false
cond_no_nan true x y p q = p
cond_no_nan false x y p q = q

odd_no_nan : (d : ℕ) (s : Bool) (q k l : ℕ) → is_nan (odd d s q k l) ≡ false
unfolding odd is_nan
odd_no_nan d s zero k l = refl
odd_no_nan d s (suc q) k l = refl

inf_no_nan : (s : Bool) → is_nan (inf s) ≡ false
unfolding is_nan
inf_no_nan s = refl

units_no_nan : (f : Format) (s : Bool) (q k : ℕ) → is_nan (units f s q k) ≡ false
unfolding units
units_no_nan f s q k =
    cond_no_nan (ltb (q * 2 ^ k) (2 ^ (low f + suc (emax f)))) (odd (suc (prec f)) s q k (low f)) (inf s) (odd_no_nan (suc (prec f)) s q k (low f)) (inf_no_nan s)

round_no_nan : (f : Format) (s : Bool) (num den : ℕ) → is_nan (round f s num den) ≡ false
round_no_nan f s num den = rw round_is (units_no_nan f s (nearest (n / u) (compare (n % u * 2) u)) k)
  where
    n : ℕ
    n = num * 2 ^ low f

    k : ℕ
    k = size (n / den) - prec f

    u : ℕ
    u = den * 2 ^ k

sum_no_nan : (f : Format) (s : Bool) (a : ℕ) (t : Bool) (b c : ℕ) → is_nan (sum f s a t b c) ≡ false
unfolding sum
sum_no_nan f s a t b c =
    cond_no_nan (beq s t) (round f s (a + b) c) (cond (ltb a b) (round f t (b - a) c) (round f (s && ltb b a) (a - b) c)) (round_no_nan f s (a + b) c)
    (cond_no_nan (ltb a b) (round f t (b - a) c) (round f (s && ltb b a) (a - b) c) (round_no_nan f t (b - a) c) (round_no_nan f (s && ltb b a) (a - b) c))

-- a sum and a difference of finite values
add_no_nan : (x y : Float) → T (finite x) → T (finite y) → is_nan (x ⊕ y) ≡ false
unfolding add
add_no_nan (fin s m e) (fin t n d) p q = sum_no_nan binary32 s (m * up e * down d) t (n * up d * down e) (down e * down d)
add_no_nan nan y p q = elim p [ ]
add_no_nan (inf _) y p q = elim p [ ]
add_no_nan (fin s m e) nan p q = elim q [ ]
add_no_nan (fin s m e) (inf _) p q = elim q [ ]

neg_finite : (x : Float) → T (finite x) → T (finite (neg x))
unfolding neg
neg_finite (fin s m e) p = tt
neg_finite nan p = elim p [ ]
neg_finite (inf _) p = elim p [ ]

sub_no_nan : (x y : Float) → T (finite x) → T (finite y) → is_nan (x ⊖ y) ≡ false
unfolding sub
sub_no_nan x y p q = add_no_nan x (neg y) p (neg_finite y q)

margin_finite : T (finite box_margin)
unfolding of_bits
margin_finite = tt

bound_finite : (x : Float) → finite_at_most x bound ≡ true → T (finite x)
unfolding abs_of le of_bits
bound_finite nan h = true≢false (sym h)
bound_finite (inf s) h = true≢false (sym h)
bound_finite (fin s m e) h = tt

cond_finite : (t : Bool) (x y : Float) → T (finite x) → T (finite y) → T (finite (cond t x y))
cond_finite true x y p q = p
cond_finite false x y p q = q

least_finite : (x y : Float) → T (finite x) → T (finite y) → T (finite (least_of x y))
least_finite x y p q = cond_finite (y ≺ x) y (cond (is_nan x) y x) q (cond_finite (is_nan x) y x q p)

greatest_finite : (x y : Float) → T (finite x) → T (finite y) → T (finite (greatest_of x y))
greatest_finite x y p q = cond_finite (x ≺ y) y (cond (is_nan x) y x) q (cond_finite (is_nan x) y x q p)

-- one axis of the box
low_no_nan : (a b c : Float) → T (finite a) → T (finite b) → T (finite c) → is_nan (least_of3 a b c ⊖ box_margin) ≡ false
unfolding least_of3
low_no_nan a b c p q r = sub_no_nan (least_of a (least_of b c)) box_margin (least_finite a (least_of b c) p (least_finite b c q r)) margin_finite

high_no_nan : (a b c : Float) → T (finite a) → T (finite b) → T (finite c) → is_nan (greatest_of3 a b c ⊕ box_margin) ≡ false
unfolding greatest_of3
high_no_nan a b c p q r = add_no_nan (greatest_of a (greatest_of b c)) box_margin (greatest_finite a (greatest_of b c) p (greatest_finite b c q r)) margin_finite

pub record Finite (p : Point) : Type 0 where
  pub x : T (finite p.x)
  pub y : T (finite p.y)
  pub z : T (finite p.z)

within_finite : (p : Point) → within p ≡ true → Finite p
unfolding within
within_finite p h =
    let i = finite_at_most p.x bound in
    let j = finite_at_most p.y bound in
    let k = finite_at_most p.z bound in
    record {
      x = bound_finite p.x (and_first i j (and_first (i && j) k h));
      y = bound_finite p.y (and_second i j (and_first (i && j) k h));
      z = bound_finite p.z (and_second (i && j) k h);
    }

-- six coordinates that are no NaN
six : (u v w x y z : Bool) → u ≡ false → v ≡ false → w ≡ false → x ≡ false → y ≡ false → z ≡ false → ((u || v || w) || (x || y || z)) ≡ false
six u v w x y z a b c d e f = rw (a, b, c, d, e, f)

finite_box : (a b c : Point) → Finite a → Finite b → Finite c → box_nan (padded_box a b c) ≡ false
unfolding padded_box point_nan
finite_box a b c p q r =
    six _ _ _ _ _ _ (low_no_nan a.x b.x c.x p.x q.x r.x)
    (low_no_nan a.y b.y c.y p.y q.y r.y)
    (low_no_nan a.z b.z c.z p.z q.z r.z)
    (high_no_nan a.x b.x c.x p.x q.x r.x)
    (high_no_nan a.y b.y c.y p.y q.y r.y)
    (high_no_nan a.z b.z c.z p.z q.z r.z)

pub box_no_nan : (a b c : Point) → (within a && within b && within c) ≡ true → box_nan (padded_box a b c) ≡ false
box_no_nan a b c h =
    let ab = and_first (within a && within b) (within c) h in
    finite_box a b c (within_finite a (and_first (within a) (within b) ab)) (within_finite b (and_second (within a) (within b) ab)) (within_finite c (and_second (within a && within b) (within c) h))
