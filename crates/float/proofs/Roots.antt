-- The nearest root: the pattern that is made of a nearest whole number stands for it, there is no other, and `root_of` computes it. Two nearest
-- roots r and s of x would each be nearer than the other, so the square of r + s would lie on both sides of four times x. Assumes nothing.
use mathlib.Core.Path.{◌≡◌, refl, sym, ap, ◌∙◌, subst}
use mathlib.Core.Logic.{⊎_elim}
use mathlib.Core.Bool.{Bool, true, false, cond, true≢false}
use Prim.Native.Nat.{ℕ, zero, suc, ◌+◌, ◌-◌, ◌*◌, ◌/◌, ◌%◌, ◌^◌, ◌≤◌, ◌<◌, min}
use native.Mathlib.Nat.{le_trans, lt_irrefl, lt_of_lt_of_le, lt_of_le_of_lt, le_of_eq, le_of_lt, le_antisymm, lt_of_not-le, not-le_of_lt, mul-pos, zero-mul, mul_comm, add_comm, eq-or-lt_of_le, mod-lt, mul-div_cancel, mul-lt-mul_of_pos_right, mul-le-mul_right, lt_of_mul-lt-mul_right, le_of_mul-le-mul_right}
use native.Mathlib.Omega.{arith}
use native.Mathlib.Decide.{dec_lt}
use lib.IntN.{ℤ, pos}
use lib.Dec.{T, leb, eqb, lit<}
use lib.Pow.{pow-add, pow_pos, pow_mono}
use lib.Ieee.{Float, nan, inf, fin, binary32, up, down, size, odd, fits, of_fields, of_bits, to_bits}
use lib.Ieee.Bits.{of_bits-fits, of_bits-to_bits}
use lib.Ieee.Digits.{size-lt, size-le}
use lib.Ieee.Exact.{HasValue, odd_sign}
use lib.Ieee.Fits.{down_pos, nan-fits}
use Rattle.float.specs.Distance.{Distance, unsigned}
use Rattle.float.specs.Root.{units_of, Nearer, NearestRoot, Root}
use Rattle.float.specs.RootOf.{NearestTo, nearest_whole, root_pattern, root_of, root_bits, IsRoot, NormalForm}
use Rattle.float.proofs.Units.{units_at, units_grow, value, zero_is, infinity, of_bits_is, field_zero, field_suc, units_value}
use Rattle.float.proofs.Order.{unsigned_distance, distance_unsigned, bits_back}
use Rattle.float.proofs.Squares.{le_or_lt, nearest_least, nearest_most}
use Rattle.float.proofs.Grid.{nearest, scale}
use Rattle.float.proofs.Normal.{normal_low, normal_high}
use Rattle.float.proofs.Whole.{nearest_whole_lem, lifted_range}

-- ---- any value that binary32 holds is n * 2 ^ j units, with an n of 24 digits

abbrev OnGrid : Float → Type 0
OnGrid v = (n : ℕ) × (j : ℕ) × (n < 2 ^ 24) × (units_of v ≡ n * 2 ^ j)

odd_grid : (s : Bool) (q k : ℕ) → q < 2 ^ 24 → OnGrid (odd 24 s q k 149)
odd_grid s q k h = (q, k, h, units_value (odd 24 s q k 149) s (q * 2 ^ k) (odd_sign 24 s q k 149))

no_units : (b s : Bool) → OnGrid (cond b (inf s) nan)
unfolding units_of
no_units true s = (0, 0, pow_pos 24, refl)
no_units false s = (0, 0, pow_pos 24, refl)

pick : (b : Bool) (u v : Float) → OnGrid u → OnGrid v → OnGrid (cond b u v)
pick true u v p q = p
pick false u v p q = q

fields_grid : (s : Bool) (x t : ℕ) → t < 0x80_0000 → OnGrid (of_fields binary32 s x t)
fields_grid s zero t h = subst OnGrid (sym (field_zero s t)) (odd_grid s t 0 (omega arith))
fields_grid s (suc x) t h =
    subst OnGrid (sym (field_suc s x t))
    (pick (eqb (suc x) 255) (cond (eqb t 0) (inf s) nan) (odd 24 s (0x80_0000 + t) x 149) (no_units (eqb t 0) s) (odd_grid s (0x80_0000 + t) x (omega arith)))

on_grid : (y : Float) → T (fits binary32 y) → OnGrid y
on_grid y h =
    let b = to_bits binary32 y in
    subst OnGrid (sym (of_bits_is b) ∙ of_bits-to_bits binary32 y h)
    (fields_grid (leb 0x8000_0000 b) (b % 0x8000_0000 / 0x80_0000) (b % 0x80_0000) (mod-lt b (pow_pos 23)))

-- ---- the pattern k * 2 ^ 23 + q stands for q * 2 ^ k units

abbrev pub packed : ℕ → ℕ → ℕ
packed k q = k * 0x80_0000 + q

pub packed_lt : (k q : ℕ) → k < 190 → q < 2 ^ 24 → packed k q < 0x7f80_0000
packed_lt k q K h = omega arith

packed_value : (k q : ℕ) → k < 190 → 2 ^ 23 ≤ q → q < 2 ^ 24 → HasValue (of_bits binary32 (packed k q)) false (q * 2 ^ k) (2 ^ 149)
packed_value k q K Q h =
    subst (λ (a : ℕ). HasValue (of_bits binary32 (packed k q)) false a (2 ^ 149))
    (ap (λ (d : ℕ). d * 2 ^ (packed k q / 0x80_0000 - 1)) digits ∙ ap (λ (j : ℕ). q * 2 ^ j) power)
    (value (packed k q) (packed_lt k q K h))
  where
    digits : packed k q % 0x80_0000 + min (packed k q / 0x80_0000) 1 * 0x80_0000 ≡ q
    digits = omega arith

    power : packed k q / 0x80_0000 - 1 ≡ k
    power = omega arith

-- a value of no units has no digits
pub none : (e : ℤ) (a : ℕ) → 0 < a → zero * up e * 2 ^ 149 ≡ a * down e → ⊥
none e a p h =
    lt_irrefl 0
    (subst (λ (x : ℕ). 0 < x) (sym h ∙ ap (λ (x : ℕ). x * 2 ^ 149) (zero-mul (up e)) ∙ zero-mul (2 ^ 149)) (mul-pos p (down_pos e)))

positive_form : (v : Float) (a : ℕ) → HasValue v false a (2 ^ 149) → 0 < a → (m : ℕ) × (e : ℤ) × (v ≡ fin false (suc m) e)
positive_form nan a h p = absurd h
positive_form (inf t) a h p = absurd h
positive_form (fin true m e) a h p = absurd (true≢false h.0)
positive_form (fin false zero e) a h p = absurd (none e a p h.1)
positive_form (fin false (suc m) e) a h p = (m, e, refl)

-- ---- x is m * 2 ^ e by 2 ^ 24 units, and q is the whole number nearest to the root of m * 2 ^ 23, or of twice that

abbrev pub lifted : ℕ → ℕ → ℕ
lifted m e = m * 2 ^ 23 * 2 ^ (e % 2)

pub is_root : (x : Float) (m e q : ℕ) → e < 278 → 2 ^ 23 ≤ m → m < 2 ^ 24 → units_of x * 2 ^ 24 ≡ m * 2 ^ e → NearestTo (lifted m e) q
    → NearestRoot x (of_bits binary32 (packed (51 + e / 2) q))
is_root x m e q E lo hi u near =
    let k = 51 + e / 2 in
    let range = lifted_range m e lo hi in
    let Q : 2 ^ 23 ≤ q = nearest_least (lifted m e) q range.0 near.1 in
    let h : q < 2 ^ 24 = nearest_most (lifted m e) q range.1 near.0 in
    let r = of_bits binary32 (packed k q) in
    let v = packed_value k q (omega arith) Q h in
    record {
      held = of_bits-fits binary32 (packed k q);
      above = positive_form r (q * 2 ^ k) v (mul-pos (le_trans (pow_pos 23) Q) (pow_pos k));
      nearer = λ y f.
          let g = on_grid y f in
          subst (λ (R : ℕ). Nearer (units_of x) R (units_of y)) (sym (units_value r false (q * 2 ^ k) v))
          (subst (λ (Y : ℕ). Nearer (units_of x) (q * 2 ^ k) Y) (sym g.3) (nearest (units_of x) (lifted m e) q k g.0 g.1 (scale (units_of x) m e u) near range.0 Q g.2));
    }

-- ---- there is one nearest root

-- a finite value is written by its sign and its units
write : Bool → ℕ → ℕ
write s n = cond s 0x8000_0000 0 + (size n - 24) * 0x80_0000 + n / 2 ^ (size n - 24)

writes : (s : Bool) (m : ℕ) (e : ℤ) → to_bits binary32 (fin s m e) ≡ write s (units_of (fin s m e))
unfolding to_bits units_of write
writes s m e = refl

no_other : (X R S : ℕ) → Nearer X R S → Nearer X S R → S < R → ⊥
no_other X R S a b h =
    lt_irrefl (4 * (X * 2 ^ 149))
    (lt_of_lt_of_le (b.1 h) (le_trans (le_of_eq (ap (λ (z : ℕ). z * z) (add_comm R S))) (le_of_lt (a.0 h))))

pub one_nearest : (x r s : Float) → NearestRoot x r → NearestRoot x s → r ≡ s
one_nearest x r s p q =
    let R = units_of r in
    let S = units_of s in
    let a : Nearer (units_of x) R S = p.nearer s q.held in
    let b : Nearer (units_of x) S R = q.nearer r p.held in
    let same : R ≡ S = ⊎_elim
    (λ (c : R ≤ S). ⊎_elim (λ (e : R ≡ S). e) (λ (l : R < S). absurd (no_other (units_of x) S R b a l)) (eq-or-lt_of_le c))
    (λ (c : S < R). absurd (no_other (units_of x) R S a b c))
    (le_or_lt R S) in
    sym (of_bits-to_bits binary32 r p.held) ∙ ap (of_bits binary32) (bits r p ∙ ap (write false) same ∙ sym (bits s q)) ∙ of_bits-to_bits binary32 s q.held
  where
    bits : (r : Float) → NearestRoot x r → to_bits binary32 r ≡ write false (units_of r)
    bits r p =
        let f = p.above in
        subst (λ (v : Float). to_bits binary32 v ≡ write false (units_of v)) (sym f.2) (writes false (suc f.0) f.1)

-- the contract of `sqrt` determines its result
pub one_root : (x r s : Float) → Root x r → Root x s → r ≡ s
one_root nan r s p q = p ∙ sym q
one_root (inf true) r s p q = p ∙ sym q
one_root (inf false) r s p q = p ∙ sym q
one_root (fin t zero e) r s p q = p ∙ sym q
one_root (fin true (suc m) e) r s p q = p ∙ sym q
one_root (fin false (suc m) e) r s p q = one_nearest (fin false (suc m) e) r s p q

-- ---- `root_of` computes it

-- X has e binary digits
size_is : (X m e : ℕ) → 2 ^ 23 ≤ m → m < 2 ^ 24 → X * 2 ^ 24 ≡ m * 2 ^ e → size X ≡ e
size_is X m zero lo hi u = absurd (no_room (lt_of_mul-lt-mul_right (2 ^ 24) (lt_of_le_of_lt (le_of_eq u) (omega arith))))
  where
    nothing : X ≡ 0 → 2 ^ 23 ≤ X * 2 ^ 24 → ⊥
    nothing z l = omega arith

    no_room : X < 1 → ⊥
    no_room l = nothing (omega arith) (subst (λ (x : ℕ). 2 ^ 23 ≤ x) (sym u) (omega arith))
size_is X m (suc e) lo hi u = le_antisymm (size-le X (suc e) high) (lt_of_not-le (λ (g : size X ≤ e). not-le_of_lt (lt_of_lt_of_le (size-lt X) (pow_mono g)) low))
  where
    high : X < 2 ^ suc e
    high =
        lt_of_mul-lt-mul_right (2 ^ 24)
        (lt_of_le_of_lt (le_of_eq u) (lt_of_lt_of_le (mul-lt-mul_of_pos_right hi (pow_pos (suc e))) (le_of_eq (mul_comm (2 ^ 24) (2 ^ suc e)))))

    half : 2 ^ e * 2 ^ 24 ≡ 2 ^ 23 * 2 ^ suc e
    half = sym (pow-add 2 e 24) ∙ ap (λ (k : ℕ). 2 ^ k) (moved e) ∙ pow-add 2 23 (suc e)
      where
        moved : (e : ℕ) → e + 24 ≡ 23 + suc e
        moved e = omega arith

    low : 2 ^ e ≤ X
    low = le_of_mul-le-mul_right (le_trans (le_of_eq half) (le_trans (mul-le-mul_right (2 ^ suc e) lo) (le_of_eq (sym u)))) (pow_pos 24)

pattern_is : (X m e : ℕ) → 2 ^ 23 ≤ m → m < 2 ^ 24 → X * 2 ^ 24 ≡ m * 2 ^ e → root_pattern X ≡ packed (51 + e / 2) (nearest_whole (lifted m e))
unfolding root_pattern
pattern_is X m e lo hi u =
    let k = 51 + e / 2 in
    ap (λ (z : ℕ). packed (51 + z / 2) (nearest_whole (X * 2 ^ 149 / 2 ^ (51 + z / 2 + (51 + z / 2))))) (size_is X m e lo hi u)
    ∙ ap (λ (z : ℕ). packed k (nearest_whole (z / 2 ^ (k + k)))) (scale X m e u ∙ ap (λ (z : ℕ). lifted m e * z) (sym (pow-add 2 k k)))
    ∙ ap (λ (z : ℕ). packed k (nearest_whole z)) (mul-div_cancel (lifted m e) (pow_pos (k + k)))

-- a pattern above zero and below infinity's has a normal form
pub normal_form : (b : ℕ) → 0 < b → b < 0x7f80_0000 → (w : ℕ) × NormalForm b w
normal_form b p h = ⊎_elim (λ (c : 0x80_0000 ≤ b). (_, normal_high b c h)) (λ (c : b < 0x80_0000). (_, normal_low b p c)) (le_or_lt 0x80_0000 b)

at_bits : (b : ℕ) → 0 < b → b < 0x7f80_0000
    → (root_pattern (units_of (of_bits binary32 b)) < 0x7f80_0000) × NearestRoot (of_bits binary32 b) (of_bits binary32 (root_pattern (units_of (of_bits binary32 b))))
at_bits b p h =
    let f = normal_form b p h in
    let w = f.0 in
    let n = f.1 in
    let m = w % 2 ^ 23 + 2 ^ 23 in
    let e = w / 2 ^ 23 in
    let q = nearest_whole (lifted m e) in
    let range = lifted_range m e (omega arith) (omega arith) in
    let near : NearestTo (lifted m e) q = nearest_whole_lem (lifted m e) (lt_of_lt_of_le (lit< tt) range.0) (lt_of_le_of_lt range.1 (lit< tt)) in
    subst (λ (r : ℕ). (r < 0x7f80_0000) × NearestRoot (of_bits binary32 b) (of_bits binary32 r))
    (sym (pattern_is (units_of (of_bits binary32 b)) m e (omega arith) (omega arith) n.same)) (
      packed_lt (51 + e / 2) q (omega (arith, n.small)) (nearest_most (lifted m e) q range.1 near.0),
      is_root (of_bits binary32 b) m e q (omega (arith, n.small)) (omega arith) (omega arith) n.same near,
    )

-- the pattern of a number above zero
pub above_bits : (m : ℕ) (e : ℤ) → T (fits binary32 (fin false (suc m) e)) → (0 < to_bits binary32 (fin false (suc m) e)) × (to_bits binary32 (fin false (suc m) e) < 0x7f80_0000)
above_bits m e f = (go (dec_lt 0 b), ⊎_elim (λ (h : b ≡ 0x7f80_0000). absurd (no_infinity h)) (λ (l : b < 0x7f80_0000). l) (eq-or-lt_of_le (unsigned_distance (fin false (suc m) e) f tt).small))
  where
    b : ℕ
    b = to_bits binary32 (fin false (suc m) e)

    back : of_bits binary32 b ≡ fin false (suc m) e
    back = of_bits-to_bits binary32 (fin false (suc m) e) f

    no_zero : b ≡ 0 → ⊥
    no_zero h = let z : suc m ≡ 0 = digits (sym back ∙ ap (of_bits binary32) h ∙ zero_is) in omega arith
      where
        digits : fin false (suc m) e ≡ fin false 0 (pos 0) → suc m ≡ 0
        digits p = cc

    no_infinity : b ≡ 0x7f80_0000 → ⊥
    no_infinity h = let z : ◌≡◌ {A = ℕ} 0 1 = differ (sym back ∙ ap (of_bits binary32) h ∙ infinity) in omega arith
      where
        differ : fin false (suc m) e ≡ inf false → ◌≡◌ {A = ℕ} 0 1
        differ p = cc

    go : Dec (0 < b) → 0 < b
    go (yes h) = h
    go (no h) = absurd (no_zero (omega arith))

pub root_of_lem : (x : Float) → T (fits binary32 x) → Root x (root_of x)
unfolding root_of
root_of_lem nan f = refl
root_of_lem (inf true) f = refl
root_of_lem (inf false) f = refl
root_of_lem (fin s zero e) f = refl
root_of_lem (fin true (suc m) e) f = refl
root_of_lem (fin false (suc m) e) f =
    let b = to_bits binary32 (fin false (suc m) e) in
    let r = above_bits m e f in
    subst (λ (v : Float). NearestRoot v (of_bits binary32 (root_pattern (units_of v)))) (of_bits-to_bits binary32 (fin false (suc m) e) f) (at_bits b r.0 r.1).1

-- ---- the laws that callers cite

-- whatever is a root of x is `root_of x`
pub root_is : (x r : Float) → T (fits binary32 x) → Root x r → r ≡ root_of x
root_is x r f h = one_root x r (root_of x) h (root_of_lem x f)

-- and what is `root_of x` is a root of x: all that `sqrt` ensures
pub is_root_of : (x r : Float) → T (fits binary32 x) → r ≡ root_of x → IsRoot x r
is_root_of x r f e = record { root = subst (Root x) (sym e) (root_of_lem x f); is = e }

-- a pattern r of the nearest root of the pattern b is `root_bits b`
above_root : (v r : Float) (a : ℕ) → HasValue v false a (2 ^ 149) → 0 < a → NearestRoot v r → Root v r
above_root nan r a h p n = absurd h
above_root (inf t) r a h p n = absurd h
above_root (fin true m e) r a h p n = absurd (true≢false h.0)
above_root (fin false zero e) r a h p n = absurd (none e a p h.1)
above_root (fin false (suc m) e) r a h p n = n

pub bits_root : (b r : ℕ) → 0 < b → b < 0x7f80_0000 → r < 0x7f80_0000 → NearestRoot (of_bits binary32 b) (of_bits binary32 r) → r ≡ root_bits b
bits_root b r p h k n =
    sym (bits_back r (le_of_lt k))
    ∙ ap (to_bits binary32) (root_is (of_bits binary32 b) (of_bits binary32 r) (of_bits-fits binary32 b) (above_root (of_bits binary32 b) (of_bits binary32 r) (units_at b) (value b h) (units_grow 0 b p) n))

pub nearest_bits : (b : ℕ) → 0 < b → b < 0x7f80_0000 → (root_bits b < 0x7f80_0000) × NearestRoot (of_bits binary32 b) (of_bits binary32 (root_bits b))
nearest_bits b p h =
    let a = at_bits b p h in
    subst (λ (r : ℕ). (r < 0x7f80_0000) × NearestRoot (of_bits binary32 b) (of_bits binary32 r))
    (bits_root b (root_pattern (units_of (of_bits binary32 b))) p h a.0 a.1) a

held_root : (x r : Float) → T (fits binary32 x) → Root x r → T (fits binary32 r)
held_root nan r f h = subst (λ (v : Float). T (fits binary32 v)) (sym h) (nan-fits binary32)
held_root (inf true) r f h = subst (λ (v : Float). T (fits binary32 v)) (sym h) (nan-fits binary32)
held_root (inf false) r f h = subst (λ (v : Float). T (fits binary32 v)) (sym h) f
held_root (fin s zero e) r f h = subst (λ (v : Float). T (fits binary32 v)) (sym h) f
held_root (fin true (suc m) e) r f h = subst (λ (v : Float). T (fits binary32 v)) (sym h) (nan-fits binary32)
held_root (fin false (suc m) e) r f h = h.held

pub root_fits : (x : Float) → T (fits binary32 x) → T (fits binary32 (root_of x))
root_fits x f = held_root x (root_of x) f (root_of_lem x f)

-- ---- the root of a distance is a distance

pub root_distance : (x : Float) → Distance x → Distance (root_of x)
root_distance x d = unsigned_distance (root_of x) (root_fits x d.held) (plus x (root_of x) (distance_unsigned x d) (root_of_lem x d.held))
  where
    plus : (x r : Float) → T (unsigned x) → Root x r → T (unsigned r)
    plus nan r u h = absurd u
    plus (inf true) r u h = absurd u
    plus (inf false) r u h = subst (λ (v : Float). T (unsigned v)) (sym h) tt
    plus (fin true m e) r u h = absurd u
    plus (fin false zero e) r u h = subst (λ (v : Float). T (unsigned v)) (sym h) tt
    plus (fin false (suc m) e) r u h = subst (λ (v : Float). T (unsigned v)) (sym h.above.2) tt
