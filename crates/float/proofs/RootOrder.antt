-- A root grows with its number: were the root R of X above the root S of Y, with X at most Y, then the square of R + S would be below four times X and
-- above four times Y. Assumes nothing.
use mathlib.Core.Path.{◌≡◌, sym, ap, ◌∙◌, subst}
use mathlib.Core.Logic.{⊎_elim}
use Prim.Native.Nat.{ℕ, ◌*◌, ◌^◌, ◌≤◌, ◌<◌}
use native.Mathlib.Nat.{le_of_eq, le_of_lt, le_trans, lt_of_lt_of_le, not-le_of_lt, mul-le-mul_left, mul-le-mul_right, add_comm, eq-or-lt_of_le}
use native.Mathlib.Omega.{arith}
use lib.Dec.{T, le→leb, leb→le}
use lib.Ieee.{Float, binary32, of_bits, to_bits, le}
use lib.Ieee.Bits.{of_bits-to_bits, of_bits-fits}
use Rattle.float.specs.Distance.{Distance}
use Rattle.float.specs.Root.{units_of, Nearer}
use Rattle.float.specs.RootOf.{root_of, root_bits}
use Rattle.float.proofs.Units.{units_at, units_grow}
use Rattle.float.proofs.Order.{bits_distance, distance_le}
use Rattle.float.proofs.Squares.{le_or_lt}
use Rattle.float.proofs.Normal.{units_of_bits}
use Rattle.float.proofs.Roots.{nearest_bits, root_distance}
use Rattle.float.proofs.Signs.{root_bits_zero, root_bits_infinity}

-- the roots of X and Y units, each nearer than the other
crossed : (X Y R S : ℕ) → Nearer X R S → Nearer Y S R → X ≤ Y → S < R → ⊥
crossed X Y R S a b h l =
    not-le_of_lt
    (lt_of_lt_of_le (b.1 l) (le_trans (le_of_eq (ap (λ (z : ℕ). z * z) (add_comm R S))) (le_of_lt (a.0 l))))
    (mul-le-mul_left 4 (mul-le-mul_right (2 ^ 149) h))

-- patterns from 0 to infinity's
units_le : (b c : ℕ) → b ≤ c → units_at b ≤ units_at c
units_le b c h = ⊎_elim (λ (e : b ≡ c). le_of_eq (ap (λ (n : ℕ). units_at n) e)) (λ (l : b < c). le_of_lt (units_grow b c l)) (eq-or-lt_of_le h)

between : (b c : ℕ) → 0 < b → b ≤ c → c < 0x7f80_0000 → root_bits b ≤ root_bits c
between b c p h k = ⊎_elim (λ (l : r ≤ s). l) (λ (l : s < r). absurd (no l)) (le_or_lt r s)
  where
    r : ℕ
    r = root_bits b

    s : ℕ
    s = root_bits c

    small : b < 0x7f80_0000
    small = omega arith

    some : 0 < c
    some = omega arith

    no : s < r → ⊥
    no l =
        let n = nearest_bits b p small in
        let m = nearest_bits c some k in
        crossed (units_at b) (units_at c) (units_at r) (units_at s)
        (subst (λ (X : ℕ). Nearer X (units_at r) (units_at s)) (units_of_bits b small)
        (subst (λ (R : ℕ). Nearer (units_of (of_bits binary32 b)) R (units_at s)) (units_of_bits r n.0)
        (subst (λ (S : ℕ). Nearer (units_of (of_bits binary32 b)) (units_of (of_bits binary32 r)) S) (units_of_bits s m.0) (n.1.nearer (of_bits binary32 s) (of_bits-fits binary32 s)))))
        (subst (λ (X : ℕ). Nearer X (units_at s) (units_at r)) (units_of_bits c k)
        (subst (λ (S : ℕ). Nearer (units_of (of_bits binary32 c)) S (units_at r)) (units_of_bits s m.0)
        (subst (λ (R : ℕ). Nearer (units_of (of_bits binary32 c)) (units_of (of_bits binary32 s)) R) (units_of_bits r n.0) (m.1.nearer (of_bits binary32 r) (of_bits-fits binary32 r)))))
        (units_le b c h)
        (units_grow s r l)

pub root_bits_mono : (b c : ℕ) → b ≤ c → c ≤ 0x7f80_0000 → root_bits b ≤ root_bits c
root_bits_mono b c h k = ⊎_elim
    (λ (e : c ≡ 0x7f80_0000).
    le_trans (root_distance (of_bits binary32 b) (bits_distance b (le_trans h k))).small (le_of_eq (root_bits_infinity ∙ ap (λ (n : ℕ). root_bits n) (sym e))))
    (λ (l : c < 0x7f80_0000). ⊎_elim
    (λ (z : b ≤ 0). le_trans (le_of_eq (ap (λ (n : ℕ). root_bits n) (zero_of z) ∙ sym root_bits_zero)) (omega arith))
    (λ (p : 0 < b). between b c p h l)
    (le_or_lt b 0))
    (eq-or-lt_of_le k)
  where
    zero_of : b ≤ 0 → b ≡ 0
    zero_of z = omega arith

pub root_mono : (x y : Float) → Distance x → Distance y → T (le x y) → T (le (root_of x) (root_of y))
root_mono x y p q h =
    subst T (sym (distance_le (root_of x) (root_of y) (root_distance x p) (root_distance y q)))
    (le→leb (to_bits binary32 (root_of x)) (to_bits binary32 (root_of y))
    (subst (λ (v : Float). to_bits binary32 (root_of v) ≤ to_bits binary32 (root_of y)) (of_bits-to_bits binary32 x p.held)
    (subst (λ (v : Float). root_bits (to_bits binary32 x) ≤ to_bits binary32 (root_of v)) (of_bits-to_bits binary32 y q.held)
    (root_bits_mono (to_bits binary32 x) (to_bits binary32 y) (leb→le (to_bits binary32 x) (to_bits binary32 y) (subst T (distance_le x y p q) h)) q.small))))
