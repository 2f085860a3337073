-- Nearest on binary32's grid, over whole numbers alone. A value of binary32 is n * 2 ^ j units with n below 2 ^ 24. So beside q * 2 ^ k, with a q from
-- 2 ^ 23 up, no value lies between the neighbours (q - 1) * 2 ^ k and (q + 1) * 2 ^ k, but for finer ones below 2 ^ 23 * 2 ^ k; and where q is nearest
-- to the root of N among the whole numbers, q * 2 ^ k is nearest to that of N * 4 ^ k among those values. Assumes nothing.
use mathlib.Core.Path.{◌≡◌, refl, sym, ap, ◌∙◌, subst}
use mathlib.Core.Logic.{⊎_elim}
use Prim.Native.Nat.{ℕ, ◌+◌, ◌-◌, ◌*◌, ◌/◌, ◌%◌, ◌^◌, ◌≤◌, ◌<◌}
use native.Mathlib.Nat.{le_of_lt, le_trans, le_of_eq, lt_of_le_of_lt, lt_of_lt_of_le, lt_of_not-le, not-le_of_lt, lt_of_mul-lt-mul_right, mul-pos, mul-le-mul, mul-le-mul_left, mul-le-mul_right, mul-lt-mul_of_pos_right, mul-add, add-mul, mul_assoc, mul-mul-mul_comm}
use native.Mathlib.Omega.{arith}
use lib.Pow.{pow-add, pow_pos, pow_mono}
use Rattle.float.specs.Root.{Nearer}
use Rattle.float.specs.RootOf.{NearestTo}
use Rattle.float.proofs.Squares.{next_square, le_or_lt}

-- ---- the neighbours of q * 2 ^ k

shifted : (n j k : ℕ) → k ≤ j → n * 2 ^ j ≡ n * 2 ^ (j - k) * 2 ^ k
shifted n j k h =
    ap (λ (x : ℕ). n * 2 ^ x) (split j k h) ∙ ap (λ (x : ℕ). n * x) (pow-add 2 (j - k) k) ∙ sym (mul_assoc n (2 ^ (j - k)) (2 ^ k))
  where
    split : (j k : ℕ) → k ≤ j → j ≡ j - k + k
    split j k h = omega arith

-- a value with a finer last digit is below 2 ^ 23 * 2 ^ k
finer : (n j k : ℕ) → n < 2 ^ 24 → j < k → n * 2 ^ j < 2 ^ 23 * 2 ^ k
finer n j k h l =
    lt_of_lt_of_le (mul-lt-mul_of_pos_right h (pow_pos j))
    (le_trans (le_of_eq (sym (pow-add 2 24 j))) (le_trans (pow_mono {i = 24 + j} {j = 23 + k} (omega arith)) (le_of_eq (pow-add 2 23 k))))

above : (q k n j : ℕ) → 2 ^ 23 ≤ q → n < 2 ^ 24 → q * 2 ^ k < n * 2 ^ j → (q + 1) * 2 ^ k ≤ n * 2 ^ j
above q k n j Q h l = ⊎_elim
    (λ (c : k ≤ j).
    let e : n * 2 ^ j ≡ n * 2 ^ (j - k) * 2 ^ k = shifted n j k c in
    let m : q < n * 2 ^ (j - k) = lt_of_mul-lt-mul_right (2 ^ k) (subst (λ (x : ℕ). q * 2 ^ k < x) e l) in
    le_trans (mul-le-mul_right (2 ^ k) (omega (arith, m))) (le_of_eq (sym e)))
    (λ (c : j < k). absurd (not-le_of_lt (lt_of_lt_of_le (lt_of_lt_of_le l (le_of_lt (finer n j k h c))) (mul-le-mul_right (2 ^ k) Q)) (le_of_eq refl)))
    (le_or_lt k j)

below : (r k n j : ℕ) → 2 ^ 23 ≤ r → n < 2 ^ 24 → n * 2 ^ j < (r + 1) * 2 ^ k → n * 2 ^ j ≤ r * 2 ^ k
below r k n j R h l = ⊎_elim
    (λ (c : k ≤ j).
    let e : n * 2 ^ j ≡ n * 2 ^ (j - k) * 2 ^ k = shifted n j k c in
    let m : n * 2 ^ (j - k) < r + 1 = lt_of_mul-lt-mul_right (2 ^ k) (subst (λ (x : ℕ). x < (r + 1) * 2 ^ k) e l) in
    le_trans (le_of_eq e) (mul-le-mul_right (2 ^ k) (omega (arith, m))))
    (λ (c : j < k). le_of_lt (lt_of_lt_of_le (finer n j k h c) (mul-le-mul_right (2 ^ k) R)))
    (le_or_lt k j)

-- ---- squares

twice_square : (q : ℕ) → (q + q) * (q + q) ≡ 4 * (q * q)
twice_square q =
    let a : (q + q) * (q + q) ≡ q * (q + q) + q * (q + q) = add-mul q q (q + q) in
    let b : q * (q + q) ≡ q * q + q * q = mul-add q q q in
    omega arith

odd_square : (q : ℕ) → (q + q + 1) * (q + q + 1) ≡ 4 * (q * q) + 4 * q + 1
odd_square q = let a = next_square (q + q) in let b = twice_square q in omega arith

-- 4 * N below A * A, with both times p * p, and A * p at most Z
under : (N p A Z : ℕ) → 0 < p → 4 * N < A * A → A * p ≤ Z → 4 * (N * (p * p)) < Z * Z
under N p A Z P h l =
    lt_of_le_of_lt (le_of_eq (sym (mul_assoc 4 N (p * p))))
    (lt_of_lt_of_le (mul-lt-mul_of_pos_right h (mul-pos P P)) (le_trans (le_of_eq (mul-mul-mul_comm A A p p)) (mul-le-mul l l)))

over : (N p A Z : ℕ) → 0 < p → A * A < 4 * N → Z ≤ A * p → Z * Z < 4 * (N * (p * p))
over N p A Z P h l =
    lt_of_le_of_lt (le_trans (mul-le-mul l l) (le_of_eq (sym (mul-mul-mul_comm A A p p))))
    (lt_of_lt_of_le (mul-lt-mul_of_pos_right h (mul-pos P P)) (le_of_eq (mul_assoc 4 N (p * p))))

-- ---- q is nearest to the root of N among the whole numbers, so q * p is nearest to that of N * (p * p) on the grid of Y

near_above : (N q p Y : ℕ) → N ≤ q * q + q → 0 < p → (q + 1) * p ≤ Y → 4 * (N * (p * p)) < (Y + q * p) * (Y + q * p)
near_above N q p Y h P l =
    under N p (q + q + 1) (Y + q * p) P (omega (arith, odd_square q)) (omega (arith, add-mul (q + q) 1 p, add-mul q q p, add-mul q 1 p))

near_below : (N r p Y : ℕ) → r * r + r < N → 0 < p → Y ≤ r * p → (Y + (r + 1) * p) * (Y + (r + 1) * p) < 4 * (N * (p * p))
near_below N r p Y h P l =
    over N p (r + r + 1) (Y + (r + 1) * p) P (omega (arith, odd_square r)) (omega (arith, add-mul (r + r) 1 p, add-mul r r p, add-mul r 1 p))

-- where q is at most the root, whatever is below q * p will do
near_under : (N q p Y : ℕ) → q * q ≤ N → 0 < p → Y < q * p → (Y + q * p) * (Y + q * p) < 4 * (N * (p * p))
near_under N q p Y h P l =
    let z : Y + q * p < q * p + q * p = omega arith in
    let s : (Y + q * p) * (Y + q * p) < (q * p + q * p) * (q * p + q * p) =
    lt_of_le_of_lt (mul-le-mul_left (Y + q * p) (le_of_lt z)) (mul-lt-mul_of_pos_right z (omega arith)) in
    let t : q * p * (q * p) ≡ q * q * (p * p) = mul-mul-mul_comm q p q p in
    let u : q * q * (p * p) ≤ N * (p * p) = mul-le-mul_right (p * p) h in
    omega (arith, twice_square (q * p))

-- what is wanted of any n * 2 ^ j with n of 24 digits
pub nearest : (X N q k n j : ℕ) → X * 2 ^ 149 ≡ N * (2 ^ k * 2 ^ k) → NearestTo N q → 2 ^ 46 ≤ N → 2 ^ 23 ≤ q → n < 2 ^ 24 → Nearer X (q * 2 ^ k) (n * 2 ^ j)
nearest X N q k n j E near big Q h = (
  (λ l. subst (λ (x : ℕ). (n * 2 ^ j + q * 2 ^ k) * (n * 2 ^ j + q * 2 ^ k) < 4 * x) (sym E) (lower l)),
  (λ l. subst (λ (x : ℕ). 4 * x < (n * 2 ^ j + q * 2 ^ k) * (n * 2 ^ j + q * 2 ^ k)) (sym E) (near_above N q (2 ^ k) (n * 2 ^ j) near.1 (pow_pos k) (above q k n j Q h l))),
)
  where
    one_less : (q : ℕ) → 1 ≤ q → q - 1 + 1 ≡ q
    one_less q h = omega arith

    at : (r : ℕ) → r + 1 ≡ q → N < q * q → n * 2 ^ j < q * 2 ^ k → (n * 2 ^ j + q * 2 ^ k) * (n * 2 ^ j + q * 2 ^ k) < 4 * (N * (2 ^ k * 2 ^ k))
    at r e b l =
        let s : (r + 1) * (r + 1) ≡ q * q = ap (λ (x : ℕ). x * x) e in
        let t : q * q < N + q = near.0 in
        let g : 2 ^ 23 < q = lt_of_not-le (λ (t : q ≤ 2 ^ 23). not-le_of_lt b (le_trans (mul-le-mul t t) big)) in
        subst (λ (x : ℕ). (n * 2 ^ j + x * 2 ^ k) * (n * 2 ^ j + x * 2 ^ k) < 4 * (N * (2 ^ k * 2 ^ k))) e
        (near_below N r (2 ^ k) (n * 2 ^ j) (omega (arith, next_square r)) (pow_pos k)
        (below r k n j (omega arith) h (subst (λ (x : ℕ). n * 2 ^ j < x * 2 ^ k) (sym e) l)))

    lower : n * 2 ^ j < q * 2 ^ k → (n * 2 ^ j + q * 2 ^ k) * (n * 2 ^ j + q * 2 ^ k) < 4 * (N * (2 ^ k * 2 ^ k))
    lower l = ⊎_elim
        (λ (a : q * q ≤ N). near_under N q (2 ^ k) (n * 2 ^ j) a (pow_pos k) l)
        (λ (b : N < q * q). at (q - 1) (one_less q (le_trans (pow_pos 23) Q)) b l)
        (le_or_lt (q * q) N)

-- the scaling: X * 2 ^ 24 is m * 2 ^ e, so X * 2 ^ 149 is m * 2 ^ 23 * 2 ^ (e % 2) times an even power of 2
pub scale : (X m e : ℕ) → X * 2 ^ 24 ≡ m * 2 ^ e → X * 2 ^ 149 ≡ m * 2 ^ 23 * 2 ^ (e % 2) * (2 ^ (51 + e / 2) * 2 ^ (51 + e / 2))
scale X m e a =
    let k = 51 + e / 2 in
    let left : X * 2 ^ 149 ≡ m * 2 ^ (e + 125) =
    sym (mul_assoc X (2 ^ 24) (2 ^ 125)) ∙ ap (λ (x : ℕ). x * 2 ^ 125) a ∙ mul_assoc m (2 ^ e) (2 ^ 125) ∙ ap (λ (x : ℕ). m * x) (sym (pow-add 2 e 125)) in
    let right : m * 2 ^ 23 * 2 ^ (e % 2) * (2 ^ k * 2 ^ k) ≡ m * 2 ^ (23 + (e % 2 + (k + k))) =
    ap (λ (x : ℕ). x * (2 ^ k * 2 ^ k)) (mul_assoc m (2 ^ 23) (2 ^ (e % 2)))
    ∙ mul_assoc m (2 ^ 23 * 2 ^ (e % 2)) (2 ^ k * 2 ^ k)
    ∙ ap (λ (x : ℕ). m * x) (mul_assoc (2 ^ 23) (2 ^ (e % 2)) (2 ^ k * 2 ^ k)
    ∙ ap (λ (x : ℕ). 2 ^ 23 * (2 ^ (e % 2) * x)) (sym (pow-add 2 k k))
    ∙ ap (λ (x : ℕ). 2 ^ 23 * x) (sym (pow-add 2 (e % 2) (k + k)))
    ∙ sym (pow-add 2 23 (e % 2 + (k + k)))) in
    left ∙ ap (λ (x : ℕ). m * 2 ^ x) (exponent e) ∙ sym right
  where
    exponent : (e : ℕ) → e + 125 ≡ 23 + (e % 2 + (51 + e / 2 + (51 + e / 2)))
    exponent e = omega arith
