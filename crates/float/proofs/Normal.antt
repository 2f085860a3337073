-- The normal form of a pattern above zero: a normal one has its field moved by 23, and the digits of a subnormal one are shifted until the highest
-- stands at place 23, by a count that the leading zeros give. Assumes nothing.
use mathlib.Core.Path.{◌≡◌, refl, sym, ap, ◌∙◌, subst}
use Prim.Native.Nat.{ℕ, suc, ◌+◌, ◌-◌, ◌*◌, ◌/◌, ◌%◌, ◌^◌, ◌≤◌, ◌<◌, min}
use native.Mathlib.Nat.{le_of_lt, le_trans, le_of_eq, lt_of_le_of_lt, lt_of_lt_of_le, lt_of_not-le, not-le_of_lt, mul_assoc, mul-le-mul_right, mul-lt-mul_of_pos_right}
use native.Mathlib.Omega.{arith}
use lib.Dec.{lit<}
use lib.Pow.{pow-add, pow_pos, pow_mono, shl_exact}
use lib.Count.{count_leading_zeros, leading_top}
use lib.Ieee.{binary32, of_bits}
use Rattle.float.specs.Root.{units_of}
use Rattle.float.specs.RootOf.{NormalForm}
use Rattle.float.proofs.Units.{units_at, value, units_value}

-- the units of a pattern
pub units_of_bits : (b : ℕ) → b < 0x7f80_0000 → units_of (of_bits binary32 b) ≡ units_at b
units_of_bits b h = units_value (of_bits binary32 b) _ (units_at b) (value b h)

-- ---- a subnormal: z leading zeros, and shifted by z - 8

pub record Shifted (b z : ℕ) : Type 0 where
  pub few : z ≤ 32
  pub many : 8 < z
  pub least : 2 ^ 23 ≤ b * 2 ^ (z - 8) % 2 ^ 32
  pub most : b * 2 ^ (z - 8) % 2 ^ 32 < 2 ^ 24
  pub same : b * 2 ^ 24 ≡ b * 2 ^ (z - 8) % 2 ^ 32 * 2 ^ (32 - z)

pub shifted : (b : ℕ) → 0 < b → b < 2 ^ 23 → Shifted b (count_leading_zeros 32 b)
shifted b p h =
    let t = leading_top 32 b p (lt_of_lt_of_le h (pow_mono {i = 23} {j = 32} (le_of_lt (lit< tt)))) in
    at (count_leading_zeros 32 b) t.0 t.1 t.2 t.3
  where
    at : (z j : ℕ) → z + suc j ≡ 32 → 2 ^ j ≤ b → b < 2 ^ suc j → Shifted b z
    at z j e lo hi =
        let j-lt : j < 23 = lt_of_not-le (λ (g : 23 ≤ j). not-le_of_lt (lt_of_le_of_lt lo h) (pow_mono g)) in
        let exact : b * 2 ^ (z - 8) % 2 ^ 32 ≡ b * 2 ^ (z - 8) = shl_exact (suc j) (z - 8) 32 hi (omega arith) in
        let jz : j + (z - 8) ≡ 23 = omega arith in
        let sz : suc j + (z - 8) ≡ 24 = omega arith in
        let whole : z - 8 + (32 - z) ≡ 24 = omega arith in
        record {
          few = omega arith;
          many = omega arith;
          least = subst (λ (x : ℕ). 2 ^ 23 ≤ x) (sym exact)
              (le_trans (le_of_eq (ap (λ (x : ℕ). 2 ^ x) (sym jz) ∙ pow-add 2 j (z - 8))) (mul-le-mul_right (2 ^ (z - 8)) lo));
          most = subst (λ (x : ℕ). x < 2 ^ 24) (sym exact)
              (lt_of_lt_of_le (mul-lt-mul_of_pos_right hi (pow_pos (z - 8))) (le_of_eq (sym (pow-add 2 (suc j) (z - 8)) ∙ ap (λ (x : ℕ). 2 ^ x) sz)));
          same = sym (ap (λ (x : ℕ). x * 2 ^ (32 - z)) exact ∙ mul_assoc b (2 ^ (z - 8)) (2 ^ (32 - z)) ∙ ap (λ (x : ℕ). b * x) (sym (pow-add 2 (z - 8) (32 - z)) ∙ ap (λ (x : ℕ). 2 ^ x) whole));
        }

-- w is taken apart again: a field of e and the digits d below a leading one
parts : (X w e d : ℕ) → w ≡ e * 2 ^ 23 + (d - 2 ^ 23) → 2 ^ 23 ≤ d → d < 2 ^ 24 → X ≡ d * 2 ^ e → X ≡ (w % 2 ^ 23 + 2 ^ 23) * 2 ^ (w / 2 ^ 23)
parts X w e d p lo hi q =
    let a : w % 2 ^ 23 + 2 ^ 23 ≡ d = omega arith in
    let b : w / 2 ^ 23 ≡ e = omega arith in
    q ∙ ap (λ (x : ℕ). x * 2 ^ e) (sym a) ∙ ap (λ (x : ℕ). (w % 2 ^ 23 + 2 ^ 23) * 2 ^ x) (sym b)

pub normal_low : (b : ℕ) → 0 < b → b < 0x80_0000
    → NormalForm b ((32 - count_leading_zeros 32 b) * 0x80_0000 + (b * 2 ^ (count_leading_zeros 32 b - 8) % 2 ^ 32 - 0x80_0000))
normal_low b p h =
    let z = count_leading_zeros 32 b in
    let s = shifted b p h in
    let d = b * 2 ^ (z - 8) % 2 ^ 32 in
    let f : b / 0x80_0000 ≡ 0 = omega arith in
    let t : b % 0x80_0000 ≡ b = omega arith in
    record {
      small = bound z d s.few s.many s.least s.most;
      same = parts (units_of (of_bits binary32 b) * 2 ^ 24) ((32 - z) * 0x80_0000 + (d - 0x80_0000)) (32 - z) d refl s.least s.most
          (ap (λ (x : ℕ). x * 2 ^ 24) (units_of_bits b (omega arith) ∙ low f t) ∙ s.same);
    }
  where
    bound : (z d : ℕ) → z ≤ 32 → 8 < z → 2 ^ 23 ≤ d → d < 2 ^ 24 → (32 - z) * 0x80_0000 + (d - 0x80_0000) < 278 * 2 ^ 23
    bound z d a b lo hi = omega arith

    plain : (b : ℕ) → (b + 0 * 0x80_0000) * 1 ≡ b
    plain b = omega arith

    low : b / 0x80_0000 ≡ 0 → b % 0x80_0000 ≡ b → units_at b ≡ b
    low f t =
        ap (λ (x : ℕ). (b % 0x80_0000 + min x 1 * 0x80_0000) * 2 ^ (x - 1)) f ∙ ap (λ (x : ℕ). (x + 0 * 0x80_0000) * 1) t ∙ plain b

-- ---- a normal one

pub normal_high : (b : ℕ) → 0x80_0000 ≤ b → b < 0x7f80_0000 → NormalForm b (b + 0xb80_0000)
normal_high b h k =
    let x = b / 0x80_0000 in
    record {
      small = omega arith;
      same = parts (units_of (of_bits binary32 b) * 2 ^ 24) (b + 0xb80_0000) (x + 23) (b % 0x80_0000 + 0x80_0000) (omega arith) (omega arith) (omega arith)
          (ap (λ (u : ℕ). u * 2 ^ 24) (units_of_bits b k) ∙ up);
    }
  where
    digits : b % 0x80_0000 + min (b / 0x80_0000) 1 * 0x80_0000 ≡ b % 0x80_0000 + 0x80_0000
    digits = omega arith

    field : b / 0x80_0000 - 1 + 24 ≡ b / 0x80_0000 + 23
    field = omega arith

    up : units_at b * 2 ^ 24 ≡ (b % 0x80_0000 + 0x80_0000) * 2 ^ (b / 0x80_0000 + 23)
    up =
        ap (λ (d : ℕ). d * 2 ^ (b / 0x80_0000 - 1) * 2 ^ 24) digits
        ∙ mul_assoc (b % 0x80_0000 + 0x80_0000) (2 ^ (b / 0x80_0000 - 1)) (2 ^ 24)
        ∙ ap (λ (p : ℕ). (b % 0x80_0000 + 0x80_0000) * p) (sym (pow-add 2 (b / 0x80_0000 - 1) 24) ∙ ap (λ (p : ℕ). 2 ^ p) field)
