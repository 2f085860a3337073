-- Laws on the digits of a number, one digit at a time. Assumes nothing.
use Prim.Native.Nat.{ℕ, zero, suc, ◌+◌, ◌-◌, ◌/◌, ◌%◌, ◌^◌, ◌≤◌, ◌<◌}
use native.Mathlib.Omega.{arith}
use mathlib.Core.Path.{◌≡◌, refl, sym, ap, subst, ◌∙◌}
use mathlib.Core.Bool.{Bool, true, false, cond}
use mathlib.Core.List.{[], ◌∷◌, ◌++◌}
use lib.Dec.{ltb}
use lib.ListN.{length, length-append}
use borrow.Author.Tests.{lt-ltb, le-ltb}
use Rattle.text.specs.Words.{digits, hex_digit, hex}
use Rattle.text_write.specs.Digits.{FewDigits}

back : (k : ℕ) → suc k - 1 ≡ k
back k = omega arith

pub one_digit : (k n : ℕ) → n < 10 → digits k n ≡ (48 + n) ∷ []
unfolding digits
one_digit zero n h = refl
one_digit (suc k) n h = ap (λ (t : Bool). cond t ((48 + n) ∷ []) (digits k (n / 10) ++ (48 + n % 10) ∷ [])) (lt-ltb n 10 h)

-- the last digit after those before it
pub last_digit : (k n : ℕ) → 0 < k → 10 ≤ n → digits (k - 1) (n / 10) ++ (48 + n % 10) ∷ [] ≡ digits k n
unfolding digits
last_digit zero n d h = absurd (omega arith)
last_digit (suc k) n d h =
    ap (λ (j : ℕ). digits j (n / 10) ++ (48 + n % 10) ∷ []) (back k)
    ∙ sym (ap (λ (t : Bool). cond t ((48 + n) ∷ []) (digits k (n / 10) ++ (48 + n % 10) ∷ [])) (le-ltb n 10 h))

pub few : (k n : ℕ) → length (digits k n) ≤ k + 1
unfolding digits
few zero n = omega arith
few (suc k) n = go (ltb n 10) (few k (n / 10))
  where
    go : (t : Bool) → length (digits k (n / 10)) ≤ k + 1 → length (cond t ((48 + n) ∷ []) (digits k (n / 10) ++ (48 + n % 10) ∷ [])) ≤ suc k + 1
    go true h = omega arith
    go false h = omega (arith, length-append (digits k (n / 10)) ((48 + n % 10) ∷ []))

-- a number below 10 ^ (d + 1) has at most d + 1 digits
pub short : (k d n : ℕ) → n < 10 ^ suc d → length (digits k n) ≤ d + 1
unfolding digits
short zero d n h = omega arith
short (suc k) zero n h = omega (arith, ap length (one_digit (suc k) n (omega arith)))
short (suc k) (suc d) n h = go (ltb n 10) (short k d (n / 10) (omega arith))
  where
    go : (t : Bool) → length (digits k (n / 10)) ≤ d + 1 → length (cond t ((48 + n) ∷ []) (digits k (n / 10) ++ (48 + n % 10) ∷ [])) ≤ suc d + 1
    go true l = omega arith
    go false l = omega (arith, length-append (digits k (n / 10)) ((48 + n % 10) ∷ []))

pub deep : (k n : ℕ) → FewDigits k n → 10 ≤ n → 0 < k
unfolding FewDigits
deep zero n f h = absurd (omega arith)
deep (suc k) n f h = omega arith

pub fewer : (k n : ℕ) → 0 < k → FewDigits k n → FewDigits (k - 1) (n / 10)
unfolding FewDigits
fewer zero n d f = absurd (omega arith)
fewer (suc k) n d f = subst (λ (j : ℕ). FewDigits j (n / 10)) (sym (back k)) f

pub all_few : (k n : ℕ) → n < 10 ^ suc k → FewDigits k n
unfolding FewDigits
all_few zero n h = h
all_few (suc k) n h = all_few k (n / 10) (omega arith)

pub hex_long : (k b : ℕ) → length (hex k b) ≡ k
unfolding hex
hex_long zero b = refl
hex_long (suc k) b = omega (arith, hex_long k (b / 16), length-append (hex k (b / 16)) (hex_digit (b % 16) ∷ []))

pub last_hex : (k b : ℕ) → 0 < k → hex (k - 1) (b / 16) ++ hex_digit (b % 16) ∷ [] ≡ hex k b
unfolding hex
last_hex zero b d = absurd (omega arith)
last_hex (suc k) b d = ap (λ (j : ℕ). hex j (b / 16) ++ hex_digit (b % 16) ∷ []) (back k)
