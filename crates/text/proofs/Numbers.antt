-- Decimal numbers and hex numbers are read as they are written. A number is written with its last digit behind those of its tenth part, and is read
-- from the first digit on; so both directions go over the digits that have been read, whose value is v, and those that are left.
use Prim.Native.Nat.{ℕ, zero, suc, ◌+◌, ◌*◌, ◌/◌, ◌%◌, ◌^◌, ◌≤◌, ◌<◌}
use native.Mathlib.Nat.{div-add-mod, mod-lt, zero-lt-suc}
use native.Mathlib.Omega.{arith}
use mathlib.Core.Path.{◌≡◌, refl, sym, ap, ◌∙◌}
use mathlib.Core.Bool.{Bool, true, false, cond}
use mathlib.Core.Logic.{◌⊎◌, inl, inr, ⊎_elim}
use mathlib.Core.List.{List, [], ◌∷◌, ◌++◌, append_assoc}
use lib.Dec.{ltb, eqb}
use borrow.Author.Tests.{ltb-true, ltb-false, lt-ltb, le-ltb, eqb-true, ne_eqb, eq-eqb}
use Rattle.text.specs.Words.{digits, decimal, decimal_long, hex_digit, hex, hex8}
use Rattle.text.specs.TextJob.{Word}
use Rattle.text.specs.Reader.{Got, took, nothing, hex_value, digits_at, number_at, end_at, hex_at, bits_at}
use Rattle.text.proofs.Formats.{Reads, never, passed, chosen}
use Rattle.text.proofs.Digits.{digit_of, digit_is, hex_of, hex_is}

-- n by its last digit to a base
pub record Last (base n : ℕ) : Type 0 where
  pub whole : base * (n / base) + n % base ≡ n
  pub small : n % base < base

last10 : (n : ℕ) → Last 10 n
last10 n = record { whole = div-add-mod n 10; small = mod-lt n (zero-lt-suc 9) }

last16 : (n : ℕ) → Last 16 n
last16 n = record { whole = div-add-mod n 16; small = mod-lt n (zero-lt-suc 15) }

-- ---- decimal numbers

-- more room for digits does not change them
roomy : (k j n : ℕ) → k ≤ j → n < 10 ^ suc k → digits j n ≡ digits k n
unfolding digits
roomy zero zero n l h = refl
roomy zero (suc j) n l h = ap (λ (t : Bool). cond t ((48 + n) ∷ []) (digits j (n / 10) ++ (48 + n % 10) ∷ [])) (lt-ltb n 10 h)
roomy (suc k) zero n l h = absurd (omega arith)
roomy (suc k) (suc j) n l h =
    ap (λ (s : List ℕ). cond (ltb n 10) ((48 + n) ∷ []) (s ++ (48 + n % 10) ∷ [])) (roomy k j (n / 10) (omega arith) (let d = last10 n in omega arith))

-- so a count that fits 32 bits is written as every other number
pub long_is_decimal : (n : ℕ) → n < 2 ^ 32 → decimal_long n ≡ decimal n
long_is_decimal n h = roomy 9 19 n (omega arith) (omega arith)

-- one more digit behind v
pub behind : (v d : ℕ) → 0 < v → d < 10 → 10 * v + d < 2 ^ 32 → decimal (10 * v + d) ≡ decimal v ++ (48 + d) ∷ []
unfolding digits
behind v d p h w =
    let l = last10 (10 * v + d) in
    let q : (10 * v + d) / 10 ≡ v = omega arith in
    let m : (10 * v + d) % 10 ≡ d = omega arith in
    rw (le-ltb (10 * v + d) 10 (omega arith), q, m) (ap (λ (l : List ℕ). l ++ (48 + d) ∷ []) (sym (roomy 8 9 v (omega arith) (omega arith))))

pub single : (d : ℕ) → d < 10 → decimal d ≡ (48 + d) ∷ []
unfolding digits
single d h = rw (lt-ltb d 10 h)

-- a number begins with a digit
pub starts : (k n : ℕ) → n < 10 ^ suc k → (c : ℕ) × (s : List ℕ) × (digits k n ≡ c ∷ s) × (c < 58)
unfolding digits
starts zero n h = (48 + n, [], refl, omega arith)
starts (suc k) n h = by (ltb n 10) refl (starts k (n / 10) (omega (arith, last10 n)))
  where
    by : (t : Bool)
        → ltb n 10 ≡ t
        → (c : ℕ) × (s : List ℕ) × (digits k (n / 10) ≡ c ∷ s) × (c < 58)
        → (c : ℕ) × (s : List ℕ) × (cond t ((48 + n) ∷ []) (digits k (n / 10) ++ (48 + n % 10) ∷ []) ≡ c ∷ s) × (c < 58)
    by true e ih = (48 + n, [], refl, omega (arith, ltb-true n 10 e))
    by false e ih = (ih.0, ih.1 ++ (48 + n % 10) ∷ [], ap (λ (l : List ℕ). l ++ (48 + n % 10) ∷ []) ih.2, ih.3)

module _ (stop : ℕ) (stops : stop < 48) where
  first : (n : ℕ) (s : List ℕ) → n < 10 → number_at stop ((48 + n) ∷ s) ≡ digits_at stop n s
  unfolding number_at
  first n s h = rw (digit_of n h, lt-ltb n 10 h)

  more : (v d : ℕ) (s : List ℕ) → 0 < v → d < 10 → 10 * v + d < 2 ^ 32 → digits_at stop v ((48 + d) ∷ s) ≡ digits_at stop (10 * v + d) s
  unfolding digits_at
  more v d s p h w = rw (ne_eqb (48 + d) stop (λ e. omega arith), digit_of d h, lt-ltb 0 v p, lt-ltb d 10 h, lt-ltb (10 * v + d) (2 ^ 32) w)

  -- the digits of n are read as n
  reads_on : (k n : ℕ) (s : List ℕ) → n < 10 ^ suc k → Word n → number_at stop (digits k n ++ s) ≡ digits_at stop n s
  unfolding digits
  reads_on zero n s h w = first n s h
  reads_on (suc k) n s h w = by (ltb n 10) refl (λ t. reads_on k (n / 10) t (omega (arith, last10 n)) (omega (arith, last10 n)))
    where
      by : (t : Bool)
          → ltb n 10 ≡ t
          → ((t : List ℕ) → number_at stop (digits k (n / 10) ++ t) ≡ digits_at stop (n / 10) t)
          → number_at stop (cond t ((48 + n) ∷ []) (digits k (n / 10) ++ (48 + n % 10) ∷ []) ++ s) ≡ digits_at stop n s
      by true e ih = first n s (ltb-true n 10 e)
      by false e ih =
          let l = last10 n in
          let far : 10 ≤ n = ltb-false n 10 e in
          ap (number_at stop) (append_assoc (digits k (n / 10)) ((48 + n % 10) ∷ []) s)
          ∙ ih ((48 + n % 10) ∷ s)
          ∙ more (n / 10) (n % 10) s (omega arith) (omega arith) (omega arith)
          ∙ ap (λ (m : ℕ). digits_at stop m s) l.whole

  -- what is taken after digits of value v is a number whose digits begin with those
  stays : (v : ℕ) (s : List ℕ) (n : ℕ) (r : List ℕ) → Word v → digits_at stop v s ≡ took n r → Word n × (decimal v ++ s ≡ decimal n ++ stop ∷ r)
  unfolding digits_at
  stays v [] n r w e = never refl e
  stays v (b ∷ s) n r w e =
      let ih = stays (10 * v + hex_value b) s n r in
      ⊎_elim (λ h. stopped b s v n r w h.0 h.1) (λ h. further b s v n r ih h.1) (chosen (eqb b stop) _ _ n r e)
    where
      stopped : (b : ℕ) (s : List ℕ) (v n : ℕ) (r : List ℕ)
          → Word v
          → eqb b stop ≡ true
          → took v s ≡ took n r
          → Word n × (decimal v ++ b ∷ s ≡ decimal n ++ stop ∷ r)
      stopped b s v n r w t q =
          let e : b ≡ stop = eqb-true b stop t in
          let same : v ≡ n = cc in
          let rest : s ≡ r = cc in
          (omega arith, cc)

      further : (b : ℕ) (s : List ℕ) (v n : ℕ) (r : List ℕ)
          → (Word (10 * v + hex_value b)
          → digits_at stop (10 * v + hex_value b) s ≡ took n r
          → Word n × (decimal (10 * v + hex_value b) ++ s ≡ decimal n ++ stop ∷ r))
          → cond (ltb 0 v)
          (cond (ltb (hex_value b) 10)
          (cond (ltb (10 * v + hex_value b) (2 ^ 32)) (digits_at stop (10 * v + hex_value b) s) nothing)
          nothing)
          nothing
          ≡ took n r
          → Word n × (decimal v ++ b ∷ s ≡ decimal n ++ stop ∷ r)
      further b s v n r ih e =
          let p = passed _ _ n r e in
          let q = passed _ _ n r p.1 in
          let u = passed _ _ n r q.1 in
          let above : 0 < v = ltb-true _ _ p.0 in
          let digit : hex_value b < 10 = ltb-true _ _ q.0 in
          let fits : 10 * v + hex_value b < 2 ^ 32 = ltb-true _ _ u.0 in
          let done = ih fits u.1 in (
            done.0,
            ap (λ (c : ℕ). decimal v ++ c ∷ s) (digit_is b digit)
                ∙ sym (append_assoc (decimal v) ((48 + hex_value b) ∷ []) s)
                ∙ ap (λ (l : List ℕ). l ++ s) (sym (behind v (hex_value b) above digit fits))
                ∙ done.1,
          )

  number_sound : (s : List ℕ) (n : ℕ) (r : List ℕ) → number_at stop s ≡ took n r → Word n × (s ≡ (decimal n ++ stop ∷ []) ++ r)
  unfolding number_at
  number_sound [] n r e = never refl e
  number_sound (b ∷ s) n r e =
      let p = passed _ _ n r e in
      let digit : hex_value b < 10 = ltb-true _ _ p.0 in
      let done = stays (hex_value b) s n r (omega arith) p.1 in (
        done.0,
        ap (λ (c : ℕ). c ∷ s) (digit_is b digit)
            ∙ ap (λ (l : List ℕ). l ++ s) (sym (single (hex_value b) digit))
            ∙ done.1
            ∙ sym (append_assoc (decimal n) (stop ∷ []) r),
      )

  ended : (n : ℕ) (r : List ℕ) → digits_at stop n (stop ∷ r) ≡ took n r
  unfolding digits_at
  ended n r = rw (eq-eqb stop stop refl)

  -- a decimal number and the byte that ends it
  pub number_reads : Reads Word (λ n. decimal n ++ stop ∷ []) (number_at stop)
  number_reads =
      record {
        sound = number_sound;
        complete =
            λ n r w b. ap (number_at stop) (append_assoc (decimal n) (stop ∷ []) r) ∙ reads_on 9 n (stop ∷ r) (omega arith) w ∙ ended n r;
      }

-- ---- hex numbers

-- one more digit behind v
hex_behind : (m v b : ℕ) → hex_value b < 16 → hex (suc m) (16 * v + hex_value b) ≡ hex m v ++ b ∷ []
unfolding hex
hex_behind m v b h =
    let l = last16 (16 * v + hex_value b) in
    let q : (16 * v + hex_value b) / 16 ≡ v = omega arith in
    let d : (16 * v + hex_value b) % 16 ≡ hex_value b = omega arith in
    rw (q, d) (ap (λ (c : ℕ). hex m v ++ c ∷ []) (hex_is b h))

module _ (stop : ℕ) where
  hex_more : (m v d : ℕ) (s : List ℕ) → d < 16 → hex_at stop (suc m) v (hex_digit d ∷ s) ≡ hex_at stop m (16 * v + d) s
  unfolding hex_at
  hex_more m v d s h = rw (hex_of d h, lt-ltb d 16 h)

  hex_reads_on : (k m b : ℕ) (s : List ℕ) → b < 16 ^ k → hex_at stop (k + m) 0 (hex k b ++ s) ≡ hex_at stop m b s
  unfolding hex
  hex_reads_on zero m b s h =
      let e : 0 + m ≡ m = omega arith in
      let z : 0 ≡ b = omega arith in
      ap (λ (n : ℕ). hex_at stop n 0 s) e ∙ ap (λ (v : ℕ). hex_at stop m v s) z
  hex_reads_on (suc k) m b s h =
      let l = last16 b in
      let e : suc k + m ≡ k + suc m = omega arith in
      ap (λ (n : ℕ). hex_at stop n 0 (hex (suc k) b ++ s)) e
      ∙ ap (hex_at stop (k + suc m) 0) (append_assoc (hex k (b / 16)) (hex_digit (b % 16) ∷ []) s)
      ∙ hex_reads_on k (suc m) (b / 16) (hex_digit (b % 16) ∷ s) (omega arith)
      ∙ hex_more m (b / 16) (b % 16) s (omega arith)
      ∙ ap (λ (v : ℕ). hex_at stop m v s) l.whole

  hex_stays : (n m v : ℕ) (s : List ℕ) (b : ℕ) (r : List ℕ)
      → v < 16 ^ m
      → hex_at stop n v s ≡ took b r
      → (b < 16 ^ (m + n)) × (hex m v ++ s ≡ hex (m + n) b ++ stop ∷ r)
  unfolding hex_at end_at
  hex_stays zero m v [] b r w e = never refl e
  hex_stays zero m v (c ∷ s) b r w e =
      let p = passed _ _ b r e in
      let q : c ≡ stop = eqb-true c stop p.0 in
      let t : took v s ≡ took b r = p.1 in
      let same : v ≡ b = cc in
      let rest : s ≡ r = cc in
      let z : m + 0 ≡ m = omega arith in
      rw z (rw (sym same) w, cc)
  hex_stays (suc n) m v [] b r w e = never refl e
  hex_stays (suc n) m v (c ∷ s) b r w e =
      let p = passed _ _ b r e in
      let digit : hex_value c < 16 = ltb-true _ _ p.0 in
      let done = hex_stays n (suc m) (16 * v + hex_value c) s b r (omega arith) p.1 in
      let z : suc m + n ≡ m + suc n = omega arith in
      let d : (b < 16 ^ (m + suc n)) × (hex (suc m) (16 * v + hex_value c) ++ s ≡ hex (m + suc n) b ++ stop ∷ r) = rw z at done in (
        d.0,
        sym (append_assoc (hex m v) (c ∷ []) s) ∙ ap (λ (l : List ℕ). l ++ s) (sym (hex_behind m v c digit)) ∙ d.1,
      )

  hex_ended : (n : ℕ) (r : List ℕ) → hex_at stop 0 n (stop ∷ r) ≡ took n r
  unfolding hex_at end_at
  hex_ended n r = rw (eq-eqb stop stop refl)

  bits_sound : (s : List ℕ) (b : ℕ) (r : List ℕ) → bits_at stop s ≡ took b r → Word b × (s ≡ (hex8 b ++ stop ∷ []) ++ r)
  unfolding hex
  bits_sound s b r e =
      let done = hex_stays 8 0 0 s b r (omega arith) e in
      (done.0, done.1 ∙ sym (append_assoc (hex8 b) (stop ∷ []) r))

  -- eight hex digits and the byte that ends them
  pub bits_reads : Reads Word (λ b. hex8 b ++ stop ∷ []) (bits_at stop)
  bits_reads =
      record {
        sound = bits_sound;
        complete =
            λ n r w b. ap (bits_at stop) (append_assoc (hex8 n) (stop ∷ []) r) ∙ hex_reads_on 8 0 n (stop ∷ r) w ∙ hex_ended n r;
      }
