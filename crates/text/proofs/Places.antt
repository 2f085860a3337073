-- What the reader on lists finds at a place k of a text t, byte by byte: the steps of the loops that read words and numbers.
use Prim.Native.Nat.{ℕ, zero, suc, ◌+◌, ◌*◌, ◌^◌, ◌≤◌, ◌<◌}
use native.Mathlib.Numerals.{add-one}
use native.Mathlib.Omega.{arith}
use mathlib.Core.Path.{◌≡◌, refl, sym, ap, ◌∙◌}
use mathlib.Core.List.{List, [], ◌∷◌}
use lib.ListN.{length, get_or, drop, drop_of_length-le}
use lib.Seq.{drop-cons}
use borrow.Author.Tests.{lt-ltb, le-ltb, eq-eqb, ne_eqb}
use Rattle.text.specs.Reader.{took, nothing, hex_value, word_at, digits_at, number_at, end_at, hex_at}

pub here : (t : List ℕ) (k : ℕ) → k < length t → drop k t ≡ get_or t k 0 ∷ drop (k + 1) t
here t k h = drop-cons t k 0 h ∙ ap (λ (n : ℕ). get_or t k 0 ∷ drop n t) (sym (add-one k))

pub past : (t : List ℕ) (k : ℕ) → length t ≤ k → drop k t ≡ []
past t k h = drop_of_length-le t h

-- ---- a word w, of which i bytes are found

module _ (w : List ℕ) (i : ℕ) (t : List ℕ) (k : ℕ) where
  pub word_more : i < length w
      → k < length t
      → get_or t k 0 ≡ get_or w i 0
      → word_at (drop i w) (drop k t) ≡ word_at (drop (i + 1) w) (drop (k + 1) t)
  unfolding word_at
  word_more h g e = rw (here w i h, here t k g, eq-eqb (get_or t k 0) (get_or w i 0) e)

  pub word_short : i < length w → length t ≤ k → word_at (drop i w) (drop k t) ≡ nothing
  unfolding word_at
  word_short h g = rw (here w i h, past t k g)

  pub word_differs : i < length w → k < length t → (get_or t k 0 ≡ get_or w i 0 → ⊥) → word_at (drop i w) (drop k t) ≡ nothing
  unfolding word_at
  word_differs h g n = rw (here w i h, here t k g, ne_eqb (get_or t k 0) (get_or w i 0) n)

  pub word_end : length w ≤ i → word_at (drop i w) (drop k t) ≡ took tt (drop k t)
  unfolding word_at
  word_end h = rw (past w i h)

module _ (stop : ℕ) (t : List ℕ) (k : ℕ) where
  -- ---- the first digit of a decimal number

  pub number_past : length t ≤ k → number_at stop (drop k t) ≡ nothing
  unfolding number_at
  number_past h = rw (past t k h)

  pub number_not : {d : ℕ} → k < length t → d ≡ hex_value (get_or t k 0) → 10 ≤ d → number_at stop (drop k t) ≡ nothing
  unfolding number_at
  number_not {d = d} h e l = rw (here t k h, ← e, le-ltb d 10 l)

  pub number_first : {d : ℕ} → k < length t → d ≡ hex_value (get_or t k 0) → d < 10 → number_at stop (drop k t) ≡ digits_at stop d (drop (k + 1) t)
  unfolding number_at
  number_first {d = d} h e l = rw (here t k h, ← e, lt-ltb d 10 l)

  -- ---- the digits after it, where their value is v

  module _ (v : ℕ) where
    pub digits_past : length t ≤ k → digits_at stop v (drop k t) ≡ nothing
    unfolding digits_at
    digits_past h = rw (past t k h)

    pub digits_stop : k < length t → get_or t k 0 ≡ stop → digits_at stop v (drop k t) ≡ took v (drop (k + 1) t)
    unfolding digits_at
    digits_stop h e = rw (here t k h, eq-eqb (get_or t k 0) stop e)

    module _ (h : k < length t) (n : get_or t k 0 ≡ stop → ⊥) where
      pub digits_zero : v ≡ 0 → digits_at stop v (drop k t) ≡ nothing
      unfolding digits_at
      digits_zero z = rw (here t k h, ne_eqb (get_or t k 0) stop n, le-ltb 0 v (omega arith))

      module _ {d : ℕ} (p : v ≡ 0 → ⊥) (e : d ≡ hex_value (get_or t k 0)) where
        pub digits_not : 10 ≤ d → digits_at stop v (drop k t) ≡ nothing
        unfolding digits_at
        digits_not l = rw (here t k h, ne_eqb (get_or t k 0) stop n, lt-ltb 0 v (omega arith), ← e, le-ltb d 10 l)

        pub digits_large : d < 10 → 4294967295 < 10 * v + d → digits_at stop v (drop k t) ≡ nothing
        unfolding digits_at
        digits_large l g =
            rw (here t k h, ne_eqb (get_or t k 0) stop n, lt-ltb 0 v (omega arith), ← e, lt-ltb d 10 l, le-ltb (10 * v + d) (2 ^ 32) (omega arith))

        pub digits_more : d < 10 → 10 * v + d ≤ 4294967295 → digits_at stop v (drop k t) ≡ digits_at stop (10 * v + d) (drop (k + 1) t)
        unfolding digits_at
        digits_more l g =
            rw (here t k h, ne_eqb (get_or t k 0) stop n, lt-ltb 0 v (omega arith), ← e, lt-ltb d 10 l, lt-ltb (10 * v + d) (2 ^ 32) (omega arith))

    -- ---- hex digits, of which n are left

    pub hex_past : (n : ℕ) → length t ≤ k → hex_at stop n v (drop k t) ≡ nothing
    unfolding hex_at end_at
    hex_past zero h = rw (past t k h)
    hex_past (suc n) h = rw (past t k h)

    pub hex_not : {n m d : ℕ} → n ≡ suc m → k < length t → d ≡ hex_value (get_or t k 0) → 16 ≤ d → hex_at stop n v (drop k t) ≡ nothing
    unfolding hex_at
    hex_not {d = d} q h e l = rw (q, here t k h, ← e, le-ltb d 16 l)

    pub hex_next : {n m d : ℕ}
        → n ≡ suc m
        → k < length t
        → d ≡ hex_value (get_or t k 0)
        → d < 16
        → hex_at stop n v (drop k t) ≡ hex_at stop m (16 * v + d) (drop (k + 1) t)
    unfolding hex_at
    hex_next {d = d} q h e l = rw (q, here t k h, ← e, lt-ltb d 16 l)

    pub hex_differs : {n : ℕ} → n ≡ 0 → k < length t → (get_or t k 0 ≡ stop → ⊥) → hex_at stop n v (drop k t) ≡ nothing
    unfolding hex_at end_at
    hex_differs q h n = rw (q, here t k h, ne_eqb (get_or t k 0) stop n)

    pub hex_stop : {n : ℕ} → n ≡ 0 → k < length t → get_or t k 0 ≡ stop → hex_at stop n v (drop k t) ≡ took v (drop (k + 1) t)
    unfolding hex_at end_at
    hex_stop q h e = rw (q, here t k h, eq-eqb (get_or t k 0) stop e)
