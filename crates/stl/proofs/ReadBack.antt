-- What `write_stl` writes, `read_stl` reads: a file that was written passes every check of reading, and its corners are those that were
-- lent. Assumes nothing.
use Prim.Native.Nat.{ℕ, zero, suc, ◌/◌}
use native.Mathlib.Omega.{arith}
use mathlib.Core.Path.{◌≡◌, refl, sym, ap, ◌∙◌}
use mathlib.Core.List.{List, ◌++◌}
use lib.ListN.{length, length-append, length-map}
use lib.Ieee.{Float, binary32, to_bits}
use Rattle.lists.specs.Checks.{first_that_applies}
use Rattle.lists.specs.Joined.{joined}
use Rattle.lists.proofs.Joined.{length_joined}
use Rattle.refusals.specs.Numbers.{given}
use Rattle.float_bits.specs.Patterns.{bits_of}
use Rattle.stl.specs.File.{count_in, length_for, head_of, record_of, nine_at, facets_in, stl_of, Binary32}
use Rattle.stl.specs.Reply.{file_checks, buffer_checks, writing_checks, answer_by, left_by, outcome_by, reading, writing}
use Rattle.stl.proofs.Pieces.{record_long}
use Rattle.stl.proofs.Replies.{fits, lent, Writable, writable}
use Rattle.stl.proofs.RoundTrip.{head_long, count_there, round_trip_floats}

written_long : (ps : List ℕ) → length (stl_of ps) ≡ length_for (facets_in ps)
unfolding stl_of
written_long ps =
    let records : ℕ → List ℕ = λ j. record_of (nine_at ps j) in
    let n = facets_in ps in
    omega (arith, length-append (head_of n) (joined records n), head_long n, length_joined records 50 (λ j. record_long (nine_at ps j)) n)

-- an answer with facets is no refusal
answered : (n f g : ℕ) → answer_by n f ≡ given g → n ≡ 0
answered zero f g e = refl
answered (suc n) f g e = cc

made_by : {A : Type 0} (n f g : ℕ) (made wanted lent : List A) → n ≡ 0 → f ≡ g → made ≡ wanted → outcome_by n f made lent ≡ record { answer = given g; left = wanted }
made_by n f g made wanted lent z e h = rw (z, e, h)

-- a call of `write_stl` that was answered with its facets, and then one of `read_stl` on what it left, with a buffer as long as the corners were
pub read_back : (xs buffer : List Float) (file : List ℕ) → Binary32 xs → (writing xs file).answer ≡ given (facets_in xs) → length buffer ≡ length xs
    → reading (writing xs file).left buffer ≡ record { answer = given (facets_in xs); left = xs }
read_back xs buffer file b w l =
    ap (λ (f : List ℕ). reading f buffer) (ap (λ (n : ℕ). left_by n s file) none) ∙ made_by _ _ _ _ _ _ passed count (round_trip_floats xs b fit.even (omega (arith, fit.few)))
  where
    s : List ℕ
    s = stl_of (bits_of xs)

    none : first_that_applies (writing_checks (length xs) (length file)) ≡ 0
    none = answered _ _ _ w

    fit : Writable (length xs) (length file)
    fit = writable (length xs) (length file) none

    facets : facets_in (bits_of xs) ≡ facets_in xs
    facets = ap (λ (n : ℕ). n / 9) (length-map xs (to_bits binary32))

    count : count_in s ≡ facets_in xs
    count = count_there (bits_of xs) (omega (arith, facets, fit.few)) ∙ facets

    long : length s ≡ length_for (count_in s)
    long = written_long (bits_of xs) ∙ ap length_for (facets ∙ sym count)

    passed : first_that_applies (file_checks s ++ buffer_checks s (length buffer)) ≡ 0
    passed = lent s (fits s (omega (arith, long)) long (omega (arith, count, fit.few))) (length buffer) (omega (arith, l, count, fit.even))
