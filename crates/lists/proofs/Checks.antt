-- Where the first that applies is 0, none applies; no number is given but 0 and those of the checks; and two groups may be asked in turn: a number
-- of the first ends it, and past 0 it is the second's. By induction on the checks. Assumes nothing.
use Prim.Native.Nat.{ℕ, ◌<◌}
use native.Mathlib.Omega.{arith}
use mathlib.Core.Path.{◌≡◌, refl}
use mathlib.Core.Logic.{◌⊎◌, inl, inr}
use mathlib.Core.Bool.{Bool, true, false, cond, ◌||◌, true≢false}
use mathlib.Core.List.{List, [], ◌∷◌, ◌++◌, Memᴰ}
use Rattle.lists.specs.Checks.{Check, first_that_applies, numbers_of}

-- no check has the number 0; none of them applies
abbrev pub Numbered : List Check → Type 0
Numbered [] = Unit {0}
Numbered (c ∷ cs) = (0 < c.number) × Numbered cs

abbrev pub NoneApplies : List Check → Type 0
NoneApplies [] = Unit {0}
NoneApplies (c ∷ cs) = (c.applies ≡ false) × NoneApplies cs

-- where one of two tests is asked for, and does not hold, neither holds
pub neither : (a b : Bool) → (a || b) ≡ false → (a ≡ false) × (b ≡ false)
neither true b h = absurd (true≢false h)
neither false b h = (refl, h)

-- a check that does not apply, and what the later ones come to
passed : (b : Bool) (n : ℕ) {rest : ℕ} → 0 < n → cond b n rest ≡ 0 → (b ≡ false) × (rest ≡ 0)
passed true n p h = absurd (omega arith)
passed false n p h = (refl, h)

pub none_applies : (cs : List Check) → Numbered cs → first_that_applies cs ≡ 0 → NoneApplies cs
none_applies [] n h = tt
none_applies (c ∷ cs) n h =
    let p = passed c.applies c.number n.0 h in
    (p.0, none_applies cs n.1 p.1)

-- ---- no number is given otherwise

pub first_is : (cs : List Check) → (first_that_applies cs ≡ 0) ⊎ Memᴰ (first_that_applies cs) (numbers_of cs)
first_is [] = inl refl
first_is (c ∷ cs) = go c.applies (first_is cs)
  where
    go : (b : Bool) → (first_that_applies cs ≡ 0) ⊎ Memᴰ (first_that_applies cs) (numbers_of cs)
        → (cond b c.number (first_that_applies cs) ≡ 0) ⊎ Memᴰ (cond b c.number (first_that_applies cs)) (numbers_of (c ∷ cs))
    go true r = inr (Memᴰ.head refl)
    go false (inl e) = inl e
    go false (inr m) = inr (Memᴰ.tail m)

-- ---- two groups

-- past a group that gave 0 the next is asked
pub past_group : (cs ds : List Check) → Numbered cs → first_that_applies cs ≡ 0 → first_that_applies (cs ++ ds) ≡ first_that_applies ds
past_group [] ds n z = refl
past_group (c ∷ cs) ds n z =
    let p = passed c.applies c.number n.0 z in
    rw (p.0, past_group cs ds n.1 p.1)

-- a group that gives a number ends it
pub by_group : (cs ds : List Check) → (first_that_applies cs ≡ 0 → ⊥) → first_that_applies (cs ++ ds) ≡ first_that_applies cs
by_group [] ds h = absurd (h refl)
by_group (c ∷ cs) ds h = go c.applies (by_group cs ds) h
  where
    go : (b : Bool) → ((first_that_applies cs ≡ 0 → ⊥) → first_that_applies (cs ++ ds) ≡ first_that_applies cs)
        → (cond b c.number (first_that_applies cs) ≡ 0 → ⊥)
        → cond b c.number (first_that_applies (cs ++ ds)) ≡ cond b c.number (first_that_applies cs)
    go true later h' = refl
    go false later h' = later h'
