-- What `insert` and `in_order` mean, over any type, for a reader of the contracts and for callers: how long the list is, that it is in
-- order, that it has each of the first n elements as often as they do, and what is a member of it. Assumes nothing.
use Prim.Native.Nat.{ℕ, zero, suc, ◌+◌, ◌≤◌}
use native.Mathlib.Nat.{le_of_suc-le-suc, not-suc-le-zero, add_left_comm}
use mathlib.Core.Path.{◌≡◌, refl, ap, ◌∙◌}
use mathlib.Core.Logic.{◌⊎◌, inl, inr}
use mathlib.Core.Bool.{Bool, true, false, cond}
use mathlib.Core.List.Memᴰ
use mathlib.Core.List.{List, [], ◌∷◌, Memᴰ}
use lib.ListN.{length, take}
use Rattle.queue.specs.InOrder.{Total, insert, in_order}
use Rattle.queue.proofs.Bags.{After, after_insert}

-- ---- how many
module _ {A : Type 0} (le : A → A → Bool) where
  length_cond : (b : Bool) (x y : A) (l r : List A) → length r ≡ suc (length l) → length (cond b (x ∷ y ∷ l) (y ∷ r)) ≡ suc (suc (length l))
  length_cond true x y l r h = refl
  length_cond false x y l r h = ap suc h

  pub length_insert : (x : A) (l : List A) → length (insert le x l) ≡ suc (length l)
  unfolding insert
  length_insert x [] = refl
  length_insert x (y ∷ l) = length_cond (le x y) x y l (insert le x l) (length_insert x l)

  pub length_in_order : (n : ℕ) (q : List A) → n ≤ length q → length (in_order le n q) ≡ n
  unfolding in_order
  length_in_order zero q h = refl
  length_in_order (suc n) [] h = absurd (not-suc-le-zero h)
  length_in_order (suc n) (x ∷ q) h = length_insert x (in_order le n q) ∙ ap suc (length_in_order n q (le_of_suc-le-suc h))

-- ---- each as often
-- how many elements pass the test p
unfoldable pub count : {A : Type 0} → (A → Bool) → List A → ℕ
count p [] = 0
count p (x ∷ l) = cond (p x) 1 0 + count p l

module _ {A : Type 0} (le : A → A → Bool) where
  count_cond : (p : A → Bool) (b : Bool) (x y : A) (l r : List A) → count p r ≡ cond (p x) 1 0 + count p l
      → count p (cond b (x ∷ y ∷ l) (y ∷ r)) ≡ cond (p x) 1 0 + (cond (p y) 1 0 + count p l)
  unfolding count
  count_cond p true x y l r h = refl
  count_cond p false x y l r h = ap (λ (n : ℕ). cond (p y) 1 0 + n) h ∙ add_left_comm (cond (p y) 1 0) (cond (p x) 1 0) (count p l)

  pub count_insert : (p : A → Bool) (x : A) (l : List A) → count p (insert le x l) ≡ cond (p x) 1 0 + count p l
  unfolding count insert
  count_insert p x [] = refl
  count_insert p x (y ∷ l) = count_cond p (le x y) x y l (insert le x l) (count_insert p x l)

  pub count_in_order : (p : A → Bool) (n : ℕ) (q : List A) → count p (in_order le n q) ≡ count p (take n q)
  unfolding count in_order
  count_in_order p zero q = refl
  count_in_order p (suc n) [] = refl
  count_in_order p (suc n) (x ∷ q) = count_insert p x (in_order le n q) ∙ ap (λ (k : ℕ). cond (p x) 1 0 + k) (count_in_order p n q)

-- ---- in order: each goes no later than any behind it
abbrev pub Sorted : {A : Type 0} → (A → A → Bool) → List A → Type 0
Sorted le [] = Unit {0}
Sorted le (x ∷ l) = After le x l × Sorted le l

module _ {A : Type 0} {le : A → A → Bool} (𝓞 : Total le) where
  after_trans : (x y : A) (l : List A) → le x y ≡ true → After le y l → After le x l
  after_trans x y [] h a = tt
  after_trans x y (z ∷ l) h a = (𝓞.trans x y z h a.0, after_trans x y l h a.1)

  sorted_cond : (x y : A) (l : List A) (b : Bool) → le x y ≡ b → Sorted le (y ∷ l) → Sorted le (insert le x l) → Sorted le (cond b (x ∷ y ∷ l) (y ∷ insert le x l))
  sorted_cond x y l true e s k = ((e, after_trans x y l e s.0), s)
  sorted_cond x y l false e s k = (after_insert 𝓞 y x l (𝓞.total x y e) s.0, k)

  pub sorted_insert : (x : A) (l : List A) → Sorted le l → Sorted le (insert le x l)
  unfolding insert
  sorted_insert x [] s = (tt, tt)
  sorted_insert x (y ∷ l) s = sorted_cond x y l (le x y) refl s (sorted_insert x l s.1)

  pub sorted_in_order : (n : ℕ) (q : List A) → Sorted le (in_order le n q)
  unfolding in_order
  sorted_in_order zero q = tt
  sorted_in_order (suc n) [] = tt
  sorted_in_order (suc n) (x ∷ q) = sorted_insert x (in_order le n q) (sorted_in_order n q)

  -- what goes no later than the whole list goes no later than a member
  pub after_member : (r x : A) (l : List A) → After le r l → Memᴰ x l → le r x ≡ true
  after_member r x [] a m = absurd (Memᴰ.not-nil m)
  after_member r x (y ∷ l) a m = go (after_member r x l a.1) (Memᴰ.cases_cons m)
    where
      go : (Memᴰ x l → le r x ≡ true) → (x ≡ y) ⊎ Memᴰ x l → le r x ≡ true
      go f (inl e) = ap (le r) e ∙ a.0
      go f (inr k) = f k

-- ---- members
module _ {A : Type 0} (le : A → A → Bool) where
  -- what is put in is there
  put_cond : (e y : A) (l r : List A) (b : Bool) → Memᴰ e r → Memᴰ e (cond b (e ∷ y ∷ l) (y ∷ r))
  put_cond e y l r true m = Memᴰ.head refl
  put_cond e y l r false m = Memᴰ.tail m

  pub in_insert : (e : A) (l : List A) → Memᴰ e (insert le e l)
  unfolding insert
  in_insert e [] = Memᴰ.head refl
  in_insert e (y ∷ l) = put_cond e y l (insert le e l) (le e y) (in_insert e l)

  -- and so is what was there
  kept_cond : (x e y : A) (l r : List A) (b : Bool) → (Memᴰ x l → Memᴰ x r) → Memᴰ x (y ∷ l) → Memᴰ x (cond b (e ∷ y ∷ l) (y ∷ r))
  kept_cond x e y l r true f m = Memᴰ.tail m
  kept_cond x e y l r false f m = go (Memᴰ.cases_cons m)
    where
      go : (x ≡ y) ⊎ Memᴰ x l → Memᴰ x (y ∷ r)
      go (inl h) = Memᴰ.head h
      go (inr k) = Memᴰ.tail (f k)

  pub still_in : (x e : A) (l : List A) → Memᴰ x l → Memᴰ x (insert le e l)
  unfolding insert
  still_in x e [] m = Memᴰ.tail m
  still_in x e (y ∷ l) m = kept_cond x e y l (insert le e l) (le e y) (still_in x e l) m

  -- and nothing else
  from_cond : (x e y : A) (l r : List A) (b : Bool) → (Memᴰ x r → (x ≡ e) ⊎ Memᴰ x l) → Memᴰ x (cond b (e ∷ y ∷ l) (y ∷ r))
      → (x ≡ e) ⊎ Memᴰ x (y ∷ l)
  from_cond x e y l r true f m = Memᴰ.cases_cons m
  from_cond x e y l r false f m = go (Memᴰ.cases_cons m)
    where
      behind : (x ≡ e) ⊎ Memᴰ x l → (x ≡ e) ⊎ Memᴰ x (y ∷ l)
      behind (inl h) = inl h
      behind (inr k) = inr (Memᴰ.tail k)

      go : (x ≡ y) ⊎ Memᴰ x r → (x ≡ e) ⊎ Memᴰ x (y ∷ l)
      go (inl h) = inr (Memᴰ.head h)
      go (inr k) = behind (f k)

  pub from_insert : (x e : A) (l : List A) → Memᴰ x (insert le e l) → (x ≡ e) ⊎ Memᴰ x l
  unfolding insert
  from_insert x e [] m = Memᴰ.cases_cons m
  from_insert x e (y ∷ l) m = from_cond x e y l (insert le e l) (le e y) (from_insert x e l) m
