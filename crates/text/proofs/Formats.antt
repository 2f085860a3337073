-- A reader reads a format: what it takes is the format of the value that it gives, with the rest behind it, and it takes the format of every
-- value that is meant. From these two a format has one value, and readers that follow each other need no more than each other's laws:
-- so every line of the text is read by the same few laws. A line that may be left out is read before what does not begin as it does: the line
-- that must follow it, or the end of the text. A line that says one of a few values is read by their words, which differ from each other.
use Prim.Native.Nat.{ℕ}
use native.Mathlib.Omega.{arith}
use mathlib.Core.Path.{◌≡◌, refl, sym, ap, ◌∙◌, subst}
use mathlib.Core.Bool.{Bool, true, false, cond, ◌&&◌, and-eq-true_iff, false≢true}
use mathlib.Core.Logic.{◌⊎◌, inl, inr, ⊎_elim}
use mathlib.Core.List.Memᴰ
use mathlib.Core.List.{List, [], ◌∷◌, ◌++◌, append_assoc, append-nil, Memᴰ}
use lib.Dec.{eqb}
use borrow.Author.Tests.{eqb-true, eq-eqb}
use Rattle.lists.specs.Every.{every}
use Rattle.lists.proofs.Every.{every_member}
use Rattle.text.specs.Reader.{Got, took, nothing, follow, kept, or_try, optional, word_at, one_of, at_end}

-- of the values that are `In`, before the rests that are `Rest`
pub record ReadsBefore {A : Type 0} (Rest : List ℕ → Type 0) (In : A → Type 0) (f : A → List ℕ) (p : List ℕ → Got A) : Type 0 where
  pub sound : (s : List ℕ) (a : A) (r : List ℕ) → p s ≡ took a r → In a × (s ≡ f a ++ r)
  pub complete : (a : A) (r : List ℕ) → In a → Rest r → p (f a ++ r) ≡ took a r

-- before any rest
abbrev pub Reads : {A : Type 0} → (A → Type 0) → (A → List ℕ) → (List ℕ → Got A) → Type 0
Reads In f p = ReadsBefore (λ r. Unit) In f p

-- where the text ends
abbrev pub ReadsLast : {A : Type 0} → (A → Type 0) → (A → List ℕ) → (List ℕ → Got A) → Type 0
ReadsLast In f p = ReadsBefore (λ r. r ≡ []) In f p

-- ---- what the steps of a reader came to

module _ {A : Type 0} where
  pub never : {x : Got A} {a : A} {r : List ℕ} {B : Type 0} → x ≡ nothing → x ≡ took a r → B
  never p q = absurd (let z : ◌≡◌ {A = ℕ} 0 1 = cc in omega arith)

  -- a test that must hold
  pub passed : (t : Bool) (x : Got A) (a : A) (r : List ℕ) → cond t x nothing ≡ took a r → (t ≡ true) × (x ≡ took a r)
  passed true x a r e = (refl, e)
  passed false x a r e = never refl e

  -- a test that chooses
  pub chosen : (t : Bool) (x y : Got A) (a : A) (r : List ℕ)
      → cond t x y ≡ took a r
      → ((t ≡ true) × (x ≡ took a r)) ⊎ ((t ≡ false) × (y ≡ took a r))
  chosen true x y a r e = inl (refl, e)
  chosen false x y a r e = inr (refl, e)

  pub either_took : (x y : Got A) (a : A) (r : List ℕ) → or_try x y ≡ took a r → (x ≡ took a r) ⊎ (y ≡ took a r)
  unfolding or_try
  either_took (took b s) y a r e = inl e
  either_took nothing y a r e = inr e

  pub kept_took : (t : A → Bool) (x : Got A) (a : A) (r : List ℕ) → kept t x ≡ took a r → (t a ≡ true) × (x ≡ took a r)
  unfolding kept
  kept_took t (took b s) a r e = let p = passed (t b) (took b s) a r e in (subst (λ (v : A). t v ≡ true) (same p.1) p.0, p.1)
    where
      same : {b a : A} {s r : List ℕ} → took b s ≡ took a r → b ≡ a
      same q = cc
  kept_took t nothing a r e = never refl e

  pub keeps : (t : A → Bool) (x : Got A) (a : A) (r : List ℕ) → t a ≡ true → x ≡ took a r → kept t x ≡ took a r
  unfolding kept
  keeps t x a r h e = ap (kept t) e ∙ ap (λ (u : Bool). cond u (took a r) nothing) h

module _ {A B : Type 0} (f : A → List ℕ → Got B) where
  pub follow_took : (x : Got A) (b : B) (r : List ℕ)
      → follow x f ≡ took b r
      → (a : A) × (s : List ℕ) × (x ≡ took a s) × (f a s ≡ took b r)
  unfolding follow
  follow_took (took a s) b r e = (a, s, refl, e)
  follow_took nothing b r e = never refl e

  pub follows : {x : Got A} {a : A} {s : List ℕ} → x ≡ took a s → follow x f ≡ f a s
  unfolding follow
  follows e = ap (λ (g : Got A). follow g f) e

  pub follows_not : {x : Got A} → x ≡ nothing → follow x f ≡ nothing
  unfolding follow
  follows_not e = ap (λ (g : Got A). follow g f) e

-- ---- readers of formats

module _ {A : Type 0} {Rest : List ℕ → Type 0} {In : A → Type 0} {f : A → List ℕ} {p : List ℕ → Got A} where
  -- the same values and the same format in other words
  pub reshaped : {In' : A → Type 0} {f' : A → List ℕ}
      → ReadsBefore Rest In f p
      → ((a : A) → In a → In' a)
      → ((a : A) → In' a → In a)
      → ((a : A) → In' a → f a ≡ f' a)
      → ReadsBefore Rest In' f' p
  reshaped {f' = f'} reads to from same =
      record {
        sound =
            λ s a r e.
            let h = reads.sound s a r e in
            (to a h.0, h.1 ∙ ap (λ (l : List ℕ). l ++ r) (same a (to a h.0)));
        complete = λ a r i b. ap (λ (l : List ℕ). p (l ++ r)) (sym (same a i)) ∙ reads.complete a r (from a i) b;
      }

  -- before some of the rests
  pub narrowed : {Rest' : List ℕ → Type 0} → ReadsBefore Rest In f p → ((r : List ℕ) → Rest' r → Rest r) → ReadsBefore Rest' In f p
  narrowed reads some = record { sound = reads.sound; complete = λ a r i b. reads.complete a r i (some r b) }

  -- only the values that pass a test
  pub kept_reads : (t : A → Bool) → ReadsBefore Rest In f p → ReadsBefore Rest (λ a. In a × (t a ≡ true)) f (λ s. kept t (p s))
  kept_reads t reads =
      record {
        sound =
            λ s a r e.
            let k = kept_took t (p s) a r e in
            let h = reads.sound s a r k.1 in
            ((h.0, k.0), h.1);
        complete = λ a r i b. keeps t (p (f a ++ r)) a r i.1 (reads.complete a r i.0 b);
      }

  -- a format that begins a longer one: of the values j, whose part `part j` it writes, before what the others write
  pub chain_before : {Rest' : List ℕ → Type 0} {J : Type 0} {InJ : J → Type 0} {g : J → List ℕ} (part : J → A) (q : A → List ℕ → Got J)
      → ReadsBefore Rest In f p
      → ((j : J) (r : List ℕ) → InJ j → Rest' r → Rest (g j ++ r))
      → ((j : J) → InJ j → In (part j))
      → ((a : A) → In a → ReadsBefore Rest' (λ j. InJ j × (part j ≡ a)) g (q a))
      → ReadsBefore Rest' InJ (λ j. f (part j) ++ g j) (λ s. follow (p s) q)
  chain_before {g = g} part q reads before meant rest =
      record {
        sound =
            λ s j r e.
            let k = follow_took q (p s) j r e in
            let h = reads.sound s k.0 k.1 k.2 in
            let i = (rest k.0 h.0).sound k.1 j r k.3 in (
              i.0.0,
              h.1
                  ∙ ap (λ (l : List ℕ). f k.0 ++ l) i.1
                  ∙ ap (λ (a : A). f a ++ (g j ++ r)) (sym i.0.1)
                  ∙ sym (append_assoc (f (part j)) (g j) r),
            );
        complete =
            λ j r i b.
            ap (λ (l : List ℕ). follow (p l) q) (append_assoc (f (part j)) (g j) r)
            ∙ follows q (reads.complete (part j) (g j ++ r) (meant j i) (before j r i b))
            ∙ (rest (part j) (meant j i)).complete j r (i, refl) b;
      }

module _ {A : Type 0} {In : A → Type 0} {f : A → List ℕ} {p : List ℕ → Got A} where
  -- a format that is read before any rest
  pub chain : {Rest : List ℕ → Type 0} {J : Type 0} {InJ : J → Type 0} {g : J → List ℕ} (part : J → A) (q : A → List ℕ → Got J)
      → Reads In f p
      → ((j : J) → InJ j → In (part j))
      → ((a : A) → In a → ReadsBefore Rest (λ j. InJ j × (part j ≡ a)) g (q a))
      → ReadsBefore Rest InJ (λ j. f (part j) ++ g j) (λ s. follow (p s) q)
  chain part q reads meant rest = chain_before part q reads (λ j r i b. tt) meant rest

  -- a whole text: the last part, and the end behind it
  module _ (reads : ReadsLast In f p) where
    pub whole_sound : (s : List ℕ) (a : A) (r : List ℕ) → follow (p s) at_end ≡ took a r → In a × (s ≡ f a)
    unfolding at_end
    whole_sound s a r e =
        let k = follow_took at_end (p s) a r e in
        let l = ends k.0 k.1 a r k.3 in
        let h = reads.sound s k.0 k.1 k.2 in
        subst (λ (b : A). In b × (s ≡ f b)) l.0 (h.0, h.1 ∙ ap (λ (t : List ℕ). f k.0 ++ t) l.1 ∙ append-nil (f k.0))
      where
        ends : (b : A) (l : List ℕ) (a : A) (r : List ℕ) → at_end b l ≡ took a r → (b ≡ a) × (l ≡ [])
        ends b [] a r e = (cc, refl)
        ends b (c ∷ l) a r e = never refl e

    pub whole_complete : (a : A) → In a → follow (p (f a)) at_end ≡ took a []
    unfolding at_end
    whole_complete a i =
        ap (λ (l : List ℕ). follow (p l) at_end) (sym (append-nil (f a))) ∙ follows at_end (reads.complete a [] i refl)

-- the end of a chain: all parts of the value are known
pub finished : {Rest : List ℕ → Type 0} {J : Type 0} {InJ : J → Type 0} (c : J)
    → InJ c
    → ((j : J) → InJ j → j ≡ c)
    → ReadsBefore Rest InJ (λ j. []) (λ s. took c s)
finished {InJ = InJ} c i one =
    record {
      sound =
          λ s j r e.
          let same : c ≡ j = cc in
          let rest : s ≡ r = cc in
          (subst InJ same i, rest);
      complete = λ j r h b. ap (λ k. took k r) (sym (one j h));
    }

-- one format or another, where the first reader does not take the second's values
pub either_reads : {A : Type 0} {Rest : List ℕ → Type 0} {In₁ In₂ : A → Type 0} {f : A → List ℕ} {p q : List ℕ → Got A}
    → ReadsBefore Rest In₁ f p
    → ReadsBefore Rest In₂ f q
    → ((a : A) (r : List ℕ) → In₂ a → Rest r → p (f a ++ r) ≡ nothing)
    → ReadsBefore Rest (λ a. In₁ a ⊎ In₂ a) f (λ s. or_try (p s) (q s))
unfolding or_try
either_reads {f = f} {p = p} {q = q} one two apart =
    record {
      sound =
          λ s a r e.
          ⊎_elim (λ g. let h = one.sound s a r g in (inl h.0, h.1)) (λ g. let h = two.sound s a r g in (inr h.0, h.1))
          (either_took (p s) (q s) a r e);
      complete =
          λ a r i b.
          ⊎_elim (λ h. ap (λ g. or_try g (q (f a ++ r))) (one.complete a r h b))
          (λ h. ap (λ g. or_try g (q (f a ++ r))) (apart a r h b) ∙ two.complete a r h b)
          i;
    }

-- ---- a line that may be left out

-- Without it the value c is meant, of which nothing is written. Where a line may say the same as no line, c is a value of its own, so that
-- a format still has one value.
module _ {A : Type 0} {In : A → Type 0} {f : A → List ℕ} {p : List ℕ → Got A} (c : A) (reads : Reads In f p) (unwritten : f c ≡ []) where
  abbrev pub InOption : A → Type 0
  InOption a = In a ⊎ (a ≡ c)

  -- it is read before what its own reader does not take
  pub option_reads : ReadsBefore (λ r. p r ≡ nothing) InOption f (optional c p)
  unfolding optional
  option_reads =
      either_reads (narrowed reads (λ r b. tt))
      (reshaped (finished c refl (λ a h. h)) (λ a h. h) (λ a h. h) (λ a h. sym (left_out a h)))
      (λ a r h b. ap (λ (l : List ℕ). p (l ++ r)) (left_out a h) ∙ b)
    where
      left_out : (a : A) → a ≡ c → f a ≡ []
      left_out a h = ap f h ∙ unwritten

  -- so in the middle with the part that must follow it
  pub option_then : {Rest : List ℕ → Type 0} {J : Type 0} {InJ : J → Type 0} {g : J → List ℕ} (part : J → A) (q : A → List ℕ → Got J)
      → ((j : J) (r : List ℕ) → InJ j → Rest r → p (g j ++ r) ≡ nothing)
      → ((j : J) → InJ j → InOption (part j))
      → ((a : A) → InOption a → ReadsBefore Rest (λ j. InJ j × (part j ≡ a)) g (q a))
      → ReadsBefore Rest InJ (λ j. f (part j) ++ g j) (λ s. follow (optional c p s) q)
  option_then part q apart meant rest = chain_before part q option_reads apart meant rest

  -- and the last one with the end of the text
  pub option_last : p [] ≡ nothing → ReadsLast InOption f (optional c p)
  option_last none = narrowed option_reads (λ r e. ap p e ∙ none)

-- ---- words, and a word before a format

found : (w s : List ℕ) (u : Unit) (r : List ℕ) → word_at w s ≡ took u r → s ≡ w ++ r
unfolding word_at
found [] s u r e = cc
found (c ∷ w) [] u r e = never refl e
found (c ∷ w) (b ∷ s) u r e =
    let k = passed _ _ u r e in
    let same : b ≡ c = eqb-true b c k.0 in
    let rest : s ≡ w ++ r = found w s u r k.1 in
    cc

finds : (w : List ℕ) (u : Unit) (r : List ℕ) → word_at w (w ++ r) ≡ took u r
unfolding word_at
finds [] u r = refl
finds (c ∷ w) u r = rw (eq-eqb c c refl) (finds w u r)

pub word_reads : (w : List ℕ) → Reads (λ (u : Unit). Unit) (λ u. w) (word_at w)
word_reads w = record { sound = λ s u r e. (tt, found w s u r e); complete = λ u r i b. finds w u r }

pub keyed_reads : {A : Type 0} {In : A → Type 0} {f : A → List ℕ} {p : List ℕ → Got A} (key : List ℕ)
    → Reads In f p
    → Reads In (λ a. key ++ f a) (λ s. follow (word_at key s) (λ u s. p s))
keyed_reads {p = p} key reads =
    chain (λ j. tt) (λ u s. p s) (word_reads key) (λ j i. tt) (λ u i. reshaped reads (λ a h. (h, refl)) (λ a h. h.0) (λ a h. refl))

-- a value that a word stands for
pub constant_reads : {A : Type 0} {f : A → List ℕ} (word : List ℕ) (c : A)
    → word ≡ f c
    → Reads (λ a. a ≡ c) f (λ s. follow (word_at word s) (λ u s. took c s))
constant_reads {f = f} word c e =
    reshaped (keyed_reads word (finished c refl (λ j h. h))) (λ a h. h) (λ a h. h) (λ a h. append-nil word ∙ e ∙ ap f (sym h))

-- ---- one of some values, each by its word

-- the words differ at a place that both have: the first does not stand where the second does, whatever follows
unfoldable pub differ : List ℕ → List ℕ → Bool
differ [] v = false
differ (b ∷ w) [] = false
differ (b ∷ w) (c ∷ v) = cond (eqb c b) (differ w v) true

differ_not : (w v r : List ℕ) → differ w v ≡ true → word_at w (v ++ r) ≡ nothing
unfolding word_at differ
differ_not [] v r h = absurd (false≢true h)
differ_not (b ∷ w) [] r h = absurd (false≢true h)
differ_not (b ∷ w) (c ∷ v) r h = by (eqb c b) h (differ_not w v r)
  where
    by : (t : Bool) → cond t (differ w v) true ≡ true → (differ w v ≡ true → word_at w (v ++ r) ≡ nothing) → cond t (word_at w (v ++ r)) nothing ≡ nothing
    by true h later = later h
    by false h later = refl

module _ {A : Type 0} (f : A → List ℕ) where
  -- each word differs from those behind it
  unfoldable pub all_differ : List A → Bool
  all_differ [] = true
  all_differ (c ∷ l) = every (λ d. differ (f c) (f d)) l && all_differ l

  pub one_reads : (l : List A) → all_differ l ≡ true → Reads (λ a. Memᴰ a l) f (one_of f l)
  unfolding one_of all_differ
  one_reads [] h = record { sound = λ s a r e. never refl e; complete = λ a r i b. absurd (Memᴰ.not-nil i) }
  one_reads (c ∷ l) h =
      let both = (and-eq-true_iff (every (λ d. differ (f c) (f d)) l) (all_differ l)).0 h in
      reshaped
      (either_reads (constant_reads (f c) c refl) (one_reads l both.1)
      (λ a r i b. follows_not _ (differ_not (f c) (f a) r (every_member (λ d. differ (f c) (f d)) a l both.0 i))))
      (λ a i. ⊎_elim Memᴰ.head Memᴰ.tail i)
      (λ a i. Memᴰ.cases_cons i)
      (λ a i. refl)
