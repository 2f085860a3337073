-- Lines in a row, one for each value of a list: a reader of one line reads them all. The last laws are for a loop that has read some of them.
use Prim.Native.Nat.{ℕ, zero, suc, ◌+◌, ◌-◌, ◌≤◌, ◌<◌}
use native.Mathlib.Omega.{arith}
use mathlib.Core.Path.{◌≡◌, refl, sym, ap, ◌∙◌, subst}
use mathlib.Core.List.{List, [], ◌∷◌, ◌++◌, append_assoc, append-nil}
use lib.ListN.{length}
use Rattle.lists.specs.Joined.{each}
use Rattle.text.specs.Words.{lines}
use Rattle.text.specs.TextJob.{All}
use Rattle.text.specs.Reader.{Got, took, nothing, follow, lines_at}
use Rattle.text.proofs.Formats.{Reads, follow_took, follows, follows_not}

module _ {A : Type 0} {In : A → Type 0} {f : A → List ℕ} {p : List ℕ → Got A} (reads : Reads In f p) where
  lines_sound : (n : ℕ) (s : List ℕ) (l : List A) (r : List ℕ)
      → lines_at n p s ≡ took l r
      → ((length l ≡ n) × All In l) × (s ≡ lines f l ++ r)
  unfolding lines_at each All
  lines_sound zero s l r e =
      let same : [] ≡ l = cc in
      let rest : s ≡ r = cc in
      subst (λ (k : List A). ((length k ≡ 0) × All In k) × (s ≡ lines f k ++ r)) same ((refl, tt), rest)
  lines_sound (suc n) s l r e =
      let k = follow_took _ (p s) l r e in
      let m = follow_took _ (lines_at n p k.1) l r k.3 in
      let h = reads.sound s k.0 k.1 k.2 in
      let i = lines_sound n k.1 m.0 m.1 m.2 in
      let t : took (k.0 ∷ m.0) m.1 ≡ took l r = m.3 in
      let same : k.0 ∷ m.0 ≡ l = cc in
      let rest : m.1 ≡ r = cc in
      subst (λ (q : List A). ((length q ≡ suc n) × All In q) × (s ≡ lines f q ++ r)) same (
        (ap suc i.0.0, (h.0, i.0.1)),
        h.1
            ∙ ap (λ (q : List ℕ). f k.0 ++ q) i.1
            ∙ ap (λ (q : List ℕ). f k.0 ++ (lines f m.0 ++ q)) rest
            ∙ sym (append_assoc (f k.0) (lines f m.0) r),
      )

  lines_complete : (n : ℕ) (l : List A) (r : List ℕ) → (length l ≡ n) × All In l → lines_at n p (lines f l ++ r) ≡ took l r
  unfolding lines_at each All
  lines_complete zero [] r i = refl
  lines_complete zero (a ∷ l) r i = absurd (omega (arith, i.0))
  lines_complete (suc n) [] r i = absurd (omega (arith, i.0))
  lines_complete (suc n) (a ∷ l) r i =
      ap (λ (q : List ℕ). lines_at (suc n) p q) (append_assoc (f a) (lines f l) r)
      ∙ follows _ (reads.complete a (lines f l ++ r) i.1.0 tt)
      ∙ follows _ (lines_complete n l r (omega (arith, i.0), i.1.1))

  pub lines_reads : (n : ℕ) → Reads (λ l. (length l ≡ n) × All In l) (lines f) (lines_at n p)
  lines_reads n = record { sound = lines_sound n; complete = λ l r i b. lines_complete n l r i }

-- ---- a loop over n lines: `done` are the i that it has read

module _ {A : Type 0} (p : List ℕ → Got A) where
  unfoldable pub afterwards : List A → ℕ → List ℕ → Got (List A)
  afterwards done n s = follow (lines_at n p s) (λ l s. took (done ++ l) s)

  joins : (done : List A) (a : A) (g : Got (List A))
      → follow (follow g (λ l s. took (a ∷ l) s)) (λ l s. took (done ++ l) s) ≡ follow g (λ l s. took ((done ++ a ∷ []) ++ l) s)
  unfolding follow
  joins done a (took l s) = ap (λ (k : List A). took k s) (sym (append_assoc done (a ∷ []) l))
  joins done a nothing = refl

  pub lines_begin : (n : ℕ) (s : List ℕ) → lines_at n p s ≡ afterwards [] (n - 0) s
  unfolding afterwards follow
  lines_begin n s = let z : n - 0 ≡ n = omega arith in rw z (by (lines_at n p s))
    where
      by : (g : Got (List A)) → g ≡ follow g (λ l s. took l s)
      by (took l s) = refl
      by nothing = refl

  module _ (n i : ℕ) (done : List A) (s : List ℕ) where
    pub lines_more : {a : A} {t : List ℕ} {now : List A}
        → i < n
        → took a t ≡ p s
        → now ≡ done ++ a ∷ []
        → afterwards done (n - i) s ≡ afterwards now (n - (i + 1)) t
    unfolding afterwards lines_at
    lines_more {a = a} {t = t} h e g =
        let q : n - i ≡ suc (n - (i + 1)) = omega arith in
        ap (λ (k : ℕ). afterwards done k s) q
        ∙ ap (λ (g : Got (List A)). follow g (λ l s. took (done ++ l) s)) (follows _ (sym e))
        ∙ joins done a (lines_at (n - (i + 1)) p t)
        ∙ ap (λ (l : List A). afterwards l (n - (i + 1)) t) (sym g)

    pub lines_not : i < n → nothing ≡ p s → afterwards done (n - i) s ≡ nothing
    unfolding afterwards lines_at
    lines_not h e =
        let q : n - i ≡ suc (n - (i + 1)) = omega arith in
        ap (λ (k : ℕ). afterwards done k s) q ∙ follows_not _ (follows_not _ (sym e))

    pub lines_end : {all : List A} → n ≤ i → all ≡ done → afterwards done (n - i) s ≡ took all s
    unfolding afterwards lines_at follow
    lines_end h g =
        let q : n - i ≡ 0 = omega arith in
        ap (λ (k : ℕ). afterwards done k s) q ∙ ap (λ (k : List A). took k s) (append-nil done ∙ sym g)
