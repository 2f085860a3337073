-- A `&κ mut [T]` that is lent again for the lifetime of a call, and comes back at the list that the callee left; or that is lent as `&[T]`, and comes
-- back as it was: steps of a walk, each over the reference and its token at the head of the context.
-- Assumes `Logic`.
use mathlib.Core.Path.{◌≡◌, refl, sym}
use Prim.Native.Nat.{ℕ}
use mathlib.Core.List.{List, [], ◌∷◌}
use lib.ListN.{length}
use seplogic.Ra.Ura.{Ura}
use base.Fraction.{full_share}
use mir.Syntax.{named}
use mir.Val.{Val}
use base.Fml.{Lft, GName, Share, Incl-refl, Fml, fsep, flft, fdead, fobs, fauth, flent, fobor}
use types.Logic.{Logic}
use types.Kit.{Goal, Soaks, Item, ‵, ◌⊛◌, some, later, Seq, Step, step, ◌$◌, move, drop, use1, use2, use3, split, pick, rewrite, fsplit, fjoin, feq_i, await}
use types.SemTy.{cells, Arr}
use types.Share.{arr_parts}
use types.Tokens.{lent_back}
use denote.RattleType.{RattleType}
use denote.Shadow.{pure_l, pure_i}
use denote.Memory.{mem, shares}
use denote.Slice.{slice_val, MutSlice, ShrSlice, heres, finally, mut_slice_at, coded_holeys}
use denote.Ref.{as_bor}
use denote.Shares.{Shares}
use denote.Lend.{Held, lends_slice, slice_back, lends_shr_slice}
use denote.Index.{row, whole_out, whole_in, opens_slice, closes_slice}
use Rattle.walking.proofs.Element.{at, Spelt, spelt_as}

-- what the holder keeps while the callee has the slice, for the lifetime ν and under the name δ
abbrev pub Kept : (R : RattleType) → Lft → Share → GName → ℕ → ℕ → List R.Denot → ℕ → GName → Fml
Kept R κ q γ b o ys ν δ =
    fsep (flent (ν ∷ []) (Held R (length ys) b o δ)) (fsep (fobor κ q (Held R (length ys) b o γ)) (fsep (fobs γ ((coded_holeys R).code (heres R ys))) (fauth γ ((coded_holeys R).code (heres R ys)))))

-- and while the callee has it as `&[T]`
abbrev pub KeptShared : (R : RattleType) → Lft → Share → GName → ℕ → ℕ → List R.Denot → ℕ → Fml
KeptShared R κ q γ b o ys ν =
    fsep (flent (ν ∷ []) ((arr_parts (shares R) (length ys)).part full_share ys b o)) (fsep (fobor κ q (Held R (length ys) b o γ)) (fsep (fobs γ ((coded_holeys R).code (heres R ys))) (fauth γ ((coded_holeys R).code (heres R ys)))))

module _ {M : Type 1} {𝓤 : Ura M} {𝓛 : Logic 𝓤} {K : Type 0} {Γ : List (Item 𝓤)} {G : Goal 𝓤 𝓛.H} where
  pub lends : K → Soaks G → (R : RattleType) {κ : Lft} {q : Share} {γ : GName} (b o : ℕ) (ys : List R.Denot) (s : Val) (ν : ℕ)
      → ((δ : GName) → Seq K 𝓛 (‵ ((MutSlice (named 0) (ν ∷ []) R).own_val (at b o δ ys) (s ∷ [])) ∷ ‵ (Kept R κ q γ b o ys ν δ) ∷ Γ) G)
      → Seq K 𝓛 (‵ ((MutSlice (named 0) κ R).own_val (at b o γ ys) (s ∷ [])) ∷ ‵ (flft κ q) ∷ Γ) G
  lends t z R {γ = γ} b o ys s ν k =
      fsplit t $ pure_l t (mut_slice_at R (at b o γ ys) (s ∷ [])) (λ p. fsplit t $ opens_slice t z R ys b o $ use1 𝓛 (‵ (cells (mem R) ys b o)) (whole_in 𝓛 R ys b o) $
      use1 𝓛 (later (some (λ (δ : GName). ‵ ((MutSlice (named 0) (ν ∷ []) R).own_val (at b o δ ys) (slice_val (b, o) (length ys) ∷ [])) ⊛ ‵ (flent (ν ∷ []) (Held R (length ys) b o δ))))) (lends_slice 𝓛 R (named 0) (ν ∷ []) ys b o p.1) $
      await t z $ pick t (λ δ. split t $ rewrite t 0 (λ (v : List Val). ‵ ((MutSlice (named 0) (ν ∷ []) R).own_val (at b o δ ys) v)) (sym p.0) refl $
      -- [the slice lent; the lender's part; the open borrow; both halves of its name]
      move t (3 ∷ 4 ∷ []) $ fjoin t $ move t (3 ∷ 0 ∷ []) $ fjoin t $ move t (2 ∷ 0 ∷ []) $ fjoin t $ move t (1 ∷ 0 ∷ []) $ k δ))

  pub comes_back : K → Soaks G → (R : RattleType) {κ : Lft} {q : Share} {γ : GName} (b o : ℕ) (ys zs : List R.Denot) (s : Val) (ν : ℕ) {δ : GName} → length zs ≡ length ys → Spelt R b o γ ys s
      → Step K 𝓛 (‵ ((MutSlice (named 0) κ R).own_val (at b o γ zs) (s ∷ [])) ∷ ‵ (flft κ q) ∷ Γ) G (‵ (fdead (ν ∷ [])) ∷ ‵ (Kept R κ q γ b o ys ν δ) ∷ ‵ (finally R δ zs) ∷ Γ) G
  comes_back t z R {γ = γ} b o ys zs s ν {δ} e p =
      step (λ k. move t (1 ∷ []) $ fsplit t $ move t (2 ∷ 0 ∷ 3 ∷ []) $ use3 𝓛 (later (‵ ((Arr (mem R) (length ys)).own_at zs b o))) (slice_back 𝓛 R (ν ∷ []) δ zs (length ys) b o) $ await t z $
      fsplit t $ drop t $ use1 𝓛 (‵ (row R full_share zs b o)) (whole_out 𝓛 R zs b o) $ move t (1 ∷ []) $ fsplit t $ move t (1 ∷ []) $ fsplit t $ move t (3 ∷ 2 ∷ 0 ∷ 1 ∷ []) $
      closes_slice t z R ys zs e b o $ fjoin t $ pure_i t (mut_slice_at R (at b o γ zs) (s ∷ [])) (tt, (tt, tt)) (spelt_as R b o γ γ ys zs s e p) $ fjoin t $ k)

  -- lent as `&[T]`, by the law by which the element type is shared out, with the token of ν, which comes back
  pub shares_out : K → Soaks G → (R : RattleType) {κ : Lft} {q : Share} {γ : GName} (b o : ℕ) (ys : List R.Denot) (s : Val) (ν : ℕ) → Shares 𝓛 R (ν ∷ [])
      → Step K 𝓛 (‵ ((ShrSlice (named 0) (ν ∷ []) R).own_val (as_bor (at b o γ ys)) (s ∷ [])) ∷ ‵ (KeptShared R κ q γ b o ys ν) ∷ ‵ (flft (ν ∷ []) full_share) ∷ Γ) G
      (‵ ((MutSlice (named 0) κ R).own_val (at b o γ ys) (s ∷ [])) ∷ ‵ (flft κ q) ∷ ‵ (flft (ν ∷ []) full_share) ∷ Γ) G
  shares_out t z R {γ = γ} b o ys s ν sh =
      step (λ k. fsplit t $ pure_l t (mut_slice_at R (at b o γ ys) (s ∷ [])) (λ p. fsplit t $ opens_slice t z R ys b o $ feq_i t ℕ (length ys) (length ys) refl $ fjoin t $ move t (0 ∷ 4 ∷ []) $
      use2 𝓛 (later ((‵ ((ShrSlice (named 0) (ν ∷ []) R).own_val (as_bor (at b o γ ys)) (slice_val (b, o) (length ys) ∷ [])) ⊛ ‵ (flent (ν ∷ []) ((arr_parts (shares R) (length ys)).part full_share ys b o))) ⊛ ‵ (flft (ν ∷ []) full_share)))
      (lends_shr_slice 𝓛 R (named 0) (ν ∷ []) full_share ys b o p.1 (ν ∷ []) sh ((ν ∷ [], full_share) ∷ []) (Incl-refl (ν ∷ [])) (Incl-refl (ν ∷ []))) $
      await t z $ split t $ split t $ rewrite t 0 (λ (v : List Val). ‵ ((ShrSlice (named 0) (ν ∷ []) R).own_val (as_bor (at b o γ ys)) v)) (sym p.0) refl $
      -- [the slice lent; the lender's part; ν's token; the open borrow; both halves of its name]
      move t (4 ∷ 5 ∷ []) $ fjoin t $ move t (4 ∷ 0 ∷ []) $ fjoin t $ move t (2 ∷ 0 ∷ []) $ fjoin t $ move t (1 ∷ 0 ∷ []) $ k))

  pub has_again : K → Soaks G → (R : RattleType) {κ : Lft} {q : Share} {γ : GName} (b o : ℕ) (ys : List R.Denot) (s : Val) (ν : ℕ) → Spelt R b o γ ys s
      → Step K 𝓛 (‵ ((MutSlice (named 0) κ R).own_val (at b o γ ys) (s ∷ [])) ∷ ‵ (flft κ q) ∷ Γ) G (‵ (fdead (ν ∷ [])) ∷ ‵ (KeptShared R κ q γ b o ys ν) ∷ Γ) G
  has_again t z R {γ = γ} b o ys s ν p =
      step (λ k. move t (1 ∷ []) $ fsplit t $ move t (2 ∷ 0 ∷ []) $ lent_back t z $ fsplit t $ drop t $ move t (1 ∷ []) $ fsplit t $ move t (1 ∷ []) $ fsplit t $ move t (3 ∷ 2 ∷ 0 ∷ 1 ∷ []) $
      closes_slice t z R ys ys refl b o $ fjoin t $ pure_i t (mut_slice_at R (at b o γ ys) (s ∷ [])) (tt, (tt, tt)) p $ fjoin t $ k)
