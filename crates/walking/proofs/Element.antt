-- One element of a `&κ mut [T]`, as a walk reads or writes it: the borrow is opened and the element taken out, which puts six entries at the
-- head of the context in the place of the slice and its token; after the access it is put back and the borrow closed.
-- Assumes `Logic`.
use mathlib.Core.Path.{◌≡◌, refl, sym, ◌∙◌, ap, subst}
use Prim.Native.Nat.{ℕ, ◌<◌}
use mathlib.Core.List.{List, [], ◌∷◌}
use lib.ListN.{length, get_or, set, length-set}
use seplogic.Ra.Ura.{Ura}
use base.Fraction.{full_share}
use mir.Syntax.{named}
use mir.Val.{Val}
use base.Fml.{Lft, GName, Share, flft, fobs, fauth, fobor}
use types.Logic.{Logic}
use types.Kit.{Goal, Soaks, Item, ‵, Seq, Step, step, ◌$◌, move, drop, fsplit, fjoin}
use denote.RattleType.{RattleType}
use denote.Laws.{Is, shows, Tells, Makes}
use denote.Shadow.{shadow, pure_l, pure_i}
use denote.Memory.{cell_at, mem, shares}
use denote.Ref.{MutBor}
use denote.Slice.{slice_val, MutSlice, Room, heres, coded_holeys, mut_slice_at}
use denote.Lend.{Held}
use denote.Index.{place, others, elem_out, elem_back, elem_put, opens_slice, closes_slice}
use denote.Steps.{owned}

-- the reference to ys at (b, o), of the name γ
abbrev pub at : {X : Type 0} → ℕ → ℕ → GName → List X → MutBor (List X)
at b o γ ys = record { ref_ptr = (b, o); ghost_name = γ; now = ys }

-- what is known of it besides: its machine value, and that the elements have room
abbrev pub Spelt : (R : RattleType) → ℕ → ℕ → GName → List R.Denot → Val → Type 0
Spelt R b o γ ys s = shadow (mut_slice_at R (at b o γ ys) (s ∷ []))

-- of a list as long
pub spelt_as : (R : RattleType) (b o : ℕ) (γ δ : GName) (ys zs : List R.Denot) (s : Val) → length zs ≡ length ys → Spelt R b o γ ys s → Spelt R b o δ zs s
spelt_as R b o γ δ ys zs s e p = (p.0 ∙ ap (λ (m : ℕ). slice_val (b, o) m ∷ []) (sym e), subst (Room R) (sym e) p.1)

module _ {M : Type 1} {𝓤 : Ura M} {𝓛 : Logic 𝓤} {K : Type 0} {Γ : List (Item 𝓤)} {G : Goal 𝓤 𝓛.H} where
  -- element i is taken out
  pub opens_at : K → Soaks G → (R : RattleType) (vals : R.Denot → List Val) → Tells R (Is R) vals → {κ : Lft} {q : Share} {γ : GName} (b o : ℕ) (ys : List R.Denot) (s : Val) (i : ℕ) (d : R.Denot)
      → i < length ys
      → (Is R (get_or ys i d) (vals (get_or ys i d))
      → Seq K 𝓛 (‵ (cell_at full_share R.mir (vals (get_or ys i d)) b (place (mem R).size o i)) ∷ ‵ (R.own_val (get_or ys i d) (vals (get_or ys i d))) ∷ ‵ (others (shares R) full_share ys i b o)
      ∷ ‵ (fobor κ q (Held R (length ys) b o γ)) ∷ ‵ (fobs γ ((coded_holeys R).code (heres R ys))) ∷ ‵ (fauth γ ((coded_holeys R).code (heres R ys))) ∷ Γ) G)
      → Seq K 𝓛 (‵ ((MutSlice (named 0) κ R).own_val (at b o γ ys) (s ∷ [])) ∷ ‵ (flft κ q) ∷ Γ) G
  opens_at t z R vals tl {γ = γ} b o ys s i d l k =
      fsplit t $ pure_l t (mut_slice_at R (at b o γ ys) (s ∷ [])) (λ _. fsplit t $ opens_slice t z R ys b o $ elem_out t R (Is R) (shows 𝓛 R) vals tl full_share ys i d b o l k)

  -- it was read: the slice is as it was
  pub shuts_at : K → Soaks G → (R : RattleType) {κ : Lft} {q : Share} {γ : GName} (b o : ℕ) (ys : List R.Denot) (s : Val) (i : ℕ) (d : R.Denot) (vs : List Val) → Spelt R b o γ ys s → i < length ys
      → Step K 𝓛 (‵ ((MutSlice (named 0) κ R).own_val (at b o γ ys) (s ∷ [])) ∷ ‵ (flft κ q) ∷ Γ) G
      (‵ (cell_at full_share R.mir vs b (place (mem R).size o i)) ∷ ‵ (R.own_val (get_or ys i d) vs) ∷ ‵ (others (shares R) full_share ys i b o)
      ∷ ‵ (fobor κ q (Held R (length ys) b o γ)) ∷ ‵ (fobs γ ((coded_holeys R).code (heres R ys))) ∷ ‵ (fauth γ ((coded_holeys R).code (heres R ys))) ∷ Γ) G
  shuts_at t z R {γ = γ} b o ys s i d vs p l =
      step (λ k. elem_back t R full_share ys i d vs b o l $ closes_slice t z R ys ys refl b o $ fjoin t $ pure_i t (mut_slice_at R (at b o γ ys) (s ∷ [])) (tt, (tt, tt)) p $ fjoin t $ k)

  -- y was written there: the slice is at the list with y in it
  pub puts_at : K → Soaks G → (R : RattleType) → Makes 𝓛 R (Is R) → {κ : Lft} {q : Share} {γ : GName} (b o : ℕ) (ys : List R.Denot) (s : Val) (i : ℕ) (y z : R.Denot) (vs us : List Val)
      → Spelt R b o γ ys s → i < length ys → Is R y vs
      → Step K 𝓛 (‵ ((MutSlice (named 0) κ R).own_val (at b o γ (set ys i y)) (s ∷ [])) ∷ ‵ (flft κ q) ∷ Γ) G
      (‵ (cell_at full_share R.mir vs b (place (mem R).size o i)) ∷ ‵ (R.own_val z us) ∷ ‵ (others (shares R) full_share ys i b o)
      ∷ ‵ (fobor κ q (Held R (length ys) b o γ)) ∷ ‵ (fobs γ ((coded_holeys R).code (heres R ys))) ∷ ‵ (fauth γ ((coded_holeys R).code (heres R ys))) ∷ Γ) G
  puts_at t z R mk {γ = γ} b o ys s i y _ vs us p l g =
      step (λ k. move t (1 ∷ []) $ drop t $ owned t R (Is R) mk y vs g $ move t (1 ∷ 0 ∷ []) $ elem_put t R full_share ys i y vs b o l $ closes_slice t z R ys (set ys i y) (length-set ys i y) b o $
      fjoin t $ pure_i t (mut_slice_at R (at b o γ (set ys i y)) (s ∷ [])) (tt, (tt, tt)) (spelt_as R b o γ γ ys (set ys i y) s (length-set ys i y) p) $ fjoin t $ k)
