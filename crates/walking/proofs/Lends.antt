-- What a function takes, as one list: a value, a `&[T]`, a `&mut [T]`, and a `&mut [T]` that is lent on as `&[T]`. For a call the slices of the list
-- are lent on and come back; at a function's own entry and exit they are had and go back. One record says all that a walk knows of a slice. Assumes `Logic`.
use mathlib.Core.Path.{◌≡◌, refl, ap, subst, sym, ◌∙◌}
use Prim.Native.Nat.{ℕ, ◌<◌, ◌^◌}
use mathlib.Core.List.{List, [], ◌∷◌}
use lib.ListN.{length}
use lib.Dec.{T}
use seplogic.Ra.Ura.{Ura}
use base.Fraction.{full_share}
use mir.Syntax.{Ty, named}
use mir.Val.{Val, WT, has_ty}
use base.Logic.{ent, sep, via}
use base.Fml.{Lft, GName, Share, Fml, ftrue, fsep, feq, flft}
use types.Logic.{Logic}
use types.Kit.{Goal, Soaks, Item, ‵, raw, ◌⊛◌, mean, ⋆, Seq, ◌$◌, ◌∵◌, !, qed, by, move, drop, use1, split, join, fsplit, fjoin, feq_l, frame, push, pop, done}
use types.Tokens.{lft_new, lft_end}
use denote.RattleType.{RattleType, RowLaws}
use denote.Laws.{Is, Tells, Makes}
use denote.Ref.{Bor, MutBor, at_last, as_bor}
use denote.Shares.{Shares}
use denote.Exit.{yes, unchanged}
use denote.Slice.{slice_val, MutSlice, ShrSlice, Room, finally, shr_slice_copy}
use denote.Steps.{owned, nothing}
use Rattle.walking.proofs.Element.{at, Spelt}
use Rattle.walking.proofs.Again.{Kept, KeptShared, lends, comes_back, shares_out, has_again}

-- a slice, as a walk has it: the lifetime and the share of its token, the reference, the count, and the room
pub record Slice (R : RattleType) : Type 2 where
  pub κ : Lft
  pub q : Share
  pub ref : MutBor (List R.Denot)
  pub count : ℕ
  pub long : count ≡ length ref.now
  pub room : Room R count

module _ {R : RattleType} where
  abbrev pub row_of : Slice R → RattleType
  row_of s = R

  -- its machine value
  abbrev pub word_of : Slice R → Val
  word_of s = slice_val s.ref.ref_ptr s.count

  -- of one whose elements stay as they are
  abbrev pub word_at : Slice R → Val
  word_at s = slice_val s.ref.ref_ptr (length s.ref.now)

  pub fits_at : (s : Slice R) → length s.ref.now < 2 ^ 64
  fits_at s = subst (λ (n : ℕ). n < 2 ^ 64) s.long s.room.0

  pub spelt_of : (s : Slice R) → Spelt R s.ref.ref_ptr.0 s.ref.ref_ptr.1 s.ref.ghost_name s.ref.now (word_of s)
  spelt_of s = (ap (λ (n : ℕ). slice_val s.ref.ref_ptr n ∷ []) s.long, subst (Room R) s.long s.room)

-- one that the function takes
abbrev pub taken : (R : RattleType) → Lft → Share → (x : MutBor (List R.Denot)) → Room R (length x.now) → Slice R
taken R κ q x room = record { κ = κ; q = q; ref = x; count = length x.now; long = refl; room = room }

-- the same with other elements
abbrev pub holding : {R : RattleType} (s : Slice R) (zs : List R.Denot) → length zs ≡ length s.ref.now → Slice R
holding s zs e = record { κ = s.κ; q = s.q; ref = at_last s.ref zs; count = s.count; long = s.long ∙ sym e; room = s.room }

-- a type that is passed by value, of one machine value, and is seen at a function's exit as it was passed
pub record Kind {M : Type 1} {𝓤 : Ura M} (𝓛 : Logic 𝓤) : Type 2 where
  pub row : RattleType
  pub mir : Ty
  pub one : row.mir ≡ mir ∷ []
  pub val : row.Denot → Val
  pub tells : Tells row (Is row) (λ x. val x ∷ [])
  pub makes : Makes 𝓛 row (Is row)
  pub typed : (x : row.Denot) → Is row x (val x ∷ []) → T (has_ty mir (val x)) × WT (val x)
  pub still : row.exit yes ≡ unchanged

-- how its machine values are spelt
abbrev pub by_value : {M : Type 1} {𝓤 : Ura M} {𝓛 : Logic 𝓤} (k : Kind 𝓛) → k.row.Denot → List Val
by_value k x = k.val x ∷ []

-- a value of it
pub record Valued {M : Type 1} {𝓤 : Ura M} {𝓛 : Logic 𝓤} (k : Kind 𝓛) : Type 0 where
  pub it : k.row.Denot
  pub is : Is k.row it (k.val it ∷ [])

pub data Arg {M : Type 1} {𝓤 : Ura M} (𝓛 : Logic 𝓤) : Type 2 where
  value : (k : Kind 𝓛) → Valued k → Arg 𝓛
  shown : {R : RattleType} → RowLaws R → Slice R → Arg 𝓛  -- `&[T]`: a copy of the reference is passed, by the laws of what a `&` holds
  lent : {R : RattleType} → Slice R → Arg 𝓛  -- `&mut [T]`, lent on
  seen : {R : RattleType} → ((l : Lft) → Shares 𝓛 R l) → Slice R → Arg 𝓛  -- `&mut [T]`, lent on as `&[T]`, by the law by which T is shared out

-- ---- what is in the context: the slices, each with its token
module _ {M : Type 1} {𝓤 : Ura M} where
  abbrev pub Mut : {R : RattleType} → Slice R → Item 𝓤
  Mut s = ‵ ((MutSlice (named 0) s.κ (row_of s)).own_val s.ref (word_of s ∷ [])) ⊛ ‵ (flft s.κ s.q)

  abbrev pub Shr : {R : RattleType} → Slice R → Item 𝓤
  Shr s = ‵ ((ShrSlice (named 0) s.κ (row_of s)).own_val (as_bor s.ref) (word_at s ∷ [])) ⊛ ‵ (flft s.κ s.q)

module _ {M : Type 1} {𝓤 : Ura M} {𝓛 : Logic 𝓤} where
  abbrev pub slices : List (Arg 𝓛) → List (Item 𝓤) → List (Item 𝓤)
  slices [] Γ = Γ
  slices (value k v ∷ ps) Γ = slices ps Γ
  slices (shown c s ∷ ps) Γ = Shr s ∷ slices ps Γ
  slices (lent s ∷ ps) Γ = Mut s ∷ slices ps Γ
  slices (seen c s ∷ ps) Γ = Mut s ∷ slices ps Γ

  abbrev pub Had : List (Arg 𝓛) → Item 𝓤
  Had [] = ‵ ftrue
  Had (value k v ∷ ps) = Had ps
  Had (shown c s ∷ ps) = Shr s ⊛ Had ps
  Had (lent s ∷ ps) = Mut s ⊛ Had ps
  Had (seen c s ∷ ps) = Mut s ⊛ Had ps

  -- ---- what a call makes: a lifetime and a name for each slice that is lent on
  abbrev pub Names : List (Arg 𝓛) → Type 0
  Names [] = Unit {0}
  Names (value k v ∷ ps) = Names ps
  Names (shown c s ∷ ps) = Names ps
  Names (lent s ∷ ps) = (ℕ × GName) × Names ps
  Names (seen c s ∷ ps) = ℕ × Names ps

  abbrev pub tokens : (ps : List (Arg 𝓛)) → Names ps → Fml
  tokens [] n = ftrue
  tokens (value k v ∷ ps) n = tokens ps n
  tokens (shown c s ∷ ps) n = fsep (flft s.κ s.q) (tokens ps n)
  tokens (lent s ∷ ps) n = fsep (flft (n.0.0 ∷ []) full_share) (tokens ps n.1)
  tokens (seen c s ∷ ps) n = fsep (flft (n.0 ∷ []) full_share) (tokens ps n.1)

  abbrev pub passes : (ps : List (Arg 𝓛)) → Names ps → Fml
  passes [] n = ftrue
  passes (value k v ∷ ps) n = fsep (k.row.own_val v.it (k.val v.it ∷ [])) (passes ps n)
  passes (shown c s ∷ ps) n = fsep ((ShrSlice (named 0) s.κ (row_of s)).own_val (as_bor s.ref) (word_at s ∷ [])) (passes ps n)
  passes (lent s ∷ ps) n = fsep ((MutSlice (named 0) (n.0.0 ∷ []) (row_of s)).own_val (at s.ref.ref_ptr.0 s.ref.ref_ptr.1 n.0.1 s.ref.now) (word_of s ∷ [])) (passes ps n.1)
  passes (seen c s ∷ ps) n = fsep ((ShrSlice (named 0) (n.0 ∷ []) (row_of s)).own_val (as_bor s.ref) (word_of s ∷ [])) (passes ps n.1)

  abbrev pub keeps : (ps : List (Arg 𝓛)) → Names ps → Fml
  keeps [] n = ftrue
  keeps (value k v ∷ ps) n = keeps ps n
  keeps (shown c s ∷ ps) n = fsep ((ShrSlice (named 0) s.κ (row_of s)).own_val (as_bor s.ref) (word_at s ∷ [])) (keeps ps n)
  keeps (lent s ∷ ps) n = fsep (Kept (row_of s) s.κ s.q s.ref.ghost_name s.ref.ref_ptr.0 s.ref.ref_ptr.1 s.ref.now n.0.0 n.0.1) (keeps ps n.1)
  keeps (seen c s ∷ ps) n = fsep (KeptShared (row_of s) s.κ s.q s.ref.ghost_name s.ref.ref_ptr.0 s.ref.ref_ptr.1 s.ref.now n.0) (keeps ps n.1)

  -- ---- what is left: a list for each slice that was lent on as `&mut`, as long as the one before
  abbrev pub Lefts : List (Arg 𝓛) → Type 0
  Lefts [] = Unit {0}
  Lefts (value k v ∷ ps) = Unit {0} × Lefts ps
  Lefts (shown c s ∷ ps) = Unit {0} × Lefts ps
  Lefts (lent s ∷ ps) = List (row_of s).Denot × Lefts ps
  Lefts (seen c s ∷ ps) = Unit {0} × Lefts ps

  abbrev pub finals : (ps : List (Arg 𝓛)) → Names ps → Lefts ps → Fml
  finals [] n zs = ftrue
  finals (value k v ∷ ps) n zs = fsep ftrue (finals ps n zs.1)
  finals (shown c s ∷ ps) n zs = fsep ftrue (finals ps n zs.1)
  finals (lent s ∷ ps) n zs = fsep (fsep (finally (row_of s) n.0.1 zs.0) (feq ℕ (length zs.0) (length s.ref.now))) (finals ps n.1 zs.1)
  finals (seen c s ∷ ps) n zs = fsep ftrue (finals ps n.1 zs.1)

  -- the lists alone, with nothing for what is not lent so
  abbrev pub Changes : List (Arg 𝓛) → Type 0
  Changes [] = Unit {0}
  Changes (value k v ∷ ps) = Changes ps
  Changes (shown c s ∷ ps) = Changes ps
  Changes (lent s ∷ ps) = List (row_of s).Denot × Changes ps
  Changes (seen c s ∷ ps) = Changes ps

  abbrev pub changed : (ps : List (Arg 𝓛)) → Lefts ps → Changes ps
  changed [] zs = tt
  changed (value k v ∷ ps) zs = changed ps zs.1
  changed (shown c s ∷ ps) zs = changed ps zs.1
  changed (lent s ∷ ps) zs = (zs.0, changed ps zs.1)
  changed (seen c s ∷ ps) zs = changed ps zs.1

  abbrev pub lefts : (ps : List (Arg 𝓛)) → Changes ps → Lefts ps
  lefts [] zs = tt
  lefts (value k v ∷ ps) zs = (tt, lefts ps zs)
  lefts (shown c s ∷ ps) zs = (tt, lefts ps zs)
  lefts (lent s ∷ ps) zs = (zs.0, lefts ps zs.1)
  lefts (seen c s ∷ ps) zs = (tt, lefts ps zs)

  abbrev pub Long : (ps : List (Arg 𝓛)) → Changes ps → Type 0
  Long [] zs = Unit {0}
  Long (value k v ∷ ps) zs = Long ps zs
  Long (shown c s ∷ ps) zs = Long ps zs
  Long (lent s ∷ ps) zs = (length zs.0 ≡ length s.ref.now) × Long ps zs.1
  Long (seen c s ∷ ps) zs = Long ps zs

  -- the same as a contract has it
  abbrev pub Fitting : (ps : List (Arg 𝓛)) → Changes ps → Type 0
  Fitting [] zs = Unit {0}
  Fitting (value k v ∷ ps) zs = Unit {0} × Fitting ps zs
  Fitting (shown c s ∷ ps) zs = Unit {0} × Fitting ps zs
  Fitting (lent s ∷ ps) zs = (length zs.0 ≡ length s.ref.now) × Fitting ps zs.1
  Fitting (seen c s ∷ ps) zs = Unit {0} × Fitting ps zs

  abbrev pub fitting : (ps : List (Arg 𝓛)) (zs : Changes ps) → Long ps zs → Fitting ps zs
  fitting [] zs l = tt
  fitting (value k v ∷ ps) zs l = (tt, fitting ps zs l)
  fitting (shown c s ∷ ps) zs l = (tt, fitting ps zs l)
  fitting (lent s ∷ ps) zs l = (l.0, fitting ps zs.1 l.1)
  fitting (seen c s ∷ ps) zs l = (tt, fitting ps zs l)

  abbrev pub after : (ps : List (Arg 𝓛)) (zs : Changes ps) → Long ps zs → List (Arg 𝓛)
  after [] zs l = []
  after (value k v ∷ ps) zs l = value k v ∷ after ps zs l
  after (shown c s ∷ ps) zs l = shown c s ∷ after ps zs l
  after (lent s ∷ ps) zs l = lent (holding s zs.0 l.0) ∷ after ps zs.1 l.1
  after (seen c s ∷ ps) zs l = seen c s ∷ after ps zs l

  -- ---- how a contract sees the list: lifetimes, shares, values, machine values
  abbrev pub Lifetimes : List (Arg 𝓛) → Type 0
  Lifetimes [] = Unit {0}
  Lifetimes (value k v ∷ ps) = Lifetimes ps
  Lifetimes (shown c s ∷ ps) = Lft × Lifetimes ps
  Lifetimes (lent s ∷ ps) = Lft × Lifetimes ps
  Lifetimes (seen c s ∷ ps) = Lft × Lifetimes ps

  abbrev pub lifetimes : (ps : List (Arg 𝓛)) → Names ps → Lifetimes ps
  lifetimes [] n = tt
  lifetimes (value k v ∷ ps) n = lifetimes ps n
  lifetimes (shown c s ∷ ps) n = (s.κ, lifetimes ps n)
  lifetimes (lent s ∷ ps) n = (n.0.0 ∷ [], lifetimes ps n.1)
  lifetimes (seen c s ∷ ps) n = (n.0 ∷ [], lifetimes ps n.1)

  abbrev pub Parts : List (Arg 𝓛) → Type 0
  Parts [] = Unit {0}
  Parts (value k v ∷ ps) = Parts ps
  Parts (shown c s ∷ ps) = Share × Parts ps
  Parts (lent s ∷ ps) = Share × Parts ps
  Parts (seen c s ∷ ps) = Share × Parts ps

  abbrev pub parts : (ps : List (Arg 𝓛)) → Parts ps
  parts [] = tt
  parts (value k v ∷ ps) = parts ps
  parts (shown c s ∷ ps) = (s.q, parts ps)
  parts (lent s ∷ ps) = (full_share, parts ps)
  parts (seen c s ∷ ps) = (full_share, parts ps)

  abbrev pub Values : List (Arg 𝓛) → Type 0
  Values [] = Unit {0}
  Values (value k v ∷ ps) = k.row.Denot × Values ps
  Values (shown c s ∷ ps) = Bor (List (row_of s).Denot) × Values ps
  Values (lent s ∷ ps) = MutBor (List (row_of s).Denot) × Values ps
  Values (seen c s ∷ ps) = Bor (List (row_of s).Denot) × Values ps

  abbrev pub values : (ps : List (Arg 𝓛)) → Names ps → Values ps
  values [] n = tt
  values (value k v ∷ ps) n = (v.it, values ps n)
  values (shown c s ∷ ps) n = (as_bor s.ref, values ps n)
  values (lent s ∷ ps) n = (at s.ref.ref_ptr.0 s.ref.ref_ptr.1 n.0.1 s.ref.now, values ps n.1)
  values (seen c s ∷ ps) n = (as_bor s.ref, values ps n.1)

  abbrev pub Words : List (Arg 𝓛) → Type 0
  Words [] = Unit {0}
  Words (a ∷ ps) = List Val × Words ps

  abbrev pub word : Arg 𝓛 → Val
  word (value k v) = k.val v.it
  word (shown c s) = word_at s
  word (lent s) = word_of s
  word (seen c s) = word_of s

  abbrev pub each_word : (ps : List (Arg 𝓛)) → Words ps
  each_word [] = tt
  each_word (a ∷ ps) = (word a ∷ [], each_word ps)

  abbrev pub words : List (Arg 𝓛) → List Val
  words [] = []
  words (a ∷ ps) = word a ∷ words ps

  -- what the contract of a function binds, where it is called with the list
  abbrev pub bound_to : (ps : List (Arg 𝓛)) → Names ps → (Lifetimes ps × Parts ps × Unit {0} × Values ps × Words ps) × Unit {0}
  bound_to ps n = ((lifetimes ps n, parts ps, tt, values ps n, each_word ps), tt)

module _ {M : Type 1} {𝓤 : Ura M} (𝓛 : Logic 𝓤) where
  -- the slices at the head of the context, as one entry; and back
  one_by : (i : Item 𝓤) (P : Item 𝓤) (Γ Δ : List (Item 𝓤)) → ent 𝓤 (⋆ 𝓛 Γ) (sep 𝓤 (mean 𝓛 P) (⋆ 𝓛 Δ)) → ent 𝓤 (⋆ 𝓛 (i ∷ Γ)) (sep 𝓤 (mean 𝓛 (i ⊛ P)) (⋆ 𝓛 Δ))
  one_by i P Γ Δ h = via 𝓤 (sep 𝓤 (mean 𝓛 i) (⋆ 𝓛 Γ)) (pop 𝓛 i Γ) (qed 𝓛 (i ∷ raw (⋆ 𝓛 Γ) ∷ []) ∵ move ! (1 ∷ []) $ use1 𝓛 (P ⊛ raw (⋆ 𝓛 Δ)) h $ split ! $ move ! (2 ∷ 0 ∷ []) $ join ! $ done !)

  one_out : (i : Item 𝓤) (P : Item 𝓤) (Γ Δ : List (Item 𝓤)) → ent 𝓤 (sep 𝓤 (mean 𝓛 P) (⋆ 𝓛 Δ)) (⋆ 𝓛 Γ) → ent 𝓤 (sep 𝓤 (mean 𝓛 (i ⊛ P)) (⋆ 𝓛 Δ)) (⋆ 𝓛 (i ∷ Γ))
  one_out i P Γ Δ h = via 𝓤 (sep 𝓤 (mean 𝓛 i) (⋆ 𝓛 Γ)) (qed 𝓛 ((i ⊛ P) ∷ raw (⋆ 𝓛 Δ) ∷ []) ∵ split ! $ frame ! $ by ! h) (push 𝓛 i Γ)

  pub bundled : (ps : List (Arg 𝓛)) (Γ : List (Item 𝓤)) → ent 𝓤 (⋆ 𝓛 (slices ps Γ)) (sep 𝓤 (mean 𝓛 (Had ps)) (⋆ 𝓛 Γ))
  bundled [] Γ = qed 𝓛 (raw (⋆ 𝓛 Γ) ∷ []) ∵ nothing ! $ done !
  bundled (value k v ∷ ps) Γ = bundled ps Γ
  bundled (shown c s ∷ ps) Γ = one_by (Shr s) (Had ps) (slices ps Γ) Γ (bundled ps Γ)
  bundled (lent s ∷ ps) Γ = one_by (Mut s) (Had ps) (slices ps Γ) Γ (bundled ps Γ)
  bundled (seen c s ∷ ps) Γ = one_by (Mut s) (Had ps) (slices ps Γ) Γ (bundled ps Γ)

  pub unbundled : (ps : List (Arg 𝓛)) (Γ : List (Item 𝓤)) → ent 𝓤 (sep 𝓤 (mean 𝓛 (Had ps)) (⋆ 𝓛 Γ)) (⋆ 𝓛 (slices ps Γ))
  unbundled [] Γ = qed 𝓛 (‵ ftrue ∷ raw (⋆ 𝓛 Γ) ∷ []) ∵ drop ! $ done !
  unbundled (value k v ∷ ps) Γ = unbundled ps Γ
  unbundled (shown c s ∷ ps) Γ = one_out (Shr s) (Had ps) (slices ps Γ) Γ (unbundled ps Γ)
  unbundled (lent s ∷ ps) Γ = one_out (Mut s) (Had ps) (slices ps Γ) Γ (unbundled ps Γ)
  unbundled (seen c s ∷ ps) Γ = one_out (Mut s) (Had ps) (slices ps Γ) Γ (unbundled ps Γ)

module _ {M : Type 1} {𝓤 : Ura M} {𝓛 : Logic 𝓤} {K : Type 0} where
  open 𝓛 use {H}

  pub lends_had : {Γ : List (Item 𝓤)} {G : Goal 𝓤 H} → K → Soaks G → (ps : List (Arg 𝓛)) → ((n : Names ps) → Seq K 𝓛 (‵ (tokens ps n) ∷ ‵ (passes ps n) ∷ ‵ (keeps ps n) ∷ Γ) G) → Seq K 𝓛 (Had ps ∷ Γ) G
  lends_had t z [] k = drop t $ nothing t $ nothing t $ nothing t $ k tt
  lends_had {Γ = Γ} {G = G} t z (value c v ∷ ps) k =
      lends_had {Γ = Γ} {G = G} t z ps (λ n. owned t c.row (Is c.row) c.makes v.it (c.val v.it ∷ []) v.is $ move t (0 ∷ 2 ∷ []) $ fjoin t $ move t (1 ∷ 0 ∷ []) $ k n)
  lends_had {Γ = Γ} {G = G} t z (shown c s ∷ ps) k =
      split t $ split t $
      use1 𝓛 (‵ ((ShrSlice (named 0) s.κ (row_of s)).own_val (as_bor s.ref) (word_at s ∷ [])) ⊛ ‵ ((ShrSlice (named 0) s.κ (row_of s)).own_val (as_bor s.ref) (word_at s ∷ []))) ((shr_slice_copy 𝓛 (named 0) s.κ (row_of s) c).twice (as_bor s.ref) (word_at s ∷ [])) $
      split t $ move t (3 ∷ []) $
      lends_had {Γ = ‵ ((ShrSlice (named 0) s.κ (row_of s)).own_val (as_bor s.ref) (word_at s ∷ [])) ∷ ‵ ((ShrSlice (named 0) s.κ (row_of s)).own_val (as_bor s.ref) (word_at s ∷ [])) ∷ ‵ (flft s.κ s.q) ∷ Γ} {G = G} t z ps (λ n.
      move t (5 ∷ 0 ∷ []) $ fjoin t $ move t (3 ∷ 1 ∷ []) $ fjoin t $ move t (3 ∷ 2 ∷ []) $ fjoin t $ move t (2 ∷ 1 ∷ 0 ∷ []) $ k n)
  lends_had {Γ = Γ} {G = G} t z (lent s ∷ ps) k =
      split t $ split t $ lft_new t z (λ ν. move t (1 ∷ 2 ∷ []) $ lends t z (row_of s) s.ref.ref_ptr.0 s.ref.ref_ptr.1 s.ref.now (word_of s) ν (λ δ. move t (3 ∷ []) $
      lends_had {Γ = ‵ ((MutSlice (named 0) (ν ∷ []) (row_of s)).own_val (at s.ref.ref_ptr.0 s.ref.ref_ptr.1 δ s.ref.now) (word_of s ∷ [])) ∷ ‵ (Kept (row_of s) s.κ s.q s.ref.ghost_name s.ref.ref_ptr.0 s.ref.ref_ptr.1 s.ref.now ν δ) ∷ ‵ (flft (ν ∷ []) full_share) ∷ Γ} {G = G} t z ps (λ n.
      move t (5 ∷ 0 ∷ []) $ fjoin t $ move t (3 ∷ 1 ∷ []) $ fjoin t $ move t (3 ∷ 2 ∷ []) $ fjoin t $ move t (2 ∷ 1 ∷ 0 ∷ []) $ k ((ν, δ), n))))
  lends_had {Γ = Γ} {G = G} t z (seen c s ∷ ps) k =
      split t $ split t $ lft_new t z (λ ν. move t (1 ∷ 2 ∷ 0 ∷ []) $ shares_out t z (row_of s) s.ref.ref_ptr.0 s.ref.ref_ptr.1 s.ref.now (word_of s) ν (c (ν ∷ [])) $ move t (3 ∷ []) $
      lends_had {Γ = ‵ ((ShrSlice (named 0) (ν ∷ []) (row_of s)).own_val (as_bor s.ref) (word_of s ∷ [])) ∷ ‵ (KeptShared (row_of s) s.κ s.q s.ref.ghost_name s.ref.ref_ptr.0 s.ref.ref_ptr.1 s.ref.now ν) ∷ ‵ (flft (ν ∷ []) full_share) ∷ Γ} {G = G} t z ps (λ n.
      move t (5 ∷ 0 ∷ []) $ fjoin t $ move t (3 ∷ 1 ∷ []) $ fjoin t $ move t (3 ∷ 2 ∷ []) $ fjoin t $ move t (2 ∷ 1 ∷ 0 ∷ []) $ k (ν, n)))

  -- and they come back
  pub comes_had : {Γ : List (Item 𝓤)} {G : Goal 𝓤 H} → K → Soaks G → (ps : List (Arg 𝓛)) (n : Names ps) (zs : Lefts ps) → ((l : Long ps (changed ps zs)) → Seq K 𝓛 (Had (after ps (changed ps zs) l) ∷ Γ) G)
      → Seq K 𝓛 (‵ (tokens ps n) ∷ ‵ (keeps ps n) ∷ ‵ (finals ps n zs) ∷ Γ) G
  comes_had t z [] n zs k = drop t $ drop t $ k tt
  comes_had {Γ = Γ} {G = G} t z (value c v ∷ ps) n zs k = move t (2 ∷ []) $ fsplit t $ drop t $ move t (1 ∷ 2 ∷ 0 ∷ []) $ comes_had {Γ = Γ} {G = G} t z ps n zs.1 (λ l. k l)
  comes_had {Γ = Γ} {G = G} t z (shown c s ∷ ps) n zs k =
      fsplit t $ move t (2 ∷ []) $ fsplit t $ move t (4 ∷ []) $ fsplit t $ drop t $ move t (1 ∷ 3 ∷ []) $ join t $ move t (3 ∷ 2 ∷ 1 ∷ []) $
      comes_had {Γ = Shr s ∷ Γ} {G = G} t z ps n zs.1 (λ l. move t (1 ∷ 0 ∷ []) $ join t $ k l)
  comes_had {Γ = Γ} {G = G} t z (lent s ∷ ps) n zs k =
      fsplit t $ move t (2 ∷ []) $ fsplit t $ move t (4 ∷ []) $ fsplit t $ fsplit t $ move t (1 ∷ []) $ feq_l t (λ e. move t (4 ∷ []) $ lft_end t z $ move t (0 ∷ 3 ∷ 1 ∷ []) $
      comes_back t z (row_of s) s.ref.ref_ptr.0 s.ref.ref_ptr.1 s.ref.now zs.0 (word_of s) n.0.0 e (spelt_of s) $ join t $ move t (3 ∷ 2 ∷ 1 ∷ []) $
      comes_had {Γ = Mut (holding s zs.0 e) ∷ Γ} {G = G} t z ps n.1 zs.1 (λ l. move t (1 ∷ 0 ∷ []) $ join t $ k (e, l)))
  comes_had {Γ = Γ} {G = G} t z (seen c s ∷ ps) n zs k =
      fsplit t $ move t (2 ∷ []) $ fsplit t $ move t (4 ∷ []) $ fsplit t $ drop t $ move t (3 ∷ []) $ lft_end t z $ move t (0 ∷ 2 ∷ []) $
      has_again t z (row_of s) s.ref.ref_ptr.0 s.ref.ref_ptr.1 s.ref.now (word_of s) n.0 (spelt_of s) $ join t $ move t (3 ∷ 2 ∷ 1 ∷ []) $
      comes_had {Γ = Mut s ∷ Γ} {G = G} t z ps n.1 zs.1 (λ l. move t (1 ∷ 0 ∷ []) $ join t $ k l)
