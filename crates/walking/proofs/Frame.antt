-- The locals of a walked function as one entry of the context: what each holds is a list, by the number that the code gives the local. A step reads that
-- number off the statement, so a walk counts no position, and a parameter more changes none. A local whose memory is lent out is away. Assumes `Logic`.
use mathlib.Core.Path.{◌≡◌, refl, sym, ap, subst, ◌∙◌}
use Prim.Native.Nat.{ℕ, zero, suc, ◌+◌, ◌^◌}
use mathlib.Core.List.{List, [], ◌∷◌, map}
use mathlib.Core.Bool.{Bool, true, false}
use mathlib.Core.Option.{Option, none, some as found}
use seplogic.Ra.Ura.{Ura}
use base.Fraction.{full_share}
use lib.Dec.{T, ltb, ltb→lt, eqb_refl}
use lib.ListN.{get_or}
use mir.Syntax.{Ty, Width, Local, Fn, Sym, Tys, ty_int, ty_bool, ty_float, ty_ptr, ty_ref, ty_array, ty_unit, ty_struct, ty_enum, ty_named, ty_param, ty_const, ty_array_p, variant, place, field, Opd as Operand, copy, int, int_neg, int_big, float, opd_true, opd_false, opd_unit, ptr_const, size_of, align_of, num_of, fn_addr, vtable, Rv as RValue, rv_opd, deref, addr_of, aggregate, Body, seq, assign, return}
use mir.Val.{Val, vunit, vbool, vptr, vint, vfloat, vstruct, vcode, Vals, WT, has_ty, bits, bytes}
use mir.Fields.{get_v, set_v}
use base.Logic.{SProp, ent, sep, wand, id⊢, via, wand_i, all_i, guard_i, guard_e, mono∗}
use base.Fml.{Share, ftrue, fat, froom, fdies}
use prog.Memory.{field_at, field_of}
use prog.Wp.{Heap, Env, Calls, Loops, Wp, WpFn, ty_of, alloc, pass, params, release, no_local, next, returns as returnsᴼ, at_return}
use types.Logic.{Logic}
use types.Kit.{Item, ‵, raw, given, mean, ⋆, Post, at_ret, post, Goal, prop, runs, lands, frees, aim, Seq, Step, step, ◌$◌, ◌∵◌, !, qed, by, move, drop, use1, use2, split, join, keep, check, assume, each, frame, done, pop, push, ◌⊛◌}
use types.Run.{Walks, Writes, Opd, Opds, Rv, stop, from, fld, hop, addr, load, lit, unit_lit, true_lit, false_lit, of_opd, assigns, assigns_last, land, returns_within, well_typed, and_then, no_more}
use types.Part.{Part, Rest, taken, given_back, look_in, sub, agg}
use denote.Slice.{slice_ty, slice_val}
use denote.Steps.{nothing}

-- what a local holds
pub data Cell : Type 0 where
  empty : Cell
  holds : Val → Cell
  away : Cell

-- that a context's entry is of these locals, in this state: nothing more is said by it
pub record Are (E : List (Ty × ℕ)) (σ : List Cell) : Type 0 where

-- ---- the state: a list that ends early says that the rest is empty
abbrev pub head : List Cell → Cell
head [] = empty
head (c ∷ σ) = c

abbrev pub tail : List Cell → List Cell
tail [] = []
tail (c ∷ σ) = σ

abbrev pub set : List Cell → ℕ → Cell → List Cell
set σ zero c = c ∷ tail σ
set σ (suc i) c = head σ ∷ set (tail σ) i c

-- the first n alone
abbrev pub first_of : ℕ → List Cell → List Cell
first_of zero σ = []
first_of (suc n) σ = head σ ∷ first_of n (tail σ)

abbrev Home : Cell → Type 0
Home empty = Unit {0}
Home (holds v) = Unit {0}
Home away = ⊥

-- nothing is away
abbrev pub Whole : List Cell → Type 0
Whole [] = Unit {0}
Whole (empty ∷ σ) = Whole σ
Whole (holds v ∷ σ) = Whole σ
Whole (away ∷ σ) = ⊥

whole_head : (σ : List Cell) → Whole σ → Home (head σ)
whole_head [] w = tt
whole_head (empty ∷ σ) w = tt
whole_head (holds v ∷ σ) w = tt
whole_head (away ∷ σ) w = absurd w

whole_tail : (σ : List Cell) → Whole σ → Whole (tail σ)
whole_tail [] w = tt
whole_tail (empty ∷ σ) w = w
whole_tail (holds v ∷ σ) w = w
whole_tail (away ∷ σ) w = absurd w

abbrev Empty : Cell → Type 0
Empty empty = Unit {0}
Empty (holds v) = ⊥
Empty away = ⊥

abbrev Nil : List Cell → Type 0
Nil [] = Unit {0}
Nil (c ∷ σ) = ⊥

abbrev value_in : Val → Cell → Val
value_in u empty = u
value_in u (holds v) = v
value_in u away = u

-- a number as an operand, where its width holds it; and a field of what a local holds
abbrev number : Bool → Width → ℕ → Cell
number true w n = holds (vint w n)
number false w n = empty

abbrev field_in : Val → ℕ → Cell
field_in vunit k = empty
field_in (vbool y) k = empty
field_in (vint w n) k = empty
field_in (vfloat f x) k = empty
field_in (vptr b o) k = empty
field_in (vstruct vs) k = holds (get_v vs k)
field_in (vcode x) k = empty

abbrev field_cell : Option (Ty × ℕ) → Cell → ℕ → Cell
field_cell none c k = empty
field_cell (found f) empty k = empty
field_cell (found f) (holds v) k = field_in v k
field_cell (found f) away k = empty

abbrev field_ty : Option (Ty × ℕ) → Ty
field_ty none = ty_unit
field_ty (found f) = f.0

typed_number : (y : Bool) (w : Width) (n : ℕ) (v : Val) → ltb n (2 ^ bits w) ≡ y → number y w n ≡ holds v → T (has_ty (ty_int w) v) × WT v
typed_number true w n v z e = subst (λ (u : Val). T (has_ty (ty_int w) u) × WT u) (ap (value_in v) e) (eqb_refl (bytes w), record { fits = ltb→lt n (2 ^ bits w) (subst T (sym z) tt) })
typed_number false w n v z e = absurd (subst Empty e tt)

-- a block for each local of a function
abbrev pub Blocks : List Local → Type 0
Blocks [] = Unit {0}
Blocks (l ∷ ls) = ℕ × Blocks ls

module _ {M : Type 1} (𝓤 : Ura M) (H : Heap 𝓤) where
  abbrev pub env_of : (ls : List Local) → Blocks ls → Env 𝓤 H
  env_of [] bs = []
  env_of (l ∷ ls) bs = (ty_of 𝓤 H l, bs.0) ∷ env_of ls bs.1

  abbrev pub get : Env 𝓤 H → List Cell → ℕ → Cell
  get [] σ i = empty
  get (e ∷ E) σ zero = head σ
  get (e ∷ E) σ (suc i) = get E (tail σ) i

  abbrev pub In : Env 𝓤 H → ℕ → Type 0
  In [] i = ⊥
  In (e ∷ E) zero = Unit {0}
  In (e ∷ E) (suc i) = In E i

  -- local i can be written; and it is of the type τ besides
  abbrev pub Free : Env 𝓤 H → List Cell → ℕ → Type 0
  Free [] σ i = ⊥
  Free (e ∷ E) σ zero = Home (head σ)
  Free (e ∷ E) σ (suc i) = Free E (tail σ) i

  abbrev pub Takes : Env 𝓤 H → List Cell → ℕ → Ty → Type 0
  Takes E σ i τ = Free E σ i × ((get_or E i (no_local 𝓤 H)).0 ≡ τ)

  -- what an operand is, where it is a local, a field of one or a number; and its type
  abbrev pub opd_cell : Env 𝓤 H → List Cell → Operand → Cell
  opd_cell E σ (copy (place i [])) = get E σ i
  opd_cell E σ (copy (place i (field k ∷ []))) = field_cell (field_of (get_or E i (no_local 𝓤 H)).0 k) (get E σ i) k
  opd_cell E σ (copy (place i (field k ∷ s ∷ st))) = empty
  opd_cell E σ (copy (place i (deref τ ∷ st))) = empty
  opd_cell E σ (copy (place i (variant k ∷ st))) = empty
  opd_cell E σ (int w n) = number (ltb n (2 ^ bits w)) w n
  opd_cell E σ (int_neg w n) = empty
  opd_cell E σ (int_big w n) = empty
  opd_cell E σ (float f n) = empty
  opd_cell E σ opd_true = holds (vbool true)
  opd_cell E σ opd_false = holds (vbool false)
  opd_cell E σ opd_unit = holds vunit
  opd_cell E σ (ptr_const n) = empty
  opd_cell E σ (size_of τ) = empty
  opd_cell E σ (align_of τ) = empty
  opd_cell E σ (num_of w τ) = empty
  opd_cell E σ (fn_addr f s) = empty
  opd_cell E σ (vtable τ ss) = empty

  abbrev pub opd_ty : Env 𝓤 H → Operand → Ty
  opd_ty E (copy (place i [])) = (get_or E i (no_local 𝓤 H)).0
  opd_ty E (copy (place i (field k ∷ []))) = field_ty (field_of (get_or E i (no_local 𝓤 H)).0 k)
  opd_ty E (copy (place i (field k ∷ s ∷ st))) = ty_unit
  opd_ty E (copy (place i (deref τ ∷ st))) = ty_unit
  opd_ty E (copy (place i (variant k ∷ st))) = ty_unit
  opd_ty E (int w n) = ty_int w
  opd_ty E (int_neg w n) = ty_unit
  opd_ty E (int_big w n) = ty_unit
  opd_ty E (float f n) = ty_unit
  opd_ty E opd_true = ty_bool
  opd_ty E opd_false = ty_bool
  opd_ty E opd_unit = ty_unit
  opd_ty E (ptr_const n) = ty_unit
  opd_ty E (size_of τ) = ty_unit
  opd_ty E (align_of τ) = ty_unit
  opd_ty E (num_of w τ) = ty_unit
  opd_ty E (fn_addr f s) = ty_unit
  opd_ty E (vtable τ ss) = ty_unit

  -- a field that is such an operand: of which struct it is, and what that holds
  record Field (E : Env 𝓤 H) (σ : List Cell) (i k : ℕ) (v : Val) : Type 0 where
    name : Sym
    types : Tys
    type : Ty
    after : ℕ
    values : Vals
    of : (get_or E i (no_local 𝓤 H)).0 ≡ ty_struct name types
    at : field_at zero types k ≡ found (type, after)
    has : get E σ i ≡ holds (vstruct values)
    is : get_v values k ≡ v

  in_struct : (E : Env 𝓤 H) (σ : List Cell) (i k : ℕ) (v : Val) (ν : Sym) (τs : Tys) (f : Option (Ty × ℕ)) (c : Cell) → (get_or E i (no_local 𝓤 H)).0 ≡ ty_struct ν τs → field_at zero τs k ≡ f → get E σ i ≡ c
      → field_cell f c k ≡ holds v → Field E σ i k v
  in_struct E σ i k v ν τs none c o a h e = absurd (subst Empty e tt)
  in_struct E σ i k v ν τs (found f) empty o a h e = absurd (subst Empty e tt)
  in_struct E σ i k v ν τs (found f) away o a h e = absurd (subst Empty e tt)
  in_struct E σ i k v ν τs (found f) (holds vunit) o a h e = absurd (subst Empty e tt)
  in_struct E σ i k v ν τs (found f) (holds (vbool y)) o a h e = absurd (subst Empty e tt)
  in_struct E σ i k v ν τs (found f) (holds (vint w n)) o a h e = absurd (subst Empty e tt)
  in_struct E σ i k v ν τs (found f) (holds (vfloat g x)) o a h e = absurd (subst Empty e tt)
  in_struct E σ i k v ν τs (found f) (holds (vptr b x)) o a h e = absurd (subst Empty e tt)
  in_struct E σ i k v ν τs (found f) (holds (vcode x)) o a h e = absurd (subst Empty e tt)
  in_struct E σ i k v ν τs (found f) (holds (vstruct vs)) o a h e = record { name = ν; types = τs; type = f.0; after = f.1; values = vs; of = o; at = a; has = h; is = ap (value_in v) e }

  in_field : (E : Env 𝓤 H) (σ : List Cell) (i k : ℕ) (v : Val) (τ : Ty) → (get_or E i (no_local 𝓤 H)).0 ≡ τ → field_cell (field_of τ k) (get E σ i) k ≡ holds v → Field E σ i k v
  in_field E σ i k v (ty_int w) o e = absurd (subst Empty e tt)
  in_field E σ i k v ty_bool o e = absurd (subst Empty e tt)
  in_field E σ i k v (ty_float f) o e = absurd (subst Empty e tt)
  in_field E σ i k v ty_ptr o e = absurd (subst Empty e tt)
  in_field E σ i k v (ty_ref κ μ τ) o e = absurd (subst Empty e tt)
  in_field E σ i k v (ty_array τ n) o e = absurd (subst Empty e tt)
  in_field E σ i k v ty_unit o e = absurd (subst Empty e tt)
  in_field E σ i k v (ty_struct ν τs) o e = in_struct E σ i k v ν τs (field_at zero τs k) (get E σ i) o refl refl e
  in_field E σ i k v (ty_enum ν τss) o e = absurd (subst Empty e tt)
  in_field E σ i k v (ty_named ν τs) o e = absurd (subst Empty e tt)
  in_field E σ i k v (ty_param j) o e = absurd (subst Empty e tt)
  in_field E σ i k v (ty_const j) o e = absurd (subst Empty e tt)
  in_field E σ i k v (ty_array_p τ j) o e = absurd (subst Empty e tt)

  abbrev cell : Ty × ℕ → Cell → Item 𝓤
  cell e empty = ‵ (froom e.0 e.1 zero)
  cell e (holds v) = ‵ (fat full_share e.0 e.1 zero v)
  cell e away = ‵ ftrue

  abbrev memory : Env 𝓤 H → List Cell → Item 𝓤
  memory [] σ = ‵ ftrue
  memory (e ∷ E) σ = (cell e (head σ) ⊛ ‵ (fdies e.0 e.1)) ⊛ memory E (tail σ)

  -- all but one
  abbrev other : Env 𝓤 H → List Cell → ℕ → Item 𝓤
  other [] σ i = ‵ ftrue
  other (e ∷ E) σ zero = ‵ (fdies e.0 e.1) ⊛ memory E (tail σ)
  other (e ∷ E) σ (suc i) = (cell e (head σ) ⊛ ‵ (fdies e.0 e.1)) ⊛ other E (tail σ) i

  unfoldable pub Memory : Env 𝓤 H → List Cell → Item 𝓤
  Memory E σ = memory E σ

  -- the locals, as an entry of a context. `Are` has the two lists where a law can read them off: under a constructor and a type former
  abbrev pub Locals : Env 𝓤 H → List Cell → Item 𝓤
  Locals E σ = given (Are E σ) (Memory E σ)

  pub in_it : (E : Env 𝓤 H) (σ : List Cell) (i : ℕ) → Free E σ i → In E i
  in_it [] σ i f = absurd f
  in_it (x ∷ E) σ zero f = tt
  in_it (x ∷ E) σ (suc i) f = in_it E (tail σ) i f

  at_home : (E : Env 𝓤 H) (σ : List Cell) (i : ℕ) → Free E σ i → Home (get E σ i)
  at_home [] σ i f = absurd f
  at_home (x ∷ E) σ zero f = f
  at_home (x ∷ E) σ (suc i) f = at_home E (tail σ) i f

  inside : (E : Env 𝓤 H) (σ : List Cell) (i : ℕ) (v : Val) → get E σ i ≡ holds v → In E i
  inside [] σ i v e = absurd (subst Empty e tt)
  inside (x ∷ E) σ zero v e = tt
  inside (x ∷ E) σ (suc i) v e = inside E (tail σ) i v e

  -- a local is set to what it holds already
  stays : (E : Env 𝓤 H) (σ : List Cell) (i : ℕ) (v : Val) → get E σ i ≡ holds v → set σ i (holds v) ≡ σ
  stays [] σ i v e = absurd (subst Empty e tt)
  stays (x ∷ E) [] zero v e = absurd (subst Empty e tt)
  stays (x ∷ E) (c ∷ σ) zero v e = ap (λ (d : Cell). d ∷ σ) (sym e)
  stays (x ∷ E) [] (suc i) v e = absurd (subst Empty (none_later E i ∙ e) tt)
    where
      none_later : (E : Env 𝓤 H) (i : ℕ) → empty ≡ get E [] i
      none_later [] i = refl
      none_later (x ∷ E) zero = refl
      none_later (x ∷ E) (suc i) = none_later E i
  stays (x ∷ E) (c ∷ σ) (suc i) v e = ap (λ (ρ : List Cell). c ∷ ρ) (stays E σ i v e)

  -- and then it holds it
  pub got : (E : Env 𝓤 H) (σ : List Cell) (i : ℕ) (c : Cell) → In E i → get E (set σ i c) i ≡ c
  got [] σ i c n = absurd n
  got (x ∷ E) σ zero c n = refl
  got (x ∷ E) σ (suc i) c n = got E (tail σ) i c n

-- ---- what is owned of the locals
module _ {M : Type 1} {𝓤 : Ura M} (𝓛 : Logic 𝓤) where
  open 𝓛 use {H}

  takes : (E : Env 𝓤 H) (σ : List Cell) (i : ℕ) → In 𝓤 H E i
      → ent 𝓤 (mean 𝓛 (memory 𝓤 H E σ)) (sep 𝓤 (mean 𝓛 (cell 𝓤 H (get_or E i (no_local 𝓤 H)) (get 𝓤 H E σ i))) (mean 𝓛 (other 𝓤 H E σ i)))
  takes [] σ i n = absurd n
  takes (e ∷ E) σ zero n = qed 𝓛 (memory 𝓤 H (e ∷ E) σ ∷ []) ∵ split ! $ split ! $ done !
  takes (e ∷ E) σ (suc i) n =
      qed 𝓛 (memory 𝓤 H (e ∷ E) σ ∷ []) ∵ split ! $ move ! (1 ∷ []) $ use1 𝓛 (cell 𝓤 H (get_or E i (no_local 𝓤 H)) (get 𝓤 H E (tail σ) i) ⊛ other 𝓤 H E (tail σ) i) (takes E (tail σ) i n) $ split ! $ move ! (0 ∷ 2 ∷ 1 ∷ []) $ done !

  gives : (E : Env 𝓤 H) (σ : List Cell) (i : ℕ) (c : Cell) → In 𝓤 H E i
      → ent 𝓤 (sep 𝓤 (mean 𝓛 (cell 𝓤 H (get_or E i (no_local 𝓤 H)) c)) (mean 𝓛 (other 𝓤 H E σ i))) (mean 𝓛 (memory 𝓤 H E (set σ i c)))
  gives [] σ i c n = absurd n
  gives (e ∷ E) σ zero c n = qed 𝓛 (cell 𝓤 H e c ∷ other 𝓤 H (e ∷ E) σ zero ∷ []) ∵ move ! (1 ∷ []) $ split ! $ move ! (2 ∷ 0 ∷ []) $ join ! $ done !
  gives (e ∷ E) σ (suc i) c n =
      qed 𝓛 (cell 𝓤 H (get_or E i (no_local 𝓤 H)) c ∷ other 𝓤 H (e ∷ E) σ (suc i) ∷ []) ∵ move ! (1 ∷ []) $ split ! $ move ! (2 ∷ 1 ∷ 0 ∷ []) $ use2 𝓛 (memory 𝓤 H E (set (tail σ) i c)) (gives E (tail σ) i c n) $ move ! (1 ∷ 0 ∷ []) $ done !

  hides : (E : Env 𝓤 H) (σ : List Cell) → ent 𝓤 (mean 𝓛 (memory 𝓤 H E σ)) (mean 𝓛 (Locals 𝓤 H E σ))
  unfolding Memory
  hides E σ = guard_i 𝓤 (Are E σ) (mean 𝓛 (memory 𝓤 H E σ)) (record {})

  shows_all : (E : Env 𝓤 H) (σ : List Cell) → ent 𝓤 (mean 𝓛 (Locals 𝓤 H E σ)) (mean 𝓛 (memory 𝓤 H E σ))
  unfolding Memory
  shows_all E σ = guard_e 𝓤 (Are E σ) (mean 𝓛 (memory 𝓤 H E σ)) (λ any. id⊢ 𝓤 _)

  as_room : (e : Ty × ℕ) (c : Cell) → Home c → ent 𝓤 (mean 𝓛 (cell 𝓤 H e c)) (H.room e.0 e.1 zero)
  as_room e empty h = id⊢ 𝓤 _
  as_room e (holds v) h = 𝓛.laws.at_room e.0 e.1 zero v
  as_room e away h = absurd h

  -- every local is freed
  released : (E : Env 𝓤 H) (σ : List Cell) (P : SProp 𝓤) → Whole σ → ent 𝓤 (sep 𝓤 (mean 𝓛 (memory 𝓤 H E σ)) P) (release 𝓤 H E P)
  released [] σ P w = qed 𝓛 (‵ ftrue ∷ raw P ∷ []) ∵ move ! (1 ∷ []) $ keep ! (0 ∷ []) $ done !
  released (e ∷ E) σ P w =
      qed 𝓛 (memory 𝓤 H (e ∷ E) σ ∷ raw P ∷ []) ∵ split ! $ split ! $ use1 𝓛 (‵ (froom e.0 e.1 zero)) (as_room e (head σ) (whole_head σ w)) $ move ! (2 ∷ 3 ∷ []) $
      use2 𝓛 (raw (release 𝓤 H E P)) (released E (tail σ) P (whole_tail σ w)) $ move ! (1 ∷ 2 ∷ []) $ join ! $ done !

  -- what the locals from n on hold is forgotten
  forgotten : (n : ℕ) (E : Env 𝓤 H) (σ : List Cell) → Whole σ → ent 𝓤 (mean 𝓛 (memory 𝓤 H E σ)) (mean 𝓛 (memory 𝓤 H E (first_of n σ)))
  forgotten n [] σ w = id⊢ 𝓤 _
  forgotten zero (e ∷ E) σ w =
      qed 𝓛 (memory 𝓤 H (e ∷ E) σ ∷ []) ∵ split ! $ split ! $ use1 𝓛 (‵ (froom e.0 e.1 zero)) (as_room e (head σ) (whole_head σ w)) $ join ! $ frame ! $ by ! (forgotten zero E (tail σ) (whole_tail σ w))
  forgotten (suc n) (e ∷ E) σ w = qed 𝓛 (memory 𝓤 H (e ∷ E) σ ∷ []) ∵ split ! $ frame ! $ by ! (forgotten n E (tail σ) (whole_tail σ w))

  -- the blocks of the locals come one after another
  allocated : (ls : List Local) (Kt : Env 𝓤 H → SProp 𝓤) (P : SProp 𝓤) → ((bs : Blocks ls) → ent 𝓤 (sep 𝓤 (mean 𝓛 (memory 𝓤 H (env_of 𝓤 H ls bs) [])) P) (Kt (env_of 𝓤 H ls bs))) → ent 𝓤 P (alloc 𝓤 H ls Kt)
  allocated [] Kt P k = qed 𝓛 (raw P ∷ []) ∵ nothing ! $ by ! (k tt)
  allocated (l ∷ ls) Kt P k =
      all_i 𝓤 (λ (b : ℕ). wand 𝓤 (sep 𝓤 (H.room (ty_of 𝓤 H l) b zero) (H.dies (ty_of 𝓤 H l) b)) (alloc 𝓤 H ls (λ E. Kt ((ty_of 𝓤 H l, b) ∷ E))))
      (λ b. wand_i 𝓤 P (sep 𝓤 (H.room (ty_of 𝓤 H l) b zero) (H.dies (ty_of 𝓤 H l) b)) (alloc 𝓤 H ls (λ E. Kt ((ty_of 𝓤 H l, b) ∷ E)))
      (allocated ls (λ E. Kt ((ty_of 𝓤 H l, b) ∷ E)) (sep 𝓤 P (sep 𝓤 (H.room (ty_of 𝓤 H l) b zero) (H.dies (ty_of 𝓤 H l) b)))
      (λ bs. qed 𝓛 (memory 𝓤 H (env_of 𝓤 H ls bs) [] ∷ (raw P ⊛ (‵ (froom (ty_of 𝓤 H l) b zero) ⊛ ‵ (fdies (ty_of 𝓤 H l) b))) ∷ []) ∵ move ! (1 ∷ []) $ split ! $ move ! (1 ∷ 2 ∷ []) $ join ! $ by ! (k (b, bs)))))

  -- a value for each parameter, of its type
  abbrev pub Passed : List Local → List Val → Type 0
  Passed ls [] = Unit {0}
  Passed [] (v ∷ vs) = ⊥
  Passed (l ∷ ls) (v ∷ vs) = (T (has_ty (ty_of 𝓤 H l) v) × WT v) × Passed ls vs

  passed : (ls : List Local) (bs : Blocks ls) (vs : List Val) → Passed ls vs → (P Q : SProp 𝓤) → ent 𝓤 (sep 𝓤 (mean 𝓛 (memory 𝓤 H (env_of 𝓤 H ls bs) (map holds vs))) P) Q
      → ent 𝓤 (sep 𝓤 (mean 𝓛 (memory 𝓤 H (env_of 𝓤 H ls bs) [])) P) (pass 𝓤 H (env_of 𝓤 H ls bs) vs Q)
  passed ls bs [] ok P Q k = k
  passed [] bs (v ∷ vs) ok P Q k = absurd ok
  passed (l ∷ ls) bs (v ∷ vs) ok P Q k =
      qed 𝓛 (memory 𝓤 H (env_of 𝓤 H (l ∷ ls) bs) [] ∷ raw P ∷ []) ∵ check ! ok.0 $ split ! $ split ! $ frame ! $ assume ! (‵ (fat full_share (ty_of 𝓤 H l) bs.0 zero v)) $
      move ! (0 ∷ 1 ∷ []) $ join ! $ move ! (2 ∷ 0 ∷ []) $ join ! $ move ! (1 ∷ 0 ∷ []) $
      by ! (passed ls bs.1 vs ok.1 (sep 𝓤 P (sep 𝓤 (H.at full_share (ty_of 𝓤 H l) bs.0 zero v) (H.dies (ty_of 𝓤 H l) bs.0))) Q
      (qed 𝓛 (memory 𝓤 H (env_of 𝓤 H ls bs.1) (map holds vs) ∷ (raw P ⊛ (‵ (fat full_share (ty_of 𝓤 H l) bs.0 zero v) ⊛ ‵ (fdies (ty_of 𝓤 H l) bs.0))) ∷ []) ∵
      move ! (1 ∷ []) $ split ! $ move ! (1 ∷ 2 ∷ []) $ join ! $ by ! k))

module _ {M : Type 1} {𝓤 : Ura M} {𝓛 : Logic 𝓤} {K : Type 0} {Γ : List (Item 𝓤)} where
  -- ---- a function begins: its locals are one entry, and hold the arguments
  open 𝓛 use {H}

  pub enters : K → (C : Calls 𝓤 H) (Λ : Loops 𝓤 H) (l : Local) (ls : List Local) (f : Fn) (vs : List Val) (Kf : Val → SProp 𝓤) → f.locals ≡ l ∷ ls → Passed 𝓛 ls vs
      → ((bs : Blocks (l ∷ ls)) → Seq K 𝓛 (Locals 𝓤 H (env_of 𝓤 H (l ∷ ls) bs) (empty ∷ map holds vs) ∷ Γ) (runs C Λ (env_of 𝓤 H (l ∷ ls) bs) f.body (at_ret (env_of 𝓤 H (l ∷ ls) bs) Kf)))
      → Seq K 𝓛 Γ (prop (WpFn 𝓤 H C Λ f vs Kf))
  unfolding WpFn
  enters t C Λ l ls f vs Kf e ok k = record {
    prf = subst (λ (ms : List Local). ent 𝓤 (⋆ 𝓛 Γ) (alloc 𝓤 H ms (λ E. params 𝓤 H E vs (Wp 𝓤 H C Λ E f.body (at_return 𝓤 H E Kf))))) (sym e)
        (allocated 𝓛 (l ∷ ls) (λ E. params 𝓤 H E vs (Wp 𝓤 H C Λ E f.body (at_return 𝓤 H E Kf))) (⋆ 𝓛 Γ)
        (λ bs. qed 𝓛 (memory 𝓤 H (env_of 𝓤 H (l ∷ ls) bs) [] ∷ raw (⋆ 𝓛 Γ) ∷ []) ∵ split ! $ move ! (2 ∷ 0 ∷ []) $ join ! $ move ! (1 ∷ 0 ∷ []) $
        by ! (passed 𝓛 ls bs.1 vs ok (sep 𝓤 (⋆ 𝓛 Γ) (sep 𝓤 (H.room (ty_of 𝓤 H l) bs.0 zero) (H.dies (ty_of 𝓤 H l) bs.0))) (Wp 𝓤 H C Λ (env_of 𝓤 H (l ∷ ls) bs) f.body (at_return 𝓤 H (env_of 𝓤 H (l ∷ ls) bs) Kf))
        (qed 𝓛 (memory 𝓤 H (env_of 𝓤 H ls bs.1) (map holds vs) ∷ (raw (⋆ 𝓛 Γ) ⊛ (‵ (froom (ty_of 𝓤 H l) bs.0 zero) ⊛ ‵ (fdies (ty_of 𝓤 H l) bs.0))) ∷ []) ∵
        move ! (1 ∷ []) $ split ! $ move ! (1 ∷ 2 ∷ []) $ join ! $
        use1 𝓛 (Locals 𝓤 H (env_of 𝓤 H (l ∷ ls) bs) (empty ∷ map holds vs)) (hides 𝓛 (env_of 𝓤 H (l ∷ ls) bs) (empty ∷ map holds vs)) $
        by ! (via 𝓤 (⋆ 𝓛 (Locals 𝓤 H (env_of 𝓤 H (l ∷ ls) bs) (empty ∷ map holds vs) ∷ Γ)) (push 𝓛 (Locals 𝓤 H (env_of 𝓤 H (l ∷ ls) bs) (empty ∷ map holds vs)) Γ) (k bs).prf)))));
  }

module _ {M : Type 1} {𝓤 : Ura M} {𝓛 : Logic 𝓤} {K : Type 0} {E : Env 𝓤 𝓛.H} {σ : List Cell} where
  -- a local that holds a value, within the entry
  open 𝓛 use {H}

  pub slot : K → (i : ℕ) {v : Val} → get 𝓤 H E σ i ≡ holds v → Part K 𝓛 (Locals 𝓤 H E σ) full_share (get_or E i (no_local 𝓤 H)).0 (get_or E i (no_local 𝓤 H)).1 zero v (λ u. Locals 𝓤 H E (set σ i (holds u)))
  slot t i {v} e = record {
    out = qed 𝓛 (Locals 𝓤 H E σ ∷ []) ∵ use1 𝓛 (memory 𝓤 H E σ) (shows_all 𝓛 E σ) $
        use1 𝓛 (‵ (fat full_share (get_or E i (no_local 𝓤 H)).0 (get_or E i (no_local 𝓤 H)).1 zero v) ⊛ other 𝓤 H E σ i)
        (subst (λ (c : Cell). ent 𝓤 (mean 𝓛 (memory 𝓤 H E σ)) (sep 𝓤 (mean 𝓛 (cell 𝓤 H (get_or E i (no_local 𝓤 H)) c)) (mean 𝓛 (other 𝓤 H E σ i)))) e (takes 𝓛 E σ i (inside 𝓤 H E σ i v e))) $ split ! $ frame ! $
        each ! (λ (u : Val). wand 𝓤 (H.at full_share (get_or E i (no_local 𝓤 H)).0 (get_or E i (no_local 𝓤 H)).1 zero u) (mean 𝓛 (Locals 𝓤 H E (set σ i (holds u)))))
        (λ u. assume {P = mean 𝓛 (Locals 𝓤 H E (set σ i (holds u)))} ! (‵ (fat full_share (get_or E i (no_local 𝓤 H)).0 (get_or E i (no_local 𝓤 H)).1 zero u)) $
        use2 𝓛 (memory 𝓤 H E (set σ i (holds u))) (gives 𝓛 E σ i (holds u) (inside 𝓤 H E σ i v e)) $ by ! (hides 𝓛 E (set σ i (holds u))));
    same = ap (Locals 𝓤 H E) (stays 𝓤 H E σ i v e);
  }

  -- a field of one
  in_part : K → (i k : ℕ) {v : Val} (f : Field 𝓤 H E σ i k v) → Part K 𝓛 (Locals 𝓤 H E σ) full_share f.type (get_or E i (no_local 𝓤 H)).1 (zero + f.after) (get_v f.values k) (λ u. Locals 𝓤 H E (set σ i (holds (vstruct (set_v f.values k u)))))
  in_part t i k f = sub t k f.at (subst (λ (ρ : Ty). Part K 𝓛 (Locals 𝓤 H E σ) full_share ρ (get_or E i (no_local 𝓤 H)).1 zero (vstruct f.values) (λ u. Locals 𝓤 H E (set σ i (holds u)))) f.of (slot t i f.has))

  module _ {Γ : List (Item 𝓤)} where
    -- ---- operands: what is read, and that it is of its type
    reads_field : K → (i k : ℕ) {v : Val} → Field 𝓤 H E σ i k v → Opd K 𝓛 (Locals 𝓤 H E σ ∷ Γ) E (copy (place i (field k ∷ []))) v
    reads_field t i k {v} f = subst (λ (u : Val). Opd K 𝓛 (Locals 𝓤 H E σ ∷ Γ) E (copy (place i (field k ∷ []))) u) f.is
        (load t {sp = (f.type, (get_or E i (no_local 𝓤 H)).1, zero + f.after)}
        (from t (subst (λ (ρ : Ty). Walks K 𝓛 (Locals 𝓤 H E σ ∷ Γ) E (ρ, (get_or E i (no_local 𝓤 H)).1, zero) (field k ∷ []) (f.type, (get_or E i (no_local 𝓤 H)).1, zero + f.after)) (sym f.of) goes)) (look_in t 0 (in_part t i k f)))
      where
        goes : Walks K 𝓛 (Locals 𝓤 H E σ ∷ Γ) E (ty_struct f.name f.types, (get_or E i (no_local 𝓤 H)).1, zero) (field k ∷ []) (f.type, (get_or E i (no_local 𝓤 H)).1, zero + f.after)
        goes = fld t f.at (stop t)

    reads_number : K → (y : Bool) (w : Width) (n : ℕ) (v : Val) → ltb n (2 ^ bits w) ≡ y → number y w n ≡ holds v → Opd K 𝓛 (Locals 𝓤 H E σ ∷ Γ) E (int w n) v
    reads_number t true w n v z e = subst (λ (u : Val). Opd K 𝓛 (Locals 𝓤 H E σ ∷ Γ) E (int w n) u) (ap (value_in v) e) (lit t (subst T (sym z) tt))
    reads_number t false w n v z e = absurd (subst Empty e tt)

    reads_one : K → (x : Operand) (v : Val) → opd_cell 𝓤 H E σ x ≡ holds v → Opd K 𝓛 (Locals 𝓤 H E σ ∷ Γ) E x v
    reads_one t (copy (place i [])) v e = load t (from t (stop t)) (look_in t 0 (slot t i e))
    reads_one t (copy (place i (field k ∷ []))) v e = reads_field t i k (in_field 𝓤 H E σ i k v (get_or E i (no_local 𝓤 H)).0 refl e)
    reads_one t (copy (place i (field k ∷ s ∷ st))) v e = absurd (subst Empty e tt)
    reads_one t (copy (place i (deref τ ∷ st))) v e = absurd (subst Empty e tt)
    reads_one t (copy (place i (variant k ∷ st))) v e = absurd (subst Empty e tt)
    reads_one t (int w n) v e = reads_number t (ltb n (2 ^ bits w)) w n v refl e
    reads_one t (int_neg w n) v e = absurd (subst Empty e tt)
    reads_one t (int_big w n) v e = absurd (subst Empty e tt)
    reads_one t (float f n) v e = absurd (subst Empty e tt)
    reads_one t opd_true v e = subst (λ (u : Val). Opd K 𝓛 (Locals 𝓤 H E σ ∷ Γ) E opd_true u) (ap (value_in v) e) (true_lit t)
    reads_one t opd_false v e = subst (λ (u : Val). Opd K 𝓛 (Locals 𝓤 H E σ ∷ Γ) E opd_false u) (ap (value_in v) e) (false_lit t)
    reads_one t opd_unit v e = subst (λ (u : Val). Opd K 𝓛 (Locals 𝓤 H E σ ∷ Γ) E opd_unit u) (ap (value_in v) e) (unit_lit t)
    reads_one t (ptr_const n) v e = absurd (subst Empty e tt)
    reads_one t (size_of τ) v e = absurd (subst Empty e tt)
    reads_one t (align_of τ) v e = absurd (subst Empty e tt)
    reads_one t (num_of w τ) v e = absurd (subst Empty e tt)
    reads_one t (fn_addr f s) v e = absurd (subst Empty e tt)
    reads_one t (vtable τ ss) v e = absurd (subst Empty e tt)

    -- a local, a field of one, or a constant
    pub opd : K → {x : Operand} {v : Val} → opd_cell 𝓤 H E σ x ≡ holds v → Opd K 𝓛 (Locals 𝓤 H E σ ∷ Γ) E x v
    opd t {x} {v} e = reads_one t x v e

    -- all operands of a call
    pub opds : K → (xs : List Operand) (vs : List Val) → map (opd_cell 𝓤 H E σ) xs ≡ map holds vs → Opds K 𝓛 (Locals 𝓤 H E σ ∷ Γ) E xs vs
    opds t [] [] e = no_more t
    opds t [] (v ∷ vs) e = absurd (subst Nil e tt)
    opds t (x ∷ xs) [] e = absurd (subst Nil (sym e) tt)
    opds t (x ∷ xs) (v ∷ vs) e = and_then t (reads_one t x v (ap head e)) (opds t xs vs (ap tail e))

    typed_part : K → {q : Share} {τ : Ty} {b o : ℕ} {v : Val} {back : Val → Item 𝓤} {g : Goal 𝓤 H} → Part K 𝓛 (Locals 𝓤 H E σ) q τ b o v back → (T (has_ty τ v) × WT v → Seq K 𝓛 (Locals 𝓤 H E σ ∷ Γ) g) → Seq K 𝓛 (Locals 𝓤 H E σ ∷ Γ) g
    typed_part t {q} {τ} {b} {o} {v} {back} {g} p k = record {
      prf = via 𝓤 (sep 𝓤 (H.at q τ b o v) (Rest 𝓛 (Locals 𝓤 H E σ ∷ Γ) 0 q τ b o back)) (taken 𝓛 (Locals 𝓤 H E σ ∷ Γ) 0 q τ b o back K v p) inner.prf;
    }
      where
        inner : Seq K 𝓛 (‵ (fat q τ b o v) ∷ raw (Rest 𝓛 (Locals 𝓤 H E σ ∷ Γ) 0 q τ b o back) ∷ []) g
        inner = well_typed t (λ wt. move t (1 ∷ 0 ∷ []) $ use2 𝓛 (back v ⊛ raw (⋆ 𝓛 Γ)) (given_back 𝓛 (Locals 𝓤 H E σ ∷ Γ) 0 q τ b o back v) $
            by t (subst (λ (j : Item 𝓤). ent 𝓤 (sep 𝓤 (mean 𝓛 j) (⋆ 𝓛 Γ)) (aim 𝓤 H g)) (sym p.same) (via 𝓤 (⋆ 𝓛 (Locals 𝓤 H E σ ∷ Γ)) (push 𝓛 (Locals 𝓤 H E σ) Γ) (k wt).prf)))

    -- an operand is of its type
    pub typed_opd : K → (x : Operand) (v : Val) {g : Goal 𝓤 H} → opd_cell 𝓤 H E σ x ≡ holds v → (T (has_ty (opd_ty 𝓤 H E x) v) × WT v → Seq K 𝓛 (Locals 𝓤 H E σ ∷ Γ) g) → Seq K 𝓛 (Locals 𝓤 H E σ ∷ Γ) g
    typed_opd t (copy (place i [])) v e k = typed_part t (slot t i e) k
    typed_opd t (copy (place i (field n ∷ []))) v e k =
        let f : Field 𝓤 H E σ i n v = in_field 𝓤 H E σ i n v (get_or E i (no_local 𝓤 H)).0 refl e in
        let τ-is : field_ty (field_of (get_or E i (no_local 𝓤 H)).0 n) ≡ f.type = ap (λ (ρ : Ty). field_ty (field_of ρ n)) f.of ∙ ap field_ty f.at in
        typed_part t (in_part t i n f) (λ wt. k (subst (λ (ρ : Ty). T (has_ty ρ v) × WT v) (sym τ-is) (subst (λ (u : Val). T (has_ty f.type u) × WT u) f.is wt)))
    typed_opd t (copy (place i (field n ∷ s ∷ st))) v e k = absurd (subst Empty e tt)
    typed_opd t (copy (place i (deref τ ∷ st))) v e k = absurd (subst Empty e tt)
    typed_opd t (copy (place i (variant n ∷ st))) v e k = absurd (subst Empty e tt)
    typed_opd t (int w n) v e k = k (typed_number (ltb n (2 ^ bits w)) w n v refl e)
    typed_opd t (int_neg w n) v e k = absurd (subst Empty e tt)
    typed_opd t (int_big w n) v e k = absurd (subst Empty e tt)
    typed_opd t (float f n) v e k = absurd (subst Empty e tt)
    typed_opd t opd_true v e k = k (subst (λ (u : Val). T (has_ty ty_bool u) × WT u) (ap (value_in v) e) (tt, tt))
    typed_opd t opd_false v e k = k (subst (λ (u : Val). T (has_ty ty_bool u) × WT u) (ap (value_in v) e) (tt, tt))
    typed_opd t opd_unit v e k = k (subst (λ (u : Val). T (has_ty ty_unit u) × WT u) (ap (value_in v) e) (tt, tt))
    typed_opd t (ptr_const n) v e k = absurd (subst Empty e tt)
    typed_opd t (size_of τ) v e k = absurd (subst Empty e tt)
    typed_opd t (align_of τ) v e k = absurd (subst Empty e tt)
    typed_opd t (num_of w τ) v e k = absurd (subst Empty e tt)
    typed_opd t (fn_addr f s) v e k = absurd (subst Empty e tt)
    typed_opd t (vtable τ ss) v e k = absurd (subst Empty e tt)

    -- the address of what a slice points to
    addr_of_lem : K → {s n b o : ℕ} {ρ τ : Ty} → (get_or E s (no_local 𝓤 H)).0 ≡ slice_ty ρ → get 𝓤 H E σ s ≡ holds (slice_val (b, o) n) → Rv K 𝓛 (Locals 𝓤 H E σ ∷ Γ) E (addr_of (place s (field 0 ∷ deref τ ∷ []))) (vptr b o)
    addr_of_lem t {s} {n} {b} {o} {ρ} {τ} is h =
        addr t {sp = (τ, b, o)} (from t (subst (λ (υ : Ty). Walks K 𝓛 (Locals 𝓤 H E σ ∷ Γ) E (υ, (get_or E s (no_local 𝓤 H)).1, zero) (field 0 ∷ deref τ ∷ []) (τ, b, o)) (sym is) goes))
      where
        goes : Walks K 𝓛 (Locals 𝓤 H E σ ∷ Γ) E (slice_ty ρ, (get_or E s (no_local 𝓤 H)).1, zero) (field 0 ∷ deref τ ∷ []) (τ, b, o)
        goes = fld t refl (hop t (look_in t 0 (sub t 0 refl (subst (λ (υ : Ty). Part K 𝓛 (Locals 𝓤 H E σ) full_share υ (get_or E s (no_local 𝓤 H)).1 zero (slice_val (b, o) n) (λ u. Locals 𝓤 H E (set σ s (holds u)))) is (slot t s h)))) (stop t))

    -- ---- statements. A value is put into a local, whatever it holds
    puts_in : K → (i : ℕ) → Free 𝓤 H E σ i → {v : Val} → T (has_ty (get_or E i (no_local 𝓤 H)).0 v) × WT v → Writes K 𝓛 (Locals 𝓤 H E σ ∷ Γ) (get_or E i (no_local 𝓤 H)).0 (get_or E i (no_local 𝓤 H)).1 zero v (Locals 𝓤 H E (set σ i (holds v)) ∷ Γ)
    puts_in t i f {v} wt = record {
      go = λ P h. qed 𝓛 (Locals 𝓤 H E σ ∷ Γ) ∵ check ! wt $ use1 𝓛 (memory 𝓤 H E σ) (shows_all 𝓛 E σ) $
          use1 𝓛 (cell 𝓤 H (get_or E i (no_local 𝓤 H)) (get 𝓤 H E σ i) ⊛ other 𝓤 H E σ i) (takes 𝓛 E σ i (in_it 𝓤 H E σ i f)) $ split ! $
          use1 𝓛 (‵ (froom (get_or E i (no_local 𝓤 H)).0 (get_or E i (no_local 𝓤 H)).1 zero)) (as_room 𝓛 (get_or E i (no_local 𝓤 H)) (get 𝓤 H E σ i) (at_home 𝓤 H E σ i f)) $ frame ! $
          assume ! (‵ (fat full_share (get_or E i (no_local 𝓤 H)).0 (get_or E i (no_local 𝓤 H)).1 zero v)) $ use2 𝓛 (memory 𝓤 H E (set σ i (holds v))) (gives 𝓛 E σ i (holds v) (in_it 𝓤 H E σ i f)) $
          use1 𝓛 (Locals 𝓤 H E (set σ i (holds v))) (hides 𝓛 E (set σ i (holds v))) $ by ! h;
    }

    -- every local is freed
    frees_all : K → {g : Goal 𝓤 H} → Whole σ → Step K 𝓛 Γ g (Locals 𝓤 H E σ ∷ Γ) (frees E g)
    frees_all t {g} w = step (λ s. record {
      prf = via 𝓤 (sep 𝓤 (mean 𝓛 (Locals 𝓤 H E σ)) (⋆ 𝓛 Γ)) (pop 𝓛 (Locals 𝓤 H E σ) Γ)
          (via 𝓤 (sep 𝓤 (mean 𝓛 (memory 𝓤 H E σ)) (aim 𝓤 H g)) (mono∗ 𝓤 (shows_all 𝓛 E σ) s.prf) (released 𝓛 E σ (aim 𝓤 H g) w));
    })

    -- only the first n locals still hold what they hold: as before the next turn of a loop
    pub keeps_first : K → (n : ℕ) {g : Goal 𝓤 H} → Whole σ → Step K 𝓛 (Locals 𝓤 H E (first_of n σ) ∷ Γ) g (Locals 𝓤 H E σ ∷ Γ) g
    keeps_first t n w =
        step (λ s. use1 𝓛 (memory 𝓤 H E σ) (shows_all 𝓛 E σ) $ use1 𝓛 (memory 𝓤 H E (first_of n σ)) (forgotten 𝓛 n E σ w) $ use1 𝓛 (Locals 𝓤 H E (first_of n σ)) (hides 𝓛 E (first_of n σ)) $ s)

    -- what a local holds is taken out, and put back
    pub goes_away : K → (i : ℕ) {v : Val} {g : Goal 𝓤 H} → get 𝓤 H E σ i ≡ holds v
        → Step K 𝓛 (‵ (fat full_share (get_or E i (no_local 𝓤 H)).0 (get_or E i (no_local 𝓤 H)).1 zero v) ∷ Locals 𝓤 H E (set σ i away) ∷ Γ) g (Locals 𝓤 H E σ ∷ Γ) g
    goes_away t i {v} e = step (λ s.
        use1 𝓛 (memory 𝓤 H E σ) (shows_all 𝓛 E σ) $ use1 𝓛 (‵ (fat full_share (get_or E i (no_local 𝓤 H)).0 (get_or E i (no_local 𝓤 H)).1 zero v) ⊛ other 𝓤 H E σ i)
        (subst (λ (c : Cell). ent 𝓤 (mean 𝓛 (memory 𝓤 H E σ)) (sep 𝓤 (mean 𝓛 (cell 𝓤 H (get_or E i (no_local 𝓤 H)) c)) (mean 𝓛 (other 𝓤 H E σ i)))) e (takes 𝓛 E σ i (inside 𝓤 H E σ i v e))) $ split t $ move t (1 ∷ []) $
        nothing t $ use2 𝓛 (memory 𝓤 H E (set σ i away)) (gives 𝓛 E σ i away (inside 𝓤 H E σ i v e)) $ use1 𝓛 (Locals 𝓤 H E (set σ i away)) (hides 𝓛 E (set σ i away)) $ move t (1 ∷ 0 ∷ []) $ s)

    pub comes_in : K → (i : ℕ) (v : Val) {g : Goal 𝓤 H} → get 𝓤 H E σ i ≡ away → In 𝓤 H E i
        → Step K 𝓛 (Locals 𝓤 H E (set σ i (holds v)) ∷ Γ) g (‵ (fat full_share (get_or E i (no_local 𝓤 H)).0 (get_or E i (no_local 𝓤 H)).1 zero v) ∷ Locals 𝓤 H E σ ∷ Γ) g
    comes_in t i v e n = step (λ s. move t (1 ∷ []) $
        use1 𝓛 (memory 𝓤 H E σ) (shows_all 𝓛 E σ) $ use1 𝓛 (‵ ftrue ⊛ other 𝓤 H E σ i)
        (subst (λ (c : Cell). ent 𝓤 (mean 𝓛 (memory 𝓤 H E σ)) (sep 𝓤 (mean 𝓛 (cell 𝓤 H (get_or E i (no_local 𝓤 H)) c)) (mean 𝓛 (other 𝓤 H E σ i)))) e (takes 𝓛 E σ i n)) $ split t $ drop t $ move t (1 ∷ 0 ∷ []) $
        use2 𝓛 (memory 𝓤 H E (set σ i (holds v))) (gives 𝓛 E σ i (holds v) n) $ use1 𝓛 (Locals 𝓤 H E (set σ i (holds v))) (hides 𝓛 E (set σ i (holds v))) $ s)

    module _ {C : Calls 𝓤 H} {Λ : Loops 𝓤 H} {q : Post 𝓤 H} where
      -- a value is assigned to a local; the last statement of a part does so; a call's result is put into one
      pub puts : K → {i : ℕ} {rv : RValue} {rest : Body} {v : Val} → Rv K 𝓛 (Locals 𝓤 H E σ ∷ Γ) E rv v → Free 𝓤 H E σ i → T (has_ty (get_or E i (no_local 𝓤 H)).0 v) × WT v
          → Step K 𝓛 (Locals 𝓤 H E (set σ i (holds v)) ∷ Γ) (runs C Λ E rest q) (Locals 𝓤 H E σ ∷ Γ) (runs C Λ E (seq (assign (place i []) rv) rest) q)
      puts t {i} r f wt = assigns t r (from t (stop t)) (puts_in t i f wt)

      pub puts_last : K → {i : ℕ} {rv : RValue} {v : Val} → Rv K 𝓛 (Locals 𝓤 H E σ ∷ Γ) E rv v → Free 𝓤 H E σ i → T (has_ty (get_or E i (no_local 𝓤 H)).0 v) × WT v
          → Step K 𝓛 (Locals 𝓤 H E (set σ i (holds v)) ∷ Γ) (prop (post 𝓤 H q next)) (Locals 𝓤 H E σ ∷ Γ) (runs C Λ E (assign (place i []) rv) q)
      puts_last t {i} r f wt = assigns_last t r (from t (stop t)) (puts_in t i f wt)

      pub lands_in : K → {i : ℕ} {r : Val} {rest : Body} → Free 𝓤 H E σ i → T (has_ty (get_or E i (no_local 𝓤 H)).0 r) × WT r
          → Step K 𝓛 (Locals 𝓤 H E (set σ i (holds r)) ∷ Γ) (runs C Λ E rest q) (Locals 𝓤 H E σ ∷ Γ) (lands C Λ E (place i []) r rest q)
      lands_in t {i} f wt = land t (from t (stop t)) (puts_in t i f wt)

      -- an operand is put into a local of its type; the last statement of a part does so
      pub copies : K → {x : Operand} {j : ℕ} {rest : Body} {v : Val} → opd_cell 𝓤 H E σ x ≡ holds v → Takes 𝓤 H E σ j (opd_ty 𝓤 H E x)
          → Step K 𝓛 (Locals 𝓤 H E (set σ j (holds v)) ∷ Γ) (runs C Λ E rest q) (Locals 𝓤 H E σ ∷ Γ) (runs C Λ E (seq (assign (place j []) (rv_opd x)) rest) q)
      copies t {x} {j} {rest} {v} e f = step (λ s. typed_opd t x v e (λ wt. puts t (of_opd t (opd t e)) f.0 (subst (λ (τ : Ty). T (has_ty τ v) × WT v) (sym f.1) wt) $ s))

      pub copies_last : K → {x : Operand} {j : ℕ} {v : Val} → opd_cell 𝓤 H E σ x ≡ holds v → Takes 𝓤 H E σ j (opd_ty 𝓤 H E x)
          → Step K 𝓛 (Locals 𝓤 H E (set σ j (holds v)) ∷ Γ) (prop (post 𝓤 H q next)) (Locals 𝓤 H E σ ∷ Γ) (runs C Λ E (assign (place j []) (rv_opd x)) q)
      copies_last t {x} {j} {v} e f = step (λ s. typed_opd t x v e (λ wt. puts_last t (of_opd t (opd t e)) f.0 (subst (λ (τ : Ty). T (has_ty τ v) × WT v) (sym f.1) wt) $ s))

      -- the function returns what local 0 holds, and its locals are freed. In a branch, a block or a loop the promise is named, and `refl` shows that it is meant
      pub returns_at : K → (Kf : Val → SProp 𝓤) {r : Val} → post 𝓤 H q returnsᴼ ≡ at_return 𝓤 H E Kf returnsᴼ → get 𝓤 H E σ 0 ≡ holds r → Whole σ → Step K 𝓛 Γ (prop (Kf r)) (Locals 𝓤 H E σ ∷ Γ) (runs C Λ E return q)
      returns_at t Kf same e w = step (λ s. returns_within t Kf same (look_in t 0 (slot t 0 e)) $ frees_all t w $ s)

module _ {M : Type 1} {𝓤 : Ura M} {𝓛 : Logic 𝓤} {K : Type 0} {E : Env 𝓤 𝓛.H} {σ : List Cell} {Γ : List (Item 𝓤)} {C : Calls 𝓤 𝓛.H} {Λ : Loops 𝓤 𝓛.H} {q : Post 𝓤 𝓛.H} where
  -- a slice is lent on: its pointer, then the pointer with the count
  open 𝓛 use {H}

  pub lends_on : K → {i j s n b o : ℕ} {ρ τ : Ty} {rest : Body} → (get_or E s (no_local 𝓤 H)).0 ≡ slice_ty ρ → get 𝓤 H E σ s ≡ holds (slice_val (b, o) n)
      → get 𝓤 H E (set σ i (holds (vptr b o))) s ≡ holds (slice_val (b, o) n) → Free 𝓤 H E σ i → T (has_ty (get_or E i (no_local 𝓤 H)).0 (vptr b o)) → Free 𝓤 H E (set σ i (holds (vptr b o))) j → T (has_ty (get_or E j (no_local 𝓤 H)).0 (slice_val (b, o) n))
      → Step K 𝓛 (Locals 𝓤 H E (set (set σ i (holds (vptr b o))) j (holds (slice_val (b, o) n))) ∷ Γ) (runs C Λ E rest q)
      (Locals 𝓤 H E σ ∷ Γ) (runs C Λ E (seq (assign (place i []) (addr_of (place s (field 0 ∷ deref τ ∷ [])))) (seq (assign (place j []) (aggregate (copy (place i []) ∷ copy (place s (field 1 ∷ [])) ∷ []))) rest)) q)
  lends_on t {i} {j} {s} {n} {b} {o} {ρ} {τ} is h h₂ fi ti fj tj =
      step (λ k. typed_opd t (copy (place s [])) (slice_val (b, o) n) h (λ wt. puts t (addr_of_lem t is h) fi (ti, tt) $
      puts t (agg t (and_then t (opd t (got 𝓤 H E σ i (holds (vptr b o)) (in_it 𝓤 H E σ i fi))) (and_then t (opd t (ap (λ (τ : Ty). field_cell (field_of τ 1) (get 𝓤 H E (set σ i (holds (vptr b o))) s) 1) is ∙ ap (λ (c : Cell). field_cell (field_of (slice_ty ρ) 1) c 1) h₂)) (no_more t)))) fj (tj, wt.1) $ k))
