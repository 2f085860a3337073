-- After seeding every cell of every triangle's snapped box has met the triangle, and nothing waits. Each offer of the four loops was
-- made, no later offer raises a value, and no other offer is made. Assumes nothing but what `Fair` asks of the input.
use Prim.Native.Nat.{ℕ, ◌≤◌, ◌<◌}
use native.Mathlib.Decide.{ℕ_discrete}
use native.Mathlib.Omega.{arith}
use mathlib.Core.Path.{◌≡◌, refl, sym, ◌∙◌, subst}
use mathlib.Core.Logic.{◌⊎◌, inl, inr}
use mathlib.Core.List.Memᴰ
use mathlib.Core.List.{[], Memᴰ}
use lib.ListN.{get_or, set, replicate, get_or-replicate}
use Rattle.lists.specs.Turns.{Turn, goes}
use Rattle.lists.proofs.Made.{goes_same, Made, turns_lead, turns_made, between_lead, between_made}
use Rattle.queue.specs.Keys.{Apart}
use Rattle.run.specs.Run.{RunInput, State, Box, none, at_first, named, offer, nothing_else, seed_line, seed_plane, seed_triangle, seeding}
use Rattle.run.specs.Good.{FieldSound, Falls, Good}
use Rattle.run.proofs.Values.{Fair, Met, met_on, Took, sound_bare, took, passes_met}
use Rattle.run.proofs.Offers.{Offer, passes, takes_it, offer_went}

-- number i is from the first to the last, ends included
pub record From (first last i : ℕ) : Type 0 where
  pub low : first ≤ i
  pub high : i ≤ last

-- cell (x, y, z) is in a snapped box
pub record InBox (b : Box) (x y z : ℕ) : Type 0 where
  pub on_x : From b.low.x b.high.x x
  pub on_y : From b.low.y b.high.y y
  pub on_z : From b.low.z b.high.z z

-- cell c is in the snapped box of triangle k
pub record InBoxOf (g : RunInput) (c k : ℕ) : Type 0 where
  pub x : ℕ
  pub y : ℕ
  pub z : ℕ
  pub in_box : InBox (g.box k) x y z
  pub is : c ≡ g.index x y z

-- from s to t values only fall and the queue is left alone
pub record Seeds (g : RunInput) (s t : State) : Type 0 where
  pub sound : FieldSound g t.field t.names
  pub falls : Falls g s.field t.field
  pub waiting_same : t.waiting ≡ s.waiting
  pub pops_same : t.pops ≡ s.pops
  pub peak_same : t.peak ≡ s.peak
  -- a cell that names another triangle is in its box
  pub boxed : (c : ℕ) → (named t c ≡ named s c) ⊎ InBoxOf g c (named t c)

-- where the state before is sound
abbrev Leads : RunInput → State → State → Type 0
Leads g s t = FieldSound g s.field s.names → Seeds g s t

stays : (g : RunInput) (s : State) → Leads g s s
stays g s S = record { sound = S; falls = λ c l. omega arith; waiting_same = refl; pops_same = refl; peak_same = refl; boxed = λ c. inl refl }

on : (g : RunInput) (s t u : State) → Leads g s t → Leads g t u → Leads g s u
on g s t u p q S =
    let a = p S in
    let b = q a.sound in
    record {
      sound = b.sound;
      falls = λ c l. omega (arith, a.falls c l, b.falls c l);
      waiting_same = b.waiting_same ∙ a.waiting_same;
      pops_same = b.pops_same ∙ a.pops_same;
      peak_same = b.peak_same ∙ a.peak_same;
      boxed = λ c. boxed c (b.boxed c) (a.boxed c);
    }
  where
    boxed : (c : ℕ) → (named u c ≡ named t c) ⊎ InBoxOf g c (named u c) → (named t c ≡ named s c) ⊎ InBoxOf g c (named t c) → (named u c ≡ named s c) ⊎ InBoxOf g c (named u c)
    boxed c (inr m) n = inr m
    boxed c (inl e) (inl f) = inl (e ∙ f)
    boxed c (inl e) (inr n) = inr (subst (InBoxOf g c) (sym e) n)

-- an offer leads on, and the cell has then met the triangle
pub record Seeded (g : RunInput) (k c : ℕ) (s t : State) : Type 0 where
  pub seeds : Seeds g s t
  pub met : Met g t.field k c

module _ (g : RunInput) (F : Fair g) where
  offered : (k c : ℕ) (s t : State) → k < g.triangles → c < g.cells → InBoxOf g c k → FieldSound g s.field s.names → offer g nothing_else k c s ≡ goes t → Seeded g k c s t
  offered k c s t kl cl B S h = go (offer_went g nothing_else k c s t h)
    where
      go : Offer nothing_else k c (g.distance k c) s t → Seeded g k c s t
      go (passes n l e) = rw e (record { seeds = stays g s S; met = passes_met g F s.field s.names k c S cl n l })
      go (takes_it n l w) =
          let T = took g F s.field s.names k c S kl cl (record { number = n; less = l }) in
          rw (← goes_same w)
          (record {
            seeds = record {
              sound = T.sound;
              falls = T.falls;
              waiting_same = refl;
              pops_same = refl;
              peak_same = refl;
              boxed = λ i. boxed T i (ℕ_discrete i c);
            };
            met = T.met;
          })
        where
          boxed : Took g s.field s.names k c → (i : ℕ) → Dec (i ≡ c) → (get_or (set s.names c k) i 0 ≡ named s i) ⊎ InBoxOf g i (get_or (set s.names c k) i 0)
          boxed T i (yes e) = inr (rw (T.name i e, e) B)
          boxed T i (no n) = inl (T.other_names i n)

  -- ---- the loops lead on

  module _ (k : ℕ) (kl : k < g.triangles) where
    abbrev OnX : ℕ → Type 0
    OnX x = From (g.box k).low.x (g.box k).high.x x

    abbrev OnY : ℕ → Type 0
    OnY y = From (g.box k).low.y (g.box k).high.y y

    abbrev OnZ : ℕ → Type 0
    OnZ z = From (g.box k).low.z (g.box k).high.z z

    abbrev Cell-offer : ℕ → ℕ → ℕ → State → Turn State
    Cell-offer x y z = offer g nothing_else k (g.index x y z)

    offer_seeds : (x y z : ℕ) (s t : State) → OnX x → OnY y → OnZ z → Cell-offer x y z s ≡ goes t → FieldSound g s.field s.names → Seeded g k (g.index x y z) s t
    offer_seeds x y z s t a b c h S =
        offered k (g.index x y z) s t kl (F.boxes_on k x y z kl a.high b.high c.high)
        (record { x = x; y = y; z = z; in_box = record { on_x = a; on_y = b; on_z = c }; is = refl })
        S
        h

    offer_leads : (x y z : ℕ) (s t : State) → OnX x → OnY y → OnZ z → Cell-offer x y z s ≡ goes t → Leads g s t
    offer_leads x y z s t a b c h S = (offer_seeds x y z s t a b c h S).seeds

    line_leads : (x y : ℕ) (s t : State) → OnX x → OnY y → seed_line g k x y s ≡ goes t → Leads g s t
    unfolding seed_line
    line_leads x y s t a b h =
        between_lead (Leads g) (stays g) (on g) (Cell-offer x y) _ _ s t
        (λ z u v l m. offer_leads x y z u v a b (record { low = omega arith; high = omega arith }))
        h

    plane_leads : (x : ℕ) (s t : State) → OnX x → seed_plane g k x s ≡ goes t → Leads g s t
    unfolding seed_plane
    plane_leads x s t a h =
        between_lead (Leads g) (stays g) (on g) (seed_line g k x) _ _ s t
        (λ y u v l m. line_leads x y u v a (record { low = omega arith; high = omega arith }))
        h

    triangle_leads : (s t : State) → seed_triangle g k s ≡ goes t → Leads g s t
    unfolding seed_triangle
    triangle_leads s t h =
        between_lead (Leads g) (stays g) (on g) (seed_plane g k) _ _ s t
        (λ x u v l m. plane_leads x u v (record { low = omega arith; high = omega arith }))
        h

    -- ---- and each offer was made

    module _ (x y z : ℕ) (b : InBox (g.box k) x y z) where
      -- on the way from s to t cell (x, y, z) has met triangle k
      abbrev Meets : State → State → Type 0
      Meets s t = FieldSound g s.field s.names → Met g t.field k (g.index x y z)

      -- a turn that met it was made, and what follows leads on
      through_made : (f : ℕ → State → Turn State) (i : ℕ) (s t : State) → Made (Leads g) f i s t → ((u v : State) → f i u ≡ goes v → Leads g u v)
          → ((u v : State) → f i u ≡ goes v → Meets u v) → Meets s t
      through_made f i s t p lead meet S =
          let before = p.led S in
          let turn = lead p.before p.after p.turn before.sound in
          met_on g p.after.field t.field k (g.index x y z) (F.boxes_on k x y z kl b.on_x.high b.on_y.high b.on_z.high)
          (p.leads turn.sound).falls
          (meet p.before p.after p.turn before.sound)

      line_meets : (s t : State) → seed_line g k x y s ≡ goes t → Meets s t
      unfolding seed_line
      line_meets s t h =
          through_made (Cell-offer x y) z s t
          (between_made (Leads g) (stays g) (on g) (Cell-offer x y) _ z _ s t (omega (arith, b.on_z.low)) (omega (arith, b.on_z.high))
          (λ i u v l m. offer_leads x y i u v b.on_x b.on_y (record { low = omega arith; high = omega arith }))
          h)
          (λ u v w. offer_leads x y z u v b.on_x b.on_y b.on_z w)
          (λ u v w S. (offer_seeds x y z u v b.on_x b.on_y b.on_z w S).met)

      plane_meets : (s t : State) → seed_plane g k x s ≡ goes t → Meets s t
      unfolding seed_plane
      plane_meets s t h =
          through_made (seed_line g k x) y s t
          (between_made (Leads g) (stays g) (on g) (seed_line g k x) _ y _ s t (omega (arith, b.on_y.low)) (omega (arith, b.on_y.high))
          (λ i u v l m. line_leads x i u v b.on_x (record { low = omega arith; high = omega arith }))
          h)
          (λ u v w. line_leads x y u v b.on_x b.on_y w)
          line_meets

      triangle_meets : (s t : State) → seed_triangle g k s ≡ goes t → Meets s t
      unfolding seed_triangle
      triangle_meets s t h =
          through_made (seed_plane g k) x s t
          (between_made (Leads g) (stays g) (on g) (seed_plane g k) _ x _ s t (omega (arith, b.on_x.low)) (omega (arith, b.on_x.high))
          (λ i u v l m. plane_leads i u v (record { low = omega arith; high = omega arith }))
          h)
          (λ u v w. plane_leads x u v b.on_x w)
          plane_meets

  -- ---- the whole of seeding

  all_lead : (k : ℕ) (s t : State) → k < g.triangles → seed_triangle g k s ≡ goes t → Leads g s t
  all_lead k s t kl h = triangle_leads k kl s t h

  seeding_leads : (s : State) → seeding g ≡ goes s → Seeds g (at_first g.cells) s
  unfolding seeding at_first
  seeding_leads s h = turns_lead (Leads g) (stays g) (on g) (seed_triangle g) g.triangles (at_first g.cells) s (λ i u v l. all_lead i u v l) h (sound_bare g)

  pub seeding_empty : (s : State) → seeding g ≡ goes s → s.waiting ≡ []
  unfolding at_first
  seeding_empty s h = (seeding_leads s h).waiting_same

  pub seeding_pops : (s : State) → seeding g ≡ goes s → s.pops ≡ 0
  unfolding at_first
  seeding_pops s h = (seeding_leads s h).pops_same

  pub seeding_good : (s : State) → seeding g ≡ goes s → Good g s
  unfolding at_first
  seeding_good s h =
      let p = seeding_leads s h in
      record {
        sound = p.sound;
        waits = λ x m. absurd (Memᴰ.not-nil (subst (Memᴰ x) p.waiting_same m));
        apart = subst Apart (sym p.waiting_same) tt;
        in_peak = rw p.waiting_same (omega arith);
        in_room = rw p.peak_same (omega arith);
      }

  -- a cell names only a triangle whose snapped box it is in
  pub seeding_boxed : (c : ℕ) (s : State) → c < g.cells → named s c < g.triangles → seeding g ≡ goes s → InBoxOf g c (named s c)
  unfolding at_first
  seeding_boxed c s l n h = go ((seeding_leads s h).boxed c)
    where
      go : (named s c ≡ get_or (replicate g.cells none) c 0) ⊎ InBoxOf g c (named s c) → InBoxOf g c (named s c)
      go (inl e) = absurd (omega (arith, F.few, e ∙ get_or-replicate g.cells c none 0 l))
      go (inr b) = b

  -- every cell of a snapped box has met the triangle
  pub seeding_meets : (k x y z : ℕ) (s : State) → k < g.triangles → InBox (g.box k) x y z → seeding g ≡ goes s → Met g s.field k (g.index x y z)
  unfolding seeding at_first
  seeding_meets k x y z s kl b h =
      through_made k kl x y z b (seed_triangle g) k (at_first g.cells) s
      (turns_made (Leads g) (stays g) (on g) (seed_triangle g) k g.triangles (at_first g.cells) s kl (λ i u v l. all_lead i u v l) h)
      (λ u v w. triangle_leads k kl u v w)
      (triangle_meets k kl x y z b)
      (sound_bare g)
