-- What waits in a run. Every waiting entry is of a cell and a triangle of the job, has the key of that triangle's distance, and its cell
-- holds nothing farther since. A cell queues an entry only when it takes a nearer value, and a key has one value, so two waiting entries never agree in both distance and cell. The
-- entries that wait never outgrow the peak, nor the peak the room. Assumes nothing but what `Fair` asks of the input.
use Prim.Native.Nat.{ℕ, zero, suc, ◌≤◌, ◌<◌}
use native.Mathlib.Nat.{le_of_suc-le-suc, not-suc-le-zero}
use native.Mathlib.Decide.{ℕ_discrete}
use native.Mathlib.Omega.{arith}
use mathlib.Core.Path.{◌≡◌, refl, sym, ap, ◌∙◌, subst}
use mathlib.Core.Logic.{◌⊎◌, inl, inr}
use mathlib.Core.Bool.{Bool, true, false, cond}
use mathlib.Core.List.Memᴰ
use mathlib.Core.List.{List, [], ◌∷◌, Memᴰ}
use lib.ListN.{length, get_or}
use lib.Ieee.{Float, nan}
use Rattle.lists.specs.Turns.{goes}
use Rattle.queue.specs.declared.Entry.{Entry}
use Rattle.queue.specs.InOrder.{insert}
use Rattle.queue.specs.Keys.{Differ, Apart}
use Rattle.queue.proofs.Keys.{FromAll}
use Rattle.queue.proofs.Meaning.{length_insert, in_insert, still_in, from_insert}
use Rattle.run.specs.Run.{RunInput, State, named, entry, takes, offer, queued, queue, taken}
use Rattle.float_order.specs.Nearer.{height}
use Rattle.float_order.proofs.Keys.{one_key}
use Rattle.run.specs.Good.{Falls, Waits, Good}
use Rattle.run.proofs.Values.{Fair, Met, Nearer, Took, distance_at, took, passes_met}
use Rattle.run.proofs.Offers.{Offer, passes, takes_it, offer_went, Queued, queue_went}

-- ---- the entries that wait

pub waits_on : (g : RunInput) (a b : List Float) (x : Entry) → Falls g a b → Waits g a x → Waits g b x
waits_on g a b x p w =
    record {
      cell_on_lem = w.cell_on_lem;
      triangle_is = w.triangle_is;
      number = w.number;
      far = w.far;
      above = omega (arith, p x.cell w.cell_on_lem, w.above);
    }

-- what stands at a place is a member
pub member_at : {A : Type 0} (l : List A) (i : ℕ) (d : A) → i < length l → Memᴰ (get_or l i d) l
member_at [] i d h = absurd (not-suc-le-zero h)
member_at (x ∷ l) zero d h = Memᴰ.head refl
member_at (x ∷ l) (suc i) d h = Memᴰ.tail (member_at l i d (le_of_suc-le-suc h))

module _ (le : Entry → Entry → Bool) (e : Entry) where
  apart_cond : (b : Bool) (y : Entry) (l : List Entry) → Apart (y ∷ l) → FromAll e (y ∷ l) → Apart (insert le e l)
      → Apart (cond b (e ∷ y ∷ l) (y ∷ insert le e l))
  apart_cond true y l a h r = (h, a)
  apart_cond false y l a h r = (λ z m. go z (from_insert le z e l m), r)
    where
      go : (z : Entry) → (z ≡ e) ⊎ Memᴰ z l → Differ y z
      go z (inl q) d c = h y (Memᴰ.head refl) (sym (d ∙ ap (λ (x : Entry). x.distance) q)) (sym (c ∙ ap (λ (x : Entry). x.cell) q))
      go z (inr m) d c = a.0 z m d c

  pub apart_insert : (l : List Entry) → Apart l → FromAll e l → Apart (insert le e l)
  unfolding insert
  apart_insert [] a h = (λ z m. absurd (Memᴰ.not-nil m), tt)
  apart_insert (y ∷ l) a h = apart_cond (le e y) y l a h (apart_insert l a.1 (λ z m. h z (Memᴰ.tail m)))

-- two at different places differ
pub apart_at : (l : List Entry) (d : Entry) (i j : ℕ) → Apart l → i < j → j < length l → Differ (get_or l i d) (get_or l j d)
apart_at [] d i j a l m = absurd (not-suc-le-zero m)
apart_at (x ∷ r) d zero zero a l m = absurd (not-suc-le-zero l)
apart_at (x ∷ r) d zero (suc j) a l m = a.0 (get_or r j d) (member_at r j d (le_of_suc-le-suc m))
apart_at (x ∷ r) d (suc i) zero a l m = absurd (not-suc-le-zero l)
apart_at (x ∷ r) d (suc i) (suc j) a l m = apart_at r d i j a.1 (le_of_suc-le-suc l) (le_of_suc-le-suc m)

-- ---- a good state

-- an entry is queued
pub good_queued : (g : RunInput) (e : Entry) (s : State) → Good g s → Waits g s.field e → FromAll e s.waiting
    → length s.waiting < g.room → Good g (queued g e s)
good_queued g e s G w h l =
    record {
      sound = G.sound;
      waits = λ x m. go x (from_insert g.goes_first x e s.waiting m);
      apart = apart_insert g.goes_first e s.waiting G.apart h;
      in_peak = rw (length_insert g.goes_first e s.waiting) (omega arith);
      in_room = omega (arith, G.in_room);
    }
  where
    go : (x : Entry) → (x ≡ e) ⊎ Memᴰ x s.waiting → Waits g s.field x
    go x (inl q) = subst (Waits g s.field) (sym q) w
    go x (inr m) = G.waits x m

-- the first is taken
pub good_taken : (g : RunInput) (e : Entry) (w : List Entry) (s : State) → Good g s → s.waiting ≡ e ∷ w → Good g (taken w s) × Waits g s.field e
good_taken g e w s G q = (
  record {
    sound = G.sound;
    waits = λ x m. G.waits x (subst (Memᴰ x) (sym q) (Memᴰ.tail m));
    apart = (subst Apart q G.apart).1;
    in_peak = omega (arith, G.in_peak, ap length q);
    in_room = G.in_room;
  },
  G.waits e (subst (Memᴰ e) (sym q) (Memᴰ.head refl)),
)

-- ---- an offer in spreading

-- an entry of cell c and triangle k waits
pub record WaitsFor (s : State) (c k : ℕ) : Type 0 where
  pub waiting_entry : Entry
  pub waits : Memᴰ waiting_entry s.waiting
  pub of_cell_lem : waiting_entry.cell ≡ c
  pub of_triangle : waiting_entry.triangle ≡ k

-- from s to t no cell holds more, what waits goes on waiting, and a cell that names another triangle has queued it
pub record Onward (g : RunInput) (s t : State) : Type 0 where
  pub falls : Falls g s.field t.field
  pub keeps : (x : Entry) → Memᴰ x s.waiting → Memᴰ x t.waiting
  pub names : (c : ℕ) → (named t c ≡ named s c) ⊎ WaitsFor t c (named t c)
  pub pops_same : t.pops ≡ s.pops

pub waits_for_on : {s t : State} {c k : ℕ} → ((x : Entry) → Memᴰ x s.waiting → Memᴰ x t.waiting) → WaitsFor s c k → WaitsFor t c k
waits_for_on f p =
    record { waiting_entry = p.waiting_entry; waits = f p.waiting_entry p.waits; of_cell_lem = p.of_cell_lem; of_triangle = p.of_triangle }

pub onward_stays : (g : RunInput) (s : State) → Onward g s s
onward_stays g s = record { falls = λ c l. omega arith; keeps = λ x m. m; names = λ c. inl refl; pops_same = refl }

pub onward_on : (g : RunInput) (s t u : State) → Onward g s t → Onward g t u → Onward g s u
onward_on g s t u p q =
    record {
      falls = λ c l. omega (arith, p.falls c l, q.falls c l);
      keeps = λ x m. q.keeps x (p.keeps x m);
      names = λ c. go c (q.names c) (p.names c);
      pops_same = q.pops_same ∙ p.pops_same;
    }
  where
    go : (c : ℕ) → (named u c ≡ named t c) ⊎ WaitsFor u c (named u c) → (named t c ≡ named s c) ⊎ WaitsFor t c (named t c) → (named u c ≡ named s c) ⊎ WaitsFor u c (named u c)
    go c (inr w) r = inr w
    go c (inl e) (inl f) = inl (e ∙ f)
    go c (inl e) (inr w) = inr (waits_for_on {s = t} {t = u} q.keeps (subst (WaitsFor t c) (sym e) w))

-- what an offer of triangle k to cell c does
pub record AfterOffer (g : RunInput) (k c : ℕ) (s t : State) : Type 0 where
  pub good : Good g t
  pub onward : Onward g s t
  pub met : Met g t.field k c
  -- an entry that waits was there, or its cell names its triangle
  pub new : (x : Entry) → Memᴰ x t.waiting → Memᴰ x s.waiting ⊎ (named t x.cell ≡ x.triangle)

module _ (g : RunInput) (F : Fair g) (k c : ℕ) (kl : k < g.triangles) (cl : c < g.cells) (s : State) (G : Good g s) where
  -- the entry that the cell queues where it takes the triangle, and the state in between
  abbrev new : Entry
  new = entry (g.distance k c) c k

  abbrev between : State
  between = takes c k (g.distance k c) s

  module _ (N : Nearer g s.field k c) where
    T : Took g s.field s.names k c
    T = took g F s.field s.names k c G.sound kl cl N

    between_good : Good g between
    between_good =
        record {
          sound = T.sound;
          waits = λ x m. waits_on g s.field between.field x T.falls (G.waits x m);
          apart = G.apart;
          in_peak = G.in_peak;
          in_room = G.in_room;
        }

    -- the new entry is at the new value, and those of the same cell are above the old
    new_waits : Waits g between.field new
    new_waits = record { cell_on_lem = cl; triangle_is = kl; number = N.number; far = refl; above = T.met.least }

    pub new_differs : FromAll new s.waiting
    new_differs z m d e =
        let w = G.waits z m in
        let above : height (get_or s.field c nan) ≤ height (g.distance z.triangle z.cell) = rw e w.above in
        let one = one_key (distance_at g F k c N.number) (distance_at g F z.triangle z.cell w.number) (d ∙ w.far) in
        omega (arith, T.less, above, ap height one)

    takes_names : (i : ℕ) → Dec (i ≡ c) → (named between i ≡ named s i) ⊎ WaitsFor (queued g new between) i (named between i)
    takes_names i (yes e) =
        inr (record {
          waiting_entry = new;
          waits = in_insert g.goes_first new s.waiting;
          of_cell_lem = sym e;
          of_triangle = sym (T.name i e);
        })
    takes_names i (no n) = inl (T.other_names i n)

    takes_new : (x : Entry) → (x ≡ new) ⊎ Memᴰ x s.waiting → Memᴰ x s.waiting ⊎ (named between x.cell ≡ x.triangle)
    takes_new x (inl e) = inr (T.name x.cell (ap (λ (y : Entry). y.cell) e) ∙ sym (ap (λ (y : Entry). y.triangle) e))
    takes_new x (inr m) = inl m

    takes_after : (t : State) → Queued g new between t → AfterOffer g k c s t
    takes_after t Q =
        rw Q.is
        (record {
          good = good_queued g new between between_good new_waits new_differs Q.room;
          onward = record {
            falls = T.falls;
            keeps = λ x m. still_in g.goes_first x new s.waiting m;
            names = λ i. takes_names i (ℕ_discrete i c);
            pops_same = refl;
          };
          met = T.met;
          new = λ x m. takes_new x (from_insert g.goes_first x new s.waiting m);
        })

  pub after_offer : (t : State) → offer g (queue g) k c s ≡ goes t → AfterOffer g k c s t
  after_offer t h = go (offer_went g (queue g) k c s t h)
    where
      go : Offer (queue g) k c (g.distance k c) s t → AfterOffer g k c s t
      go (passes n l e) =
          rw e
          (record {
            good = G;
            onward = onward_stays g s;
            met = passes_met g F s.field s.names k c G.sound cl n l;
            new = λ x m. inl m;
          })
      go (takes_it n l w) = takes_after (record { number = n; less = l }) t (queue_went g new between t w)
