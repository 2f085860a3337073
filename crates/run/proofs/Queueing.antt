-- While cells are queued, and after it: values and names are as at the end of seeding, each cell passed that has a triangle has its
-- entry, and no cell has two. Assumes nothing but what `Fair` asks of the input.
use Prim.Native.Nat.{ℕ, suc, ◌≤◌, ◌<◌}
use native.Mathlib.Nat.{eq-or-lt_of_le, le_of_suc-le-suc, not-suc-le-zero}
use native.Mathlib.Omega.{arith}
use mathlib.Core.Path.{◌≡◌, refl, sym, ap, ◌∙◌, subst}
use mathlib.Core.Logic.{◌⊎◌, inl, inr}
use mathlib.Core.Bool.{true, false, true≢false}
use mathlib.Core.List.Memᴰ
use mathlib.Core.List.{[], Memᴰ}
use lib.Ieee.{is_nan}
use Rattle.float.specs.Arith.{◌≺◌, f_max}
use Rattle.lists.specs.Turns.{goes, turns}
use Rattle.lists.proofs.Turns.{turns_keep}
use Rattle.queue.specs.declared.Entry.{Entry}
use Rattle.queue.proofs.Meaning.{in_insert, still_in, from_insert}
use Rattle.queue.proofs.Keys.{FromAll}
use Rattle.run.specs.Run.{RunInput, State, held, named, entry, queued, queue_cell, queueing}
use Rattle.float_order.specs.Nearer.{height, key_of}
use Rattle.run.specs.Good.{Waits, Good}
use Rattle.run.proofs.Values.{Fair, has_named, has_below}
use Rattle.run.proofs.Offers.{Queued, QueuedCell, not_below, below, queue_cell_went}
use Rattle.run.proofs.Waiting.{good_queued, WaitsFor, waits_for_on}

-- from s, where nothing waits, the cells below i have been queued, which gives t
pub record QueuedTo (g : RunInput) (s : State) (i : ℕ) (t : State) : Type 0 where
  pub good : Good g t
  pub field_same : t.field ≡ s.field
  pub names_same : t.names ≡ s.names
  pub pops_same : t.pops ≡ s.pops
  pub passed : (x : Entry) → Memᴰ x t.waiting → x.cell < i
  pub names_it_lem : (x : Entry) → Memᴰ x t.waiting → named t x.cell ≡ x.triangle
  pub each : (c : ℕ) → c < i → named t c < g.triangles → WaitsFor t c (named t c)

module _ (g : RunInput) (F : Fair g) (s : State) where
  -- cell i is queued
  module _ (i : ℕ) (u : State) (il : i < g.cells) (P : QueuedTo g s i u) (b : (held u i ≺ f_max) ≡ true) where
    new_waits : Waits g u.field (entry (held u i) i (named u i))
    new_waits =
        let h = has_below g F (P.good.sound.each i il) b in
        record {
          cell_on_lem = il;
          triangle_is = h.0;
          number = sym (ap is_nan h.1) ∙ h.2;
          far = ap key_of h.1;
          above = rw (ap height h.1) (omega arith);
        }

    pub new_differs : FromAll (entry (held u i) i (named u i)) u.waiting
    new_differs z m d e = omega (arith, P.passed z m)

    one_more : (v : State) → Queued g (entry (held u i) i (named u i)) u v → QueuedTo g s (suc i) v
    one_more v Q =
        rw Q.is
        (record {
          good = good_queued g (entry (held u i) i (named u i)) u P.good new_waits new_differs Q.room;
          field_same = P.field_same;
          names_same = P.names_same;
          pops_same = P.pops_same;
          passed = λ x m. passed x (from_insert g.goes_first x (entry (held u i) i (named u i)) u.waiting m);
          names_it_lem = λ x m. names_it_lem x (from_insert g.goes_first x (entry (held u i) i (named u i)) u.waiting m);
          each = λ c l k. each c k (eq-or-lt_of_le (le_of_suc-le-suc l));
        })
      where
        names_it_lem : (x : Entry) → (x ≡ entry (held u i) i (named u i)) ⊎ Memᴰ x u.waiting → named u x.cell ≡ x.triangle
        names_it_lem x (inl e) = ap (λ (y : Entry). named u y.cell) e ∙ sym (ap (λ (y : Entry). y.triangle) e)
        names_it_lem x (inr m) = P.names_it_lem x m

        passed : (x : Entry) → (x ≡ entry (held u i) i (named u i)) ⊎ Memᴰ x u.waiting → x.cell < suc i
        passed x (inl e) = omega (arith, ap (λ (y : Entry). y.cell) e)
        passed x (inr m) = omega (arith, P.passed x m)

        each : (c : ℕ) → named u c < g.triangles → (c ≡ i) ⊎ (c < i) → WaitsFor (queued g (entry (held u i) i (named u i)) u) c (named u c)
        each c k (inl e) =
            record {
              waiting_entry = entry (held u i) i (named u i);
              waits = in_insert g.goes_first (entry (held u i) i (named u i)) u.waiting;
              of_cell_lem = sym e;
              of_triangle = ap (named u) (sym e);
            }
        each c k (inr l) =
            waits_for_on {s = u} {t = queued g (entry (held u i) i (named u i)) u}
            (λ x m. still_in g.goes_first x (entry (held u i) i (named u i)) u.waiting m)
            (P.each c l k)

  -- cell i is bare
  none_more : (i : ℕ) (u v : State) → i < g.cells → QueuedTo g s i u → (held u i ≺ f_max) ≡ false → v ≡ u → QueuedTo g s (suc i) v
  none_more i u v il P b e =
      rw e
      (record {
        good = P.good;
        field_same = P.field_same;
        names_same = P.names_same;
        pops_same = P.pops_same;
        passed = λ x m. omega (arith, P.passed x m);
        names_it_lem = P.names_it_lem;
        each = λ c l k. each c k (eq-or-lt_of_le (le_of_suc-le-suc l));
      })
    where
      each : (c : ℕ) → named u c < g.triangles → (c ≡ i) ⊎ (c < i) → WaitsFor u c (named u c)
      each c k (inl q) =
          let h = has_named g F (P.good.sound.each i il) (subst (λ (j : ℕ). named u j < g.triangles) q k) in
          absurd (true≢false (sym h.2 ∙ b))
      each c k (inr l) = P.each c l k

  pub cell_queued : (i : ℕ) (u v : State) → i < g.cells → QueuedTo g s i u → queue_cell g i u ≡ goes v → QueuedTo g s (suc i) v
  cell_queued i u v il P h = go (queue_cell_went g i u v h)
    where
      go : QueuedCell g i u v → QueuedTo g s (suc i) v
      go (not_below b e) = none_more i u v il P b e
      go (below b Q) = one_more i u il P b v Q

  -- none yet
  pub none_queued : Good g s → s.waiting ≡ [] → QueuedTo g s 0 s
  none_queued G e =
      record {
        good = G;
        field_same = refl;
        names_same = refl;
        pops_same = refl;
        passed = λ x m. absurd (Memᴰ.not-nil (subst (Memᴰ x) e m));
        names_it_lem = λ x m. absurd (Memᴰ.not-nil (subst (Memᴰ x) e m));
        each = λ c k. absurd (not-suc-le-zero k);
      }

  pub queued_to : (i : ℕ) (t : State) → Good g s → s.waiting ≡ [] → i ≤ g.cells → turns (queue_cell g) i s ≡ goes t → QueuedTo g s i t
  queued_to i t G e l h = turns_keep (queue_cell g) (QueuedTo g s) i s t (none_queued G e) (λ j u v m. cell_queued j u v (omega arith)) h

  pub queueing_to : (t : State) → Good g s → s.waiting ≡ [] → queueing g s ≡ goes t → QueuedTo g s g.cells t
  unfolding queueing
  queueing_to t G e h = queued_to g.cells t G e (omega arith) h
