-- A pop by its parts: it is counted, or the pops are spent; an entry is taken, its offers are made, and the batch is queued, which is the pop of the run.
-- Assumes nothing.
use Prim.Native.Nat.{ℕ, ◌<◌}
use native.Mathlib.Omega.{arith}
use native.Mathlib.Decide.{ℕ_discrete}
use mathlib.Core.Path.{◌≡◌, refl, sym, ap, ◌∙◌, subst}
use mathlib.Core.List.{List}
use lib.ListN.{length}
use lib.Ieee.{Float}
use Rattle.lists.specs.Turns.{goes}
use Rattle.terms.specs.declared.SignMethod.{SignMethod}
use Rattle.grid.specs.declared.Grid.{Grid}
use Rattle.mesh.specs.Mesh.{Mesh}
use Rattle.queue.specs.declared.Entry.{Entry}
use Rattle.queue.specs.Keys.{by_keys}
use Rattle.queue.specs.Queue.{Held, Taken}
use Rattle.run.specs.Run.{take_first, spreading}
use Rattle.run.specs.Input.{run_input}
use Rattle.run_state.specs.declared.Progress.{Progress}
use Rattle.run_state.specs.Told.{order_in, state_of, Fit, Told, ToldByKeys}
use Rattle.run_pop.proofs.Pops.{one_taken, rest_held, popped}
use Rattle.run_spread.proofs.Spreads.{Spreads, spread_spent}
use Rattle.entries_batch.specs.declared.Batch.{Batch}
use Rattle.entries_batch.specs.Batch.{queue_all}
use Rattle.entries_gather.specs.Gathered.{PopOffered}
use Rattle.entries_state.specs.Records.{popped_by}
use Rattle.entries_state.proofs.Counts.{spent, one_taken_lem}

-- by the counts the pops are spent, or one was left
module _ (limit : ℕ) (p : Progress) {p₁ : Progress} (is : p₁ ≡ popped_by limit p) where
  was_spent : (p₁.number ≡ 0 → ⊥) → p.pops ≡ limit
  was_spent z = go (ℕ_discrete p.pops limit)
    where
      go : Dec (p.pops ≡ limit) → p.pops ≡ limit
      go (yes e) = e
      go (no n) = absurd (z (ap (λ (r : Progress). r.number) (is ∙ sym (one_taken_lem limit p n))))

  was_left : p₁.number ≡ 0 → p.pops ≡ limit → ⊥
  was_left z e = let w : ◌≡◌ {A = ℕ} 8 0 = ap (λ (r : Progress). r.number) (spent limit p e ∙ sym is) ∙ z in omega (arith, w)

  was_taken : p₁.number ≡ 0 → p₁ ≡ one_taken p
  was_taken z = is ∙ sym (one_taken_lem limit p (was_left z))

module _ {g : Grid} {m : Mesh} {sign : SignMethod} {limit : ℕ} {field₀ field : List Float} {names₀ ds₀ cs₀ ts₀ names ds cs ts : List ℕ} {r₀ p p₁ : Progress}
    (a : Spreads g m sign limit field₀ names₀ ds₀ cs₀ ts₀ r₀ field names ds cs ts p) (is : p₁ ≡ popped_by limit p) where
  pub ends_spent : 0 < p.waiting → (p₁.number ≡ 0 → ⊥) → Told g m sign (λ G. spreading G limit) field₀ names₀ ds₀ cs₀ ts₀ r₀ field names ds cs ts p₁
  ends_spent some z = let e = was_spent limit p is z in rw (is ∙ sym (spent limit p e)) (spread_spent a some e)

  module _ (z : p₁.number ≡ 0) where
    pub fewer : p.pops < limit
    fewer = let n = was_left limit p is z in omega (arith, n, a.within)

    module _ {e : Entry} {ds₁ cs₁ ts₁ : List ℕ} (took : Taken (order_in m) e ds cs ts ds₁ cs₁ ts₁ p.waiting) where
      -- the others wait on
      pub still_held : Held by_keys ds₁ cs₁ ts₁ p₁.waiting
      still_held = rw (was_taken limit p is z) (rest_held p a.states took)

      pub pop : {field' : List Float} {names' ds' cs' ts' : List ℕ} {b : Batch} {r : Progress} → Fit g m → length ds₁ ≡ length ds → length field' ≡ length field → length names' ≡ length names
          → PopOffered g m sign e field names field' names' b → ToldByKeys (λ G. queue_all G b) field' names' ds₁ cs₁ ts₁ p₁ field' names' ds' cs' ts' r
          → Told g m sign (λ G s. take_first G goes s.waiting s) field names ds cs ts p field' names' ds' cs' ts' r
      unfolding run_input
      pop {field'} {names'} {ds'} {cs'} {ts'} {b} {r} fit l fl nl o w =
          let queued = subst (λ (x : Progress). ToldByKeys (λ G. queue_all G b) field' names' ds₁ cs₁ ts₁ x field' names' ds' cs' ts' r) (was_taken limit p is z) w in
          popped p a.states took fit l
          (record { field_long = fl ∙ a.holds.field_long; names_long = nl ∙ a.holds.names_long; held = w.held })
          (λ any. o.is (length ds₁) any (state_of by_keys field names ds₁ cs₁ ts₁ (one_taken p)) ∙ queued.is _ refl refl)
