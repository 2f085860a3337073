-- The counts, by the tests of their functions. Assumes nothing.
use Rattle.std.specs.Prelude.{if◌then◌else◌}
use Prim.Native.Nat.{ℕ, ◌+◌, ◌-◌}
use mathlib.Core.Path.{◌≡◌, sym, ap}
use mathlib.Core.Bool.{Bool}
use borrow.Author.Tests.{eq-eqb, ne_eqb}
use Rattle.run_state.specs.declared.Progress.{Progress}
use Rattle.run_state.specs.Told.{refused_by}
use Rattle.entries_state.specs.Records.{stopped_by, popped_by}

pub was_stopped : (number : ℕ) (p : Progress) → (p.number ≡ 0 → ⊥) → p ≡ stopped_by number p
unfolding stopped_by
was_stopped number p z = ap (λ (t : Bool). if t then refused_by number p else p) (sym (ne_eqb p.number 0 z))

pub stops_now : (number : ℕ) (p : Progress) → p.number ≡ 0 → refused_by number p ≡ stopped_by number p
unfolding stopped_by
stops_now number p z = ap (λ (t : Bool). if t then refused_by number p else p) (sym (eq-eqb p.number 0 z))

pub spent : (limit : ℕ) (p : Progress) → p.pops ≡ limit → refused_by 8 p ≡ popped_by limit p
unfolding popped_by
spent limit p z = ap (λ (t : Bool). if t then refused_by 8 p else record { number = 0; waiting = p.waiting - 1; pops = p.pops + 1; peak = p.peak }) (sym (eq-eqb p.pops limit z))

pub one_taken_lem : (limit : ℕ) (p : Progress) → (p.pops ≡ limit → ⊥) → ◌≡◌ {A = Progress} (record { number = 0; waiting = p.waiting - 1; pops = p.pops + 1; peak = p.peak }) (popped_by limit p)
unfolding popped_by
one_taken_lem limit p z = ap (λ (t : Bool). if t then refused_by 8 p else record { number = 0; waiting = p.waiting - 1; pops = p.pops + 1; peak = p.peak }) (sym (ne_eqb p.pops limit z))
