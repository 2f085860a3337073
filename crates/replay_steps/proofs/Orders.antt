-- The 32 bits of an order, which are what a signed number is compared by. Assumes nothing.
use mathlib.Core.Path.{◌≡◌, refl, sym, ap, ◌∙◌}
use Prim.Native.Nat.{ℕ, zero, suc}
use lib.IntN.{ℤ, pos, negsuc}
use mir.Syntax.{w32}
use mir.Val.{SFits, to_z, of_z}
use mir.Facts.{to_z-of_z}
use Rattle.std.specs.Prelude.{Result, Ok, Err}
use Rattle.std.specs.declared.cmp.Ordering.{Ordering}
use Rattle.std.specs.declared.cmp.Ordering.TheVariants.{Less, Equal, Greater}
use Rattle.refusals.specs.declared.Refusal.{Refusal}
use Rattle.c_records.specs.C.{comparison}
use Rattle.replay_steps.specs.Geometry.{order_word}

pub word_of : (z : ℤ) (n : ℕ) → SFits w32 z → of_z w32 z ≡ n → order_word (to_z w32 n) ≡ order_word z
word_of z n f e = ap order_word (sym (ap (to_z w32) e) ∙ to_z-of_z f)

pub other_word : (z : ℤ) → (of_z w32 z ≡ 0 → ⊥) → (of_z w32 z ≡ 1 → ⊥) → 4294967295 ≡ order_word z
other_word (pos zero) h k = absurd (h refl)
other_word (pos (suc zero)) h k = absurd (k refl)
other_word (pos (suc (suc n))) h k = refl
other_word (negsuc n) h k = refl

-- an order comes back out of its bits
pub order_kept : (a : Result Ordering Refusal) → to_z w32 (of_z w32 (comparison a).order) ≡ (comparison a).order
unfolding comparison
order_kept (Err r) = refl
order_kept (Ok Less) = refl
order_kept (Ok Equal) = refl
order_kept (Ok Greater) = refl
