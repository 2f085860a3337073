-- A loop of seeding along one axis: it makes the turns from `lo` to `hi`, piece by piece, and stops at the first that refuses. One law
-- for the loops along z, y and x. Assumes nothing.
use Prim.Native.Nat.{ℕ, ◌+◌, ◌≤◌}
use native.Mathlib.Omega.{arith}
use mathlib.Core.Path.{◌≡◌, refl, ◌∙◌}
use mathlib.Core.Logic.{◌⊎◌, inl, inr}
use mathlib.Core.List.{List}
use lib.ListN.{length}
use lib.Ieee.{Float}
use Rattle.lists.specs.Turns.{Turn, goes, between, through, told}
use Rattle.lists.proofs.Turns.{between_none, between_end}
use Rattle.run.specs.Run.{State}
use Rattle.run_seed_cells.specs.Parts.{seed_state}
use Rattle.run_seed_line.proofs.Pieces.{one_turn, piece_on, piece_stop}

-- The turns before k left `field` and `names`. At the end k is beyond `hi`; where `hi` is below `lo` no turn is made.
pub record Along (turn : ℕ → State → Turn State) (lo hi : ℕ) (field₀ : List Float) (names₀ : List ℕ) (field : List Float) (names : List ℕ) (k : ℕ) : Type 0 where
  pub from : lo ≤ k
  pub upto : (k ≡ lo) ⊎ (k ≤ hi + 1)
  pub field_long : length field ≡ length field₀
  pub names_long : length names ≡ length names₀
  pub left : between turn lo k (seed_state field₀ names₀) ≡ goes (seed_state field names)

module _ {turn : ℕ → State → Turn State} {lo hi : ℕ} {field₀ : List Float} {names₀ : List ℕ} where
  pub starts : Along turn lo hi field₀ names₀ field₀ names₀ lo
  starts =
      record {
        from = omega arith;
        upto = inl refl;
        field_long = refl;
        names_long = refl;
        left = between_none turn lo lo (seed_state field₀ names₀) (omega arith);
      }

  module _ {field : List Float} {names : List ℕ} {k : ℕ} (a : Along turn lo hi field₀ names₀ field names k) where
    -- a piece, from k to below m, that tells r
    pub goes_on : (field' : List Float) (names' : List ℕ) (m r : ℕ) → k ≤ m → m ≤ hi + 1
        → between turn k m (seed_state field names) ≡ told r (seed_state field' names') → r ≡ 0
        → length field' ≡ length field → length names' ≡ length names → Along turn lo hi field₀ names₀ field' names' m
    goes_on field' names' m r from upto piece zero f n =
        record {
          from = omega arith;
          upto = inr upto;
          field_long = f ∙ a.field_long;
          names_long = n ∙ a.names_long;
          left = piece_on turn lo k m a.from from _ _ _ r a.left piece zero;
        }

    pub stops : (field' : List Float) (names' : List ℕ) (m r : ℕ) → k ≤ m → m ≤ hi + 1
        → between turn k m (seed_state field names) ≡ told r (seed_state field' names') → (r ≡ 0 → ⊥)
        → through turn lo hi (seed_state field₀ names₀) ≡ told r (seed_state field' names')
    stops field' names' m r from upto piece nonzero =
        piece_stop turn lo k m a.from from (hi + 1) _ _ _ _ r a.left piece nonzero upto

    -- a piece of one turn, k's own
    module _ (field' : List Float) (names' : List ℕ) (r : ℕ) (low : k ≤ hi) (one : turn k (seed_state field names) ≡ told r (seed_state field' names')) where
      pub turn_goes_on : r ≡ 0 → length field' ≡ length field → length names' ≡ length names → Along turn lo hi field₀ names₀ field' names' (k + 1)
      turn_goes_on = goes_on field' names' (k + 1) r (omega arith) (omega arith) (one_turn turn k (seed_state field names) ∙ one)

      pub turn_stops : (r ≡ 0 → ⊥) → through turn lo hi (seed_state field₀ names₀) ≡ told r (seed_state field' names')
      turn_stops = stops field' names' (k + 1) r (omega arith) (omega arith) (one_turn turn k (seed_state field names) ∙ one)

    pub ends : hi + 1 ≤ k → through turn lo hi (seed_state field₀ names₀) ≡ told 0 (seed_state field names)
    ends past = between_end turn lo k (hi + 1) _ _ a.from past a.upto a.left
