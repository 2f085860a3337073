-- A loop of turns that are told by keys, over the lent slices: it begins, goes on, stops or ends. The laws are those of `turns`; what is
-- added is that the slices keep their lengths and the queue goes on holding what waits. Assumes nothing.
use Prim.Native.Nat.{ℕ, ◌+◌, ◌<◌}
use mathlib.Core.Path.{◌≡◌, refl, sym, ◌∙◌, subst}
use mathlib.Core.List.{List}
use lib.ListN.{length}
use lib.Ieee.{Float}
use Rattle.lists.specs.Turns.{Turn, goes, told, turns}
use Rattle.lists.proofs.Turns.{told_goes, turns_none, turns_on, turns_stop}
use Rattle.grid.specs.declared.Grid.{Grid}
use Rattle.queue.specs.Keys.{by_keys}
use Rattle.queue.specs.Queue.{Held}
use Rattle.run.specs.Run.{RunInput, State}
use Rattle.run_state.specs.declared.Progress.{Progress}
use Rattle.run_state.specs.Told.{state_of, Holds, ToldByKeys}

-- ---- the lengths stay

pub record Alike (field field₀ : List Float) (names ds cs ts names₀ ds₀ cs₀ ts₀ : List ℕ) : Type 0 where
  pub field_same : length field ≡ length field₀
  pub names_same : length names ≡ length names₀
  pub distances_same : length ds ≡ length ds₀
  pub cells_same : length cs ≡ length cs₀
  pub triangles_same : length ts ≡ length ts₀

pub alike : {n n₀ : ℕ} {field field₀ : List Float} {names ds cs ts names₀ ds₀ cs₀ ts₀ : List ℕ} → length field ≡ length field₀ → length names ≡ length names₀
    → length ds ≡ length ds₀ → Held by_keys ds cs ts n → Held by_keys ds₀ cs₀ ts₀ n₀ → Alike field field₀ names ds cs ts names₀ ds₀ cs₀ ts₀
alike f m l h h₀ =
    record {
      field_same = f;
      names_same = m;
      distances_same = l;
      cells_same = h.even.cells ∙ l ∙ sym h₀.even.cells;
      triangles_same = h.even.triangles ∙ l ∙ sym h₀.even.triangles;
    }

-- so it is of slices that hold what waits on the grid
pub alike_held : {g : Grid} {n n₀ : ℕ} {field field₀ : List Float} {names ds cs ts names₀ ds₀ cs₀ ts₀ : List ℕ} → length ds ≡ length ds₀
    → Holds g field names ds cs ts n → Holds g field₀ names₀ ds₀ cs₀ ts₀ n₀ → Alike field field₀ names ds cs ts names₀ ds₀ cs₀ ts₀
alike_held l h h₀ = alike (h.field_long ∙ sym h₀.field_long) (h.names_long ∙ sym h₀.names_long) l h.held h₀.held

-- ---- a loop

-- the slices, which held field₀ to ts₀ and r₀, hold what k turns by `f 0`, `f 1` .. leave
pub record After (f : RunInput → ℕ → State → Turn State) (field₀ : List Float) (names₀ ds₀ cs₀ ts₀ : List ℕ) (r₀ : Progress) (k : ℕ)
    (field : List Float) (names ds cs ts : List ℕ) (r : Progress) : Type 0 where
  pub fine : r.number ≡ 0
  pub field_long : length field ≡ length field₀
  pub names_long : length names ≡ length names₀
  pub long : length ds ≡ length ds₀
  pub held : Held by_keys ds cs ts r.waiting
  pub is : (g : RunInput) → g.goes_first ≡ by_keys → g.room ≡ length ds₀
      → turns (f g) k (state_of by_keys field₀ names₀ ds₀ cs₀ ts₀ r₀) ≡ goes (state_of by_keys field names ds cs ts r)

module _ (f : RunInput → ℕ → State → Turn State) where
  pub begins : {field : List Float} {names ds cs ts : List ℕ} {r : Progress} → r.number ≡ 0 → Held by_keys ds cs ts r.waiting
      → After f field names ds cs ts r 0 field names ds cs ts r
  begins {field} {names} {ds} {cs} {ts} {r} z h =
      record {
        fine = z;
        field_long = refl;
        names_long = refl;
        long = refl;
        held = h;
        is = λ g o w. turns_none (f g) (state_of by_keys field names ds cs ts r);
      }

  module _ {k : ℕ} {field₀ field field' : List Float} {names₀ ds₀ cs₀ ts₀ names ds cs ts names' ds' cs' ts' : List ℕ} {r₀ r r' : Progress}
      (a : After f field₀ names₀ ds₀ cs₀ ts₀ r₀ k field names ds cs ts r) (t : ToldByKeys (λ g. f g k) field names ds cs ts r field' names' ds' cs' ts' r') where
    -- a turn, over the room of the loop
    turn : (g : RunInput) → g.goes_first ≡ by_keys → g.room ≡ length ds₀
        → f g k (state_of by_keys field names ds cs ts r) ≡ told r'.number (state_of by_keys field' names' ds' cs' ts' r')
    turn g o w = t.is g o (w ∙ sym a.long)

    pub goes_on : length field' ≡ length field → length names' ≡ length names → length ds' ≡ length ds → r'.number ≡ 0
        → After f field₀ names₀ ds₀ cs₀ ts₀ r₀ (k + 1) field' names' ds' cs' ts' r'
    goes_on fl nl l z =
        record {
          fine = z;
          field_long = fl ∙ a.field_long;
          names_long = nl ∙ a.names_long;
          long = l ∙ a.long;
          held = t.held;
          is = λ g o w.
              turns_on (f g) k (state_of by_keys field₀ names₀ ds₀ cs₀ ts₀ r₀)
              (state_of by_keys field names ds cs ts r) (state_of by_keys field' names' ds' cs' ts' r') r'.number (a.is g o w) (turn g o w) z;
        }

    pub stops : (end : ℕ) → (r'.number ≡ 0 → ⊥) → k < end → ToldByKeys (λ g. turns (f g) end) field₀ names₀ ds₀ cs₀ ts₀ r₀ field' names' ds' cs' ts' r'
    stops end z l =
        let u = state_of by_keys field' names' ds' cs' ts' r' in
        record {
          held = t.held;
          is = λ g o w.
              turns_stop (f g) k end (state_of by_keys field₀ names₀ ds₀ cs₀ ts₀ r₀)
              (state_of by_keys field names ds cs ts r) u u r'.number (a.is g o w) (turn g o w) z l;
        }

  pub ends : {k : ℕ} {field₀ field : List Float} {names₀ ds₀ cs₀ ts₀ names ds cs ts : List ℕ} {r₀ r : Progress} (end : ℕ)
      → After f field₀ names₀ ds₀ cs₀ ts₀ r₀ k field names ds cs ts r → k ≡ end
      → ToldByKeys (λ g. turns (f g) end) field₀ names₀ ds₀ cs₀ ts₀ r₀ field names ds cs ts r
  ends {k} {field₀} {field} {names₀} {ds₀} {cs₀} {ts₀} {names} {ds} {cs} {ts} {r₀} {r} end a e =
      let u = state_of by_keys field names ds cs ts r in
      record {
        held = a.held;
        is = λ g o w.
            subst (λ (n : ℕ). turns (f g) n (state_of by_keys field₀ names₀ ds₀ cs₀ ts₀ r₀) ≡ goes u) e (a.is g o w)
            ∙ sym (told_goes r.number u a.fine);
      }
