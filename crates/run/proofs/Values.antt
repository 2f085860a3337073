-- What the cells of a run hold: each is bare, with f32::MAX and no triangle, or has a triangle below f32::MAX, at that triangle's
-- distance. Values are compared by their heights, and a cell that takes a triangle holds what is nearer than before. Assumes nothing but
-- what the record `Fair` asks of the input.
use Prim.Native.Nat.{ℕ, ◌≤◌, ◌<◌}
use native.Mathlib.Decide.{ℕ_discrete}
use native.Mathlib.Omega.{arith}
use mathlib.Core.Path.{◌≡◌, refl, sym, ap, ◌∙◌}
use mathlib.Core.Bool.{true, false, not, true≢false}
use mathlib.Core.List.{List}
use lib.Dec.{T, lit≤}
use lib.ListN.{get_or, set, replicate, length-set, length-replicate, get_or-replicate}
use lib.Seq.{get_or-set_other}
use lib.Ieee.{Float, nan, is_nan, binary32, fits}
use borrow.Author.Tests.{le-ltb}
use Rattle.float.specs.Arith.{◌≺◌, f_max}
use Rattle.float.specs.Distance.{Distance}
use Rattle.float.proofs.Order.{bits_distance, bits_lt, distance_no_nan}
use Rattle.float_order.specs.Nearer.{nearer, height}
use Rattle.float_order.specs.Total.{Value}
use Rattle.float_order.proofs.Nearer.{nearer_below}
use Rattle.float_order.proofs.Height.{height_less, height_not_less, height_nearer}
use Rattle.lists.proofs.Table.{stored_at}
use Rattle.run.specs.Run.{RunInput, at, none}
use Rattle.run.specs.Good.{CellHolds, is_bare, has, FieldSound, Falls}
use Rattle.run.proofs.Ways.{no_nan}

-- what the laws of a run ask of what it is told
pub record Fair (g : RunInput) : Type 0 where
  -- no triangle has the name of none
  pub few : g.triangles ≤ none
  -- distances are values of binary32
  pub distances : (k c : ℕ) → T (fits binary32 (g.distance k c))
  -- the steps from a cell, and the cells of a snapped box, are on the grid
  pub steps_on : (c j d : ℕ) → c < g.cells → g.around c j ≡ at d → d < g.cells
  pub boxes_on : (k x y z : ℕ) → k < g.triangles → x ≤ (g.box k).high.x → y ≤ (g.box k).high.y → z ≤ (g.box k).high.z → g.index x y z < g.cells

pub falls_on : (g : RunInput) (a b c : List Float) → Falls g a b → Falls g b c → Falls g a c
falls_on g a b c p q i l = omega (arith, p i l, q i l)

-- triangle k was met at cell c: its distance is a number, and the cell holds nothing farther
pub record Met (g : RunInput) (field : List Float) (k c : ℕ) : Type 0 where
  pub number : is_nan (g.distance k c) ≡ false
  pub least : height (get_or field c nan) ≤ height (g.distance k c)

pub met_on : (g : RunInput) (a b : List Float) (k c : ℕ) → c < g.cells → Falls g a b → Met g a k c → Met g b k c
met_on g a b k c l p m = record { number = m.number; least = omega (arith, p c l, m.least) }

-- triangle k, whose distance is a number, is nearer to cell c than what the cell holds
pub record Nearer (g : RunInput) (field : List Float) (k c : ℕ) : Type 0 where
  pub number : is_nan (g.distance k c) ≡ false
  pub less : nearer (g.distance k c) (get_or field c nan) ≡ true

-- cell c takes triangle k, in place of what it holds: it holds what is nearer, and the other cells' names are kept
pub record Took (g : RunInput) (field : List Float) (names : List ℕ) (k c : ℕ) : Type 0 where
  pub less : height (g.distance k c) < height (get_or field c nan)
  pub sound : FieldSound g (set field c (g.distance k c)) (set names c k)
  pub falls : Falls g field (set field c (g.distance k c))
  pub met : Met g (set field c (g.distance k c)) k c
  pub name : (i : ℕ) → i ≡ c → get_or (set names c k) i 0 ≡ k
  pub other_names : (i : ℕ) → (i ≡ c → ⊥) → get_or (set names c k) i 0 ≡ get_or names i 0

-- ---- f32::MAX

pub max_distance : Distance f_max
max_distance = bits_distance 0x7f7f_ffff (lit≤ tt)

abbrev pub max_value : Value
max_value = record { float = f_max; held = max_distance.held; number = distance_no_nan f_max max_distance }

pub max_not_less : (f_max ≺ f_max) ≡ false
max_not_less = bits_lt 0x7f7f_ffff 0x7f7f_ffff (lit≤ tt) (lit≤ tt) ∙ le-ltb 0x7f7f_ffff 0x7f7f_ffff (lit≤ tt)

-- ---- a state at the start

pub sound_bare : (g : RunInput) → FieldSound g (replicate g.cells f_max) (replicate g.cells none)
sound_bare g =
    record {
      field_long = length-replicate g.cells f_max;
      names_long = length-replicate g.cells none;
      each = λ c l. is_bare (get_or-replicate g.cells c f_max nan l) (get_or-replicate g.cells c none 0 l);
    }

-- ---- what a sound state says of a cell

module _ (g : RunInput) (F : Fair g) where
  -- a distance that is a number, and what a cell holds, as values
  abbrev pub distance_at : (k c : ℕ) → is_nan (g.distance k c) ≡ false → Value
  distance_at k c n = record { float = g.distance k c; held = F.distances k c; number = no_nan (g.distance k c) n }

  pub holds_value : {d : Float} {k c : ℕ} → CellHolds g d k c → T (fits binary32 d) × T (not (is_nan d))
  holds_value (is_bare e n) = rw e (max_value.held, max_value.number)
  holds_value {d} {k} {c} (has l e n b) = (rw e (F.distances k c), no_nan d n)

  abbrev pub held_by : {d : Float} {k c : ℕ} → CellHolds g d k c → Value
  held_by {d} h = record { float = d; held = (holds_value h).0; number = (holds_value h).1 }

  -- no cell holds what is farther than f32::MAX
  pub holds_at_most_max : {d : Float} {k c : ℕ} → CellHolds g d k c → height d ≤ height f_max
  holds_at_most_max (is_bare e n) = rw e (omega arith)
  holds_at_most_max (has l e n b) = omega (arith, height_less (held_by (has l e n b)) max_value b)

  -- a cell that names a triangle has it
  pub has_named : {d : Float} {k c : ℕ} → CellHolds g d k c → k < g.triangles → (d ≡ g.distance k c) × (is_nan d ≡ false) × ((d ≺ f_max) ≡ true)
  has_named (is_bare e n) l = absurd (omega (arith, F.few))
  has_named {d} (has m e n b) l = (e, n, nearer_below d b)

  -- and so does one below f32::MAX
  pub has_below : {d : Float} {k c : ℕ} → CellHolds g d k c → (d ≺ f_max) ≡ true → (k < g.triangles) × (d ≡ g.distance k c) × (is_nan d ≡ false)
  has_below (is_bare e n) b = absurd (true≢false (sym b ∙ ap (λ (x : Float). x ≺ f_max) e ∙ max_not_less))
  has_below (has m e n b) h = (m, e, n)

  -- ---- a cell takes a triangle

  -- what is nearer than a cell's value is nearer than f32::MAX
  below_max : {v : Float} {n c : ℕ} → CellHolds g v n c → (d : Value) → nearer d.float v ≡ true → nearer d.float f_max ≡ true
  below_max h d l = height_nearer d max_value (omega (arith, height_less d (held_by h) l, holds_at_most_max h))

  module _ (field : List Float) (names : List ℕ) (k c : ℕ) (S : FieldSound g field names) (kl : k < g.triangles) (cl : c < g.cells) (N : Nearer g field k c) where
    takes_less : height (g.distance k c) < height (get_or field c nan)
    takes_less = height_less (distance_at k c N.number) (held_by (S.each c cl)) N.less

    stored : (i : ℕ) → i ≡ c → get_or (set field c (g.distance k c)) i nan ≡ g.distance k c
    stored i e = stored_at nan field c i (g.distance k c) (omega (arith, S.field_long)) e

    takes_sound : FieldSound g (set field c (g.distance k c)) (set names c k)
    takes_sound =
        record {
          field_long = length-set field c (g.distance k c) ∙ S.field_long;
          names_long = length-set names c k ∙ S.names_long;
          each = λ i l. at_cell i l (ℕ_discrete i c);
        }
      where
        at_cell : (i : ℕ) → i < g.cells → Dec (i ≡ c) → CellHolds g (get_or (set field c (g.distance k c)) i nan) (get_or (set names c k) i 0) i
        at_cell i l (yes e) =
            let name = stored_at 0 names c i k (omega (arith, S.names_long)) e in
            rw (stored i e, name, e) (has kl refl N.number (below_max (S.each c cl) (distance_at k c N.number) N.less))
        at_cell i l (no n) = rw (get_or-set_other field c i (g.distance k c) nan n, get_or-set_other names c i k 0 n) (S.each i l)

    takes_falls : Falls g field (set field c (g.distance k c))
    takes_falls i l = go (ℕ_discrete i c)
      where
        go : Dec (i ≡ c) → height (get_or (set field c (g.distance k c)) i nan) ≤ height (get_or field i nan)
        go (yes e) = rw (stored i e, e) (omega (arith, takes_less))
        go (no n) = rw (get_or-set_other field c i (g.distance k c) nan n) (omega arith)

    takes_met : Met g (set field c (g.distance k c)) k c
    takes_met = record { number = N.number; least = rw (stored c refl) (omega arith) }

    pub took : Took g field names k c
    took =
        record {
          less = takes_less;
          sound = takes_sound;
          falls = takes_falls;
          met = takes_met;
          name = λ i e. stored_at 0 names c i k (omega (arith, S.names_long)) e;
          other_names = λ i n. get_or-set_other names c i k 0 n;
        }

  -- a cell that does not find a triangle nearer holds nothing farther
  pub passes_met : (field : List Float) (names : List ℕ) (k c : ℕ) → FieldSound g field names → c < g.cells → is_nan (g.distance k c) ≡ false
      → nearer (g.distance k c) (get_or field c nan) ≡ false → Met g field k c
  passes_met field names k c S cl n h = record { number = n; least = height_not_less (distance_at k c n) (held_by (S.each c cl)) h }
