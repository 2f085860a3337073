-- What is true of every state of a run from the end of seeding on: each cell is bare or has a triangle of the job at its distance, what waits
-- is of the job, no two waiting entries agree in both distance and cell, and no more wait than there is room. No one need believe it: proofs/
-- shows it of every state (Seeding, Queueing and Spreading), and no promise rests on it unproved. It asks nothing of what distances are: how near
-- they are is compared by their heights, which order as `nearer` does, for either method of signs. Definitions only.
use Rattle.std.specs.Prelude.{ℕ, ◌≤◌, ◌<◌, ◌≡◌, true, false, length, get_or, Float}
use mathlib.Core.List.{List, Memᴰ}
use Rattle.std.specs.Float.{nan}
use Rattle.std.specs.Float.Ieee.{is_nan}
use Rattle.float.specs.Arith.{f_max}
use Rattle.float_order.specs.Nearer.{nearer, key_of, height}
use Rattle.queue.specs.declared.Entry.{Entry}
use Rattle.queue.specs.Keys.{Apart}
use Rattle.run.specs.Run.{RunInput, State, none}

-- ---- what the cells hold

-- cell c, which holds d and names k, is bare or has triangle k
pub data CellHolds (g : RunInput) (d : Float) (k c : ℕ) : Type 0 where
  is_bare : d ≡ f_max → k ≡ none → CellHolds g d k c
  has : k < g.triangles → d ≡ g.distance k c → is_nan d ≡ false → nearer d f_max ≡ true → CellHolds g d k c

-- so it is of every cell
pub record FieldSound (g : RunInput) (field : List Float) (names : List ℕ) : Type 0 where
  pub field_long : length field ≡ g.cells
  pub names_long : length names ≡ g.cells
  pub each : (c : ℕ) → c < g.cells → CellHolds g (get_or field c nan) (get_or names c 0) c

-- every cell holds what it held before or what is nearer
abbrev pub Falls : RunInput → List Float → List Float → Type 0
Falls g before after = (c : ℕ) → c < g.cells → height (get_or after c nan) ≤ height (get_or before c nan)

-- ---- what waits

-- an entry that waits: of a cell and a triangle of the job, with the key of its distance, and the cell holds nothing farther
pub record Waits (g : RunInput) (field : List Float) (x : Entry) : Type 0 where
  pub cell_on_lem : x.cell < g.cells
  pub triangle_is : x.triangle < g.triangles
  pub number : is_nan (g.distance x.triangle x.cell) ≡ false
  pub far : x.distance ≡ key_of (g.distance x.triangle x.cell)
  pub above : height (get_or field x.cell nan) ≤ height (g.distance x.triangle x.cell)

-- ---- a state

pub record Good (g : RunInput) (s : State) : Type 0 where
  pub sound : FieldSound g s.field s.names
  pub waits : (x : Entry) → Memᴰ x s.waiting → Waits g s.field x
  pub apart : Apart s.waiting
  pub in_peak : length s.waiting ≤ s.peak
  pub in_room : s.peak ≤ g.room
