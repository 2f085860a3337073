-- What the sums along the lines leave behind: each entry is the sum of its own and those after it on its line. Definitions only.
use Rattle.std.specs.Prelude.{ℕ, ◌+◌, ◌^◌, ◌≤◌, ◌<◌, ◌≡◌, Bool, cond, List, length, get_or, set}
use Rattle.point.specs.declared.Axis.{Axis}
use Rattle.grid.specs.declared.Grid.{Grid}
use Rattle.grid.specs.declared.Cell.{Cell}
use Rattle.grid.specs.Index.{Inside}
use Rattle.run.specs.Ends.{summed_back}
use Rattle.run_cross_lines.specs.Lines.{entry_of}

-- what stands for a cell on the axis
abbrev pub mark_of : Grid → List ℕ → Axis → Cell → ℕ
mark_of g l axis c = get_or l (entry_of g axis c) 0

-- every sum on the way is one of these, so that none passes 32 bits
abbrev pub SumsFit : Grid → List ℕ → Type 0
SumsFit g l = (axis : Axis) (c : Cell) → Inside g c → summed_back g axis (mark_of g l axis) c < 2 ^ 32

pub record SummedBack (g : Grid) (old new : List ℕ) : Type 0 where
  pub long : length new ≡ length old
  pub each : (axis : Axis) (c : Cell) → Inside g c → mark_of g new axis c ≡ summed_back g axis (mark_of g old axis) c

-- the entries from number e on are summed, and those before it are as they were
pub record SummedFrom (g : Grid) (old : List ℕ) (e : ℕ) (l : List ℕ) : Type 0 where
  pub long : length l ≡ length old
  pub done : (axis : Axis) (c : Cell) → Inside g c → e ≤ entry_of g axis c → mark_of g l axis c ≡ summed_back g axis (mark_of g old axis) c
  pub rest : (axis : Axis) (c : Cell) → Inside g c → entry_of g axis c < e → mark_of g l axis c ≡ mark_of g old axis c

-- one number of a list: to the one at a place is added the one so far `apart`, if there is `more` on its line
abbrev pub with_next : ℕ → ℕ → List ℕ → ℕ
with_next at apart l = get_or l at 0 + get_or l (at + apart) 0

abbrev pub next_added : ℕ → ℕ → Bool → List ℕ → List ℕ
next_added at apart more l = cond more (set l at (with_next at apart l)) l
