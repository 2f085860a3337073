-- "The run, from document 000" (document 01), steps 1 to 3, in the words of that section and over what the run is told of the grid,
-- the mesh and the lent queue: which cells a triangle's snapped box has, how far a triangle is from a cell, which cells lie around a
-- cell, which entry is taken first. Input.antt says what these are for a job. Definitions only.
use Rattle.std.specs.Prelude.{ℕ, zero, suc, ◌+◌, max, Bool, List, [], ◌∷◌, ltb, length, get_or, set, replicate, Float, if◌then◌else◌}
use Rattle.std.specs.Float.{nan}
use Rattle.std.specs.Float.Ieee.{is_nan}
use Rattle.float.specs.Arith.{◌≺◌, f_max}
use Rattle.float_order.specs.Nearer.{nearer, key_of}
use Rattle.lists.specs.Turns.{Turn, goes, refuses, and_then, turns, through}
use Rattle.grid.specs.declared.Cell.{Cell}
use Rattle.queue.specs.declared.Entry.{Entry}
use Rattle.queue.specs.InOrder.{insert}

-- a cell by its index, or a place off the grid
pub data Place : Type 0 where
  off : Place
  at : ℕ → Place

-- the cells of a snapped box: the first and the last
pub record Box : Type 0 where
  pub low : Cell
  pub high : Cell

-- what the run is told
pub record RunInput : Type 0 where
  -- how many cells and how many triangles there are
  pub cells : ℕ
  pub triangles : ℕ
  -- the index of the cell (x, y, z)
  pub index : ℕ → ℕ → ℕ → ℕ
  -- the snapped box of a triangle
  pub box : ℕ → Box
  -- the distance of a triangle from the centre of a cell: `distance k c`
  pub distance : ℕ → ℕ → Float
  -- where a step of the table leads from a cell: `around c j`
  pub around : ℕ → ℕ → Place
  -- whether an entry is taken no later than another
  pub goes_first : Entry → Entry → Bool
  -- the queue's room, and the pop limit
  pub room : ℕ
  pub limit : ℕ

-- what a run has reached: the distance that each cell holds and the triangle that it names, the entries that wait in the order in
-- which they are taken, the entries taken so far, and the most that waited at once
pub record State : Type 0 where
  pub field : List Float
  pub names : List ℕ
  pub waiting : List Entry
  pub pops : ℕ
  pub peak : ℕ

-- the name of no triangle, 4,294,967,295
abbrev pub none : ℕ
none = 0xffff_ffff

-- "f32::MAX at first"
unfoldable pub at_first : ℕ → State
at_first cells = record { field = replicate cells f_max; names = replicate cells none; waiting = []; pops = 0; peak = 0 }

-- what cell c holds, and which triangle it names
abbrev pub held : State → ℕ → Float
held s c = get_or s.field c nan

abbrev pub named : State → ℕ → ℕ
named s c = get_or s.names c 0

-- ---- an offer

-- "the queue has an order of its own: magnitude, then positive first, then larger cell" (document 02, §8): an entry has its distance's key
abbrev pub entry : Float → ℕ → ℕ → Entry
entry d c k = record { distance = key_of d; cell = c; triangle = k }

-- cell c takes triangle k, which is d away
abbrev pub takes : ℕ → ℕ → Float → State → State
takes c k d s = record { field = set s.field c d; names = set s.names c k; waiting = s.waiting; pops = s.pops; peak = s.peak }

-- Triangle k, d away, is offered to cell c: "takes the triangle if its distance is smaller than what it holds", by "`compare_distances` in
-- full". Refusal 6, "a distance met in seeding or spreading is NaN", is tested at each distance. `also` is what else a cell does that takes it.
unfoldable pub offer_at : (Entry → State → Turn State) → ℕ → ℕ → Float → State → Turn State
offer_at also k c d s = if is_nan d then refuses 6 else (if nearer d (held s c) then also (entry d c k) (takes c k d s) else goes s)

unfoldable pub offer : RunInput → (Entry → State → Turn State) → ℕ → ℕ → State → Turn State
offer g also k c s = offer_at also k c (g.distance k c) s

-- ---- 1. Seeding

-- a cell that takes a triangle in seeding does nothing else
abbrev pub nothing_else : Entry → State → Turn State
nothing_else e s = goes s

-- "The cells from first to last, ends included": along z, along y and z, and along all three axes
unfoldable pub seed_line : RunInput → ℕ → ℕ → ℕ → State → Turn State
seed_line g k x y s = through (λ z. offer g nothing_else k (g.index x y z)) (g.box k).low.z (g.box k).high.z s

unfoldable pub seed_plane : RunInput → ℕ → ℕ → State → Turn State
seed_plane g k x s = through (λ y. seed_line g k x y) (g.box k).low.y (g.box k).high.y s

unfoldable pub seed_triangle : RunInput → ℕ → State → Turn State
seed_triangle g k s = through (λ x. seed_plane g k x) (g.box k).low.x (g.box k).high.x s

-- "Triangles in order"
unfoldable pub seeding : RunInput → Turn State
seeding g = turns (seed_triangle g) g.triangles (at_first g.cells)

-- ---- 2. Queueing

abbrev pub queued : RunInput → Entry → State → State
queued g e s =
    record {
      field = s.field;
      names = s.names;
      waiting = insert g.goes_first e s.waiting;
      pops = s.pops;
      peak = max s.peak (length s.waiting + 1);
    }

-- refusal 7, "an entry must be queued and the queue room is full", is tested at each queueing
unfoldable pub queue : RunInput → Entry → State → Turn State
queue g e s = if ltb (length s.waiting) g.room then goes (queued g e s) else refuses 7

-- "each cell below f32::MAX is one entry"
unfoldable pub queue_cell : RunInput → ℕ → State → Turn State
queue_cell g c s = if held s c ≺ f_max then queue g (entry (held s c) c (named s c)) s else goes s

-- "by cell index"
unfoldable pub queueing : RunInput → State → Turn State
queueing g s = turns (queue_cell g) g.cells s

-- ---- 3. Spreading

-- "A cell that finds it smaller takes it and queues an entry"
unfoldable pub spread_to : RunInput → Entry → Place → State → Turn State
spread_to g e off s = goes s
spread_to g e (at c) s = offer g (queue g) e.triangle c s

-- "Its triangle is offered to the cells around, itself included, by a fixed table of 27 steps"
unfoldable pub spread_around : RunInput → Entry → State → Turn State
spread_around g e s = turns (λ j. spread_to g e (g.around e.cell j)) 27 s

-- an entry is taken, and w are left
abbrev pub taken : List Entry → State → State
taken w s = record { field = s.field; names = s.names; waiting = w; pops = s.pops + 1; peak = s.peak }

-- The first of the waiting entries is taken and spreads, and `on` follows; with none waiting the run is over. Refusal 8, "entries wait
-- and the pops taken equal the limit", is tested before each pop.
unfoldable pub take_first : RunInput → (State → Turn State) → List Entry → State → Turn State
take_first g on [] s = goes s
take_first g on (e ∷ w) s = and_then (spread_around g e (taken w s)) on

unfoldable pub limit_reached : List Entry → State → Turn State
limit_reached [] s = goes s
limit_reached (e ∷ w) s = refuses 8

-- with so many pops left
unfoldable pub spreading : RunInput → ℕ → State → Turn State
spreading g zero s = limit_reached s.waiting s
spreading g (suc left) s = take_first g (spreading g left) s.waiting s

-- ---- the whole run

unfoldable pub run : RunInput → Turn State
run g = and_then (seeding g) (λ s. and_then (queueing g s) (spreading g g.limit))
