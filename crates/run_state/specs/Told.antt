-- How the functions of this crate tell what they did: the lent slices and a `Progress` hold a state of the run, before and after, and
-- the run of the definitions leads from the one to the other. Definitions only.
use Rattle.std.specs.Prelude.{ℕ, ◌≤◌, ◌<◌, ◌≡◌, Bool, true, List, length, Float}
use Rattle.lists.specs.Turns.{Turn, turns, told}
use Rattle.terms.specs.declared.SignMethod.{SignMethod}
use Rattle.grid.specs.declared.Grid.{Grid}
use Rattle.grid.specs.Index.{total}
use Rattle.grid.specs.Bounds.{in_bounds}
use Rattle.mesh.specs.Mesh.{Mesh, Sound, vertex_count, triangles_in}
use Rattle.queue.specs.declared.Entry.{Entry}
use Rattle.queue.specs.Order.{order_of}
use Rattle.queue.specs.Keys.{by_keys}
use Rattle.queue.specs.Queue.{Held, waiting}
use Rattle.run.specs.Run.{RunInput, State, queue, queue_cell}
use Rattle.run.specs.Input.{run_input}
use Rattle.run.specs.Good.{Good}
use Rattle.run_state.specs.declared.Progress.{Progress}

-- the same, refused by a number
abbrev pub refused_by : ℕ → Progress → Progress
refused_by number p = record { number = number; waiting = p.waiting; pops = p.pops; peak = p.peak }

-- ---- what is lent

-- the order of the entries of a mesh
abbrev pub order_in : Mesh → Entry → Entry → Bool
order_in m = order_of m.topology m.given m.indices (vertex_count m.vertices)

-- the state that the lent field, names and queue and the counts hold
abbrev pub state_of : (Entry → Entry → Bool) → List Float → List ℕ → List ℕ → List ℕ → List ℕ → Progress → State
state_of le field names ds cs ts p =
    record { field = field; names = names; waiting = waiting le ds cs ts p.waiting; pops = p.pops; peak = p.peak }

-- a grid and a mesh that refusals 1 to 4 leave
pub record Ready (g : Grid) (m : Mesh) : Type 0 where
  pub bounded : in_bounds g ≡ true
  pub sound : Sound m

-- the same, with few triangles: what refusals 1 to 4 leave in all
pub record Fit (g : Grid) (m : Mesh) : Type 0 where
  pub ready : Ready g m
  pub few : length (triangles_in m) ≤ 131072

-- an entry of a cell of the grid and a triangle of the mesh
pub record Known (cells triangles : ℕ) (e : Entry) : Type 0 where
  pub cell_below : e.cell < cells
  pub triangle_below : e.triangle < triangles

-- the slices are of the right lengths and hold n waiting entries
pub record Holds (g : Grid) (field : List Float) (names ds cs ts : List ℕ) (n : ℕ) : Type 0 where
  pub field_long : length field ≡ total g
  pub names_long : length names ≡ total g
  pub held : Held by_keys ds cs ts n

-- and with the counts they hold a state of the run: what is true of every such state is true of it, whatever the pop limit
pub record GoodIn (g : Grid) (m : Mesh) (sign : SignMethod) (field : List Float) (names ds cs ts : List ℕ) (p : Progress) : Type 0 where
  pub good : (any : ℕ) → Good (run_input g m sign (length ds) any) (state_of (order_in m) field names ds cs ts p)

-- the slices where a run has ended: nothing waits unless it was refused
pub record Ran (g : Grid) (field : List Float) (names ds cs ts : List ℕ) (p : Progress) : Type 0 where
  pub holds : Holds g field names ds cs ts p.waiting
  pub over : p.number ≡ 0 → p.waiting ≡ 0

-- ---- what is told

-- A turn of the run over what is lent: the slices, which held field to ts and the counts at, hold in the end field' to ts' and r, which
-- is what the turn leaves, or it was refused. On a refusal the number alone says what the run came to. The input's pop limit is any:
-- no turn asks for it.
pub record Told (g : Grid) (m : Mesh) (sign : SignMethod) (turn : RunInput → State → Turn State)
    (field : List Float) (names ds cs ts : List ℕ) (at : Progress) (field' : List Float) (names' ds' cs' ts' : List ℕ) (r : Progress) : Type 0 where
  pub holds : Holds g field' names' ds' cs' ts' r.waiting
  pub is : (any : ℕ) → turn (run_input g m sign (length ds) any) (state_of (order_in m) field names ds cs ts at) ≡ told r.number (state_of (order_in m) field' names' ds' cs' ts' r)

-- The same of a turn that looks at nothing of the grid and the mesh: over every input of that room whose entries go by keys. In the run
-- of a job they go by all three keys, which comes to the same (proofs/Keys.antt).
pub record ToldByKeys (turn : RunInput → State → Turn State)
    (field : List Float) (names ds cs ts : List ℕ) (at : Progress) (field' : List Float) (names' ds' cs' ts' : List ℕ) (r : Progress) : Type 0 where
  pub held : Held by_keys ds' cs' ts' r.waiting
  pub is : (g : RunInput) → g.goes_first ≡ by_keys → g.room ≡ length ds
      → turn g (state_of by_keys field names ds cs ts at) ≡ told r.number (state_of by_keys field' names' ds' cs' ts' r)

-- and of an entry that is queued, whatever the field and the names are
abbrev pub Queued : Entry → List ℕ → List ℕ → List ℕ → Progress → List ℕ → List ℕ → List ℕ → Progress → Type 0
Queued e ds cs ts at ds' cs' ts' r =
    (field : List Float) (names : List ℕ) → ToldByKeys (λ g. queue g e) field names ds cs ts at field names ds' cs' ts' r

-- and of all cells, which leave the field and the names as they are
abbrev pub QueuedCells : List Float → List ℕ → List ℕ → List ℕ → List ℕ → Progress → List ℕ → List ℕ → List ℕ → Progress → Type 0
QueuedCells field names ds cs ts at ds' cs' ts' r =
    ToldByKeys (λ g. turns (queue_cell g) (length field)) field names ds cs ts at field names ds' cs' ts' r
