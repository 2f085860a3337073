-- "The job program reads key=value lines in a fixed order from standard input." (document 01, "One job, one listing"). A job as its text
-- gives it, its text, and what the program takes. A float is the bit pattern that the text has. Definitions only.
use Rattle.std.specs.Prelude.{ℕ, ◌*◌, ◌^◌, ◌<◌, ◌≤◌, List, [], ◌∷◌, ◌++◌, length}
use Rattle.mesh_topology.specs.declared.Topology.{Topology}
use Rattle.mesh_topology.specs.declared.Topology.TheVariants.{TriangleList, TriangleStrip}
use Rattle.mesh_topology.specs.declared.Indices.{Indices}
use Rattle.mesh_topology.specs.declared.Indices.TheVariants as Are
use Rattle.terms.specs.declared.SignMethod.{SignMethod}
use Rattle.terms.specs.declared.SignMethod.TheVariants.{Raycast, Normal}
use Rattle.text.specs.declared.Form.{Form}
use Rattle.text.specs.declared.Form.TheVariants.{Decimal, Hex8}
use Rattle.text.specs.declared.Three.{Three}
use Rattle.point.specs.declared.Axis.{Axis}
use Rattle.point.specs.declared.Axis.TheVariants.{X, Y, Z}
use Rattle.text.specs.declared.Head.{Head}
use Rattle.std.specs.Prelude.{Option, Some, None}
use Rattle.text.specs.declared.Tail.{Tail}
use Rattle.text.specs.Words.{bytes, decimal, hex8, spaced, line, lines}
use Rattle.text.specs.Limits.{most_vertices, most_indices, most_cells, most_entries}

-- "Indices may be `indices=none` with no `i` lines."
pub data TextIndices : Type 0 where
  none : TextIndices
  these : List ℕ → TextIndices

pub record TextJob : Type 0 where
  -- the counts, the bits of the first cell's centre and of the cell size, what is said of the upright axis, the topology, and the method of
  -- the signs
  pub head : Head
  -- the bits of each vertex
  pub vertices : List Three
  pub indices : TextIndices
  -- the queue room, the pop limit, and what is said of the table's edition
  pub tail : Tail

-- a number in either form
abbrev pub spelled : Form → ℕ → List ℕ
spelled Decimal n = decimal n
spelled Hex8 n = hex8 n

abbrev pub three_text : Form → Three → List ℕ
three_text f t = spaced (spelled f t.x) (spelled f t.y) (spelled f t.z)

abbrev pub numbers : Three → List ℕ
numbers t = three_text Decimal t

abbrev pub floats : Three → List ℕ
floats t = three_text Hex8 t

-- "A job may have `upright=x`, `y` or `z` after `size=`; without the line it is z." (document 02, §9): no other spelling. A text with the line
-- `upright=z` is not that without a line, so that nothing was said is a value of its own.
abbrev pub upright_text : Option Axis → List ℕ
upright_text None = []
upright_text (Some X) = line "upright=" (bytes "x")
upright_text (Some Y) = line "upright=" (bytes "y")
upright_text (Some Z) = line "upright=" (bytes "z")

-- "The topology is `list` or `strip`."
abbrev pub topology_text : Topology → List ℕ
topology_text TriangleList = bytes "list"
topology_text TriangleStrip = bytes "strip"

-- "A job asks for it by a line sign=normal after the topology line; without one it is Raycast." (document 02, §8): no other spelling
abbrev pub sign_text : SignMethod → List ℕ
sign_text Raycast = []
sign_text Normal = line "sign=" (bytes "normal")

-- the lines before the vertices
unfoldable pub head_text : Head → List ℕ
head_text h =
    line "count=" (numbers h.count)
    ++ line "first=" (floats h.first)
    ++ line "size=" (floats h.size)
    ++ upright_text h.upright
    ++ line "topology=" (topology_text h.topology)
    ++ sign_text h.sign

abbrev pub vertex_line : Three → List ℕ
vertex_line v = line "v=" (floats v)

unfoldable pub vertices_text : List Three → List ℕ
vertices_text vs = line "vertices=" (decimal (length vs)) ++ lines vertex_line vs

abbrev pub index_line : ℕ → List ℕ
index_line i = line "i=" (decimal i)

unfoldable pub indices_text : TextIndices → List ℕ
indices_text none = line "indices=" (bytes "none")
indices_text (these is) = line "indices=" (decimal (length is)) ++ lines index_line is

-- "The job has `table=1` or `table=2` as its last line, and a job without it is edition 1. .. any other edition is 14" (document 02, §11): any
-- number may be said, since a job of another edition is answered 14 and not 9. A text with the line `table=1` is not that without a line, so
-- that nothing was said is a value of its own.
abbrev pub table_text : Option ℕ → List ℕ
table_text None = []
table_text (Some n) = line "table=" (decimal n)

-- the lines after the indices
unfoldable pub tail_text : Tail → List ℕ
tail_text t = line "queue=" (decimal t.room) ++ line "pops=" (decimal t.limit) ++ table_text t.table

-- the lines "in a fixed order", "nothing after the last"
unfoldable pub job_text : TextJob → List ℕ
job_text j = head_text j.head ++ vertices_text j.vertices ++ indices_text j.indices ++ tail_text j.tail

-- ---- what it stands for

-- the number of the upright axis: 0 x, 1 y, 2 z; "without the line it is z"
abbrev pub upright_meant : Option Axis → ℕ
upright_meant None = 2
upright_meant (Some X) = 0
upright_meant (Some Y) = 1
upright_meant (Some Z) = 2

-- the edition of the layer table: "a job without it is edition 1"
abbrev pub table_meant : Option ℕ → ℕ
table_meant None = 1
table_meant (Some n) = n

-- the indices of a text, which are none without them
abbrev pub index_list : TextIndices → List ℕ
index_list none = []
index_list (these is) = is

abbrev pub given_of : TextIndices → Indices
given_of none = Are.None
given_of (these is) = Are.Given

-- the bits of the coordinates, "three f32 each": x, y and z of each vertex in turn
unfoldable pub flat : List Three → List ℕ
flat [] = []
flat (v ∷ vs) = v.x ∷ v.y ∷ v.z ∷ flat vs

-- ---- what the program takes

-- a number of the text is "up to 4,294,967,295", and a bit pattern has 32 bits
abbrev pub Word : ℕ → Type 0
Word n = n < 2 ^ 32

pub record Words (t : Three) : Type 0 where
  pub x_fits : Word t.x
  pub y_fits : Word t.y
  pub z_fits : Word t.z

-- what holds of each element of a list
unfoldable pub All : {A : Type 0} → (A → Type 0) → List A → Type 0
All P [] = Unit
All P (x ∷ xs) = P x × All P xs

-- the program's own limits (Limits.antt), by the parts of a text

-- cells are the product of the counts, which may be 0
abbrev pub cells_of : Three → ℕ
cells_of n = n.x * n.y * n.z

pub record HeadFits (h : Head) : Type 0 where
  pub counts_fit : Words h.count
  pub cells_few : cells_of h.count ≤ most_cells
  pub first_fits : Words h.first
  pub size_fits : Words h.size

pub record VerticesFit (vs : List Three) : Type 0 where
  pub few : length vs ≤ most_vertices
  pub fit : All Words vs

pub record IndicesFit (t : Topology) (l : TextIndices) : Type 0 where
  pub few : length (index_list l) ≤ most_indices t
  pub fit : All Word (index_list l)

-- of an edition that is said
abbrev pub TableFits : Option ℕ → Type 0
TableFits None = Unit
TableFits (Some n) = Word n

pub record TailFits (t : Tail) : Type 0 where
  pub room_few : t.room ≤ most_entries
  pub limit_fits : Word t.limit
  pub table_fits : TableFits t.table

pub record Readable (j : TextJob) : Type 0 where
  pub head_fits : HeadFits j.head
  pub vertices_fit : VerticesFit j.vertices
  pub indices_fit : IndicesFit j.head.topology j.indices
  pub tail_fits : TailFits j.tail
