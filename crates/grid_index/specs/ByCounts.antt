-- "Index of (x, y, z): z + y·nz + x·ny·nz; the way back is its inverse." (document 01, "Grid"), and the bound on the product of the counts
-- ("Bounds on a job"): over plain numbers, of nx, ny and nz cells along the axes. What a grid has of these is in `grid`, Index and Bounds.
-- Definitions only.
use Rattle.std.specs.Prelude.{Bool, ◌&&◌, ℕ, ◌+◌, ◌*◌, ◌/◌, ◌%◌, leb}

abbrev pub index_by : ℕ → ℕ → ℕ → ℕ → ℕ → ℕ
index_by ny nz x y z = z + y * nz + x * ny * nz

-- the x, the y and the z of an index
abbrev pub x_by : ℕ → ℕ → ℕ → ℕ
x_by ny nz i = i / (ny * nz)

abbrev pub y_by : ℕ → ℕ → ℕ → ℕ
y_by ny nz i = i / nz % ny

abbrev pub z_by : ℕ → ℕ → ℕ
z_by nz i = i % nz

-- "product of counts | 1 to 1,048,576"
abbrev pub is_total : ℕ → Bool
is_total n = leb 1 n && leb n 1048576
