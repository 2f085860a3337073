-- Index and cell are inverse to each other, and in one order. A cell's index is (x·ny + y)·nz + z, a number with three digits, so
-- each law is one about a digit in front of another. Over plain numbers nx, ny, nz. Assumes nothing.
use mathlib.Core.Path.{◌≡◌, refl, sym, ap, ◌∙◌}
use mathlib.Core.Logic.{◌⊎◌, inl, inr}
use Prim.Native.Nat.{ℕ, ◌+◌, ◌*◌, ◌/◌, ◌%◌, ◌≤◌, ◌<◌}
use native.Mathlib.Nat.{add-mul, mul_assoc, mul_comm, zero-mul, mul-zero, mul-pos, mul-le-mul_right, lt_of_lt_of_le, mod-lt, mod-eq_of_lt, div-eq_of_lt, div-div-eq-div-mul, div-lt_iff_lt-mul, div-add-mod', mul-add-div_right, mul-add-mod_self_right, eq-zero-or-pos}
use native.Mathlib.Omega.{arith}
use Rattle.point.specs.declared.Axis.{Axis}
use Rattle.point.specs.declared.Axis.TheVariants.{X, Y, Z}
use Rattle.grid.specs.declared.Cell.{Cell}
use Rattle.grid.specs.Axes.{cell_on, pick, put}
use Rattle.grid.specs.Index.{index, coordinates, stride, Within}

-- ---- one digit in front of another
-- below m before, below n behind: below m·n
two_below : {q r m n : ℕ} → q < m → r < n → q * n + r < m * n
two_below {q} {r} {m} {n} h l = lt_of_lt_of_le (step (q * n) (add-mul q 1 n)) (mul-le-mul_right n (le h))
  where
    le : q < m → q + 1 ≤ m
    le h = omega arith

    step : (p : ℕ) → (q + 1) * n ≡ p + 1 * n → p + r < (q + 1) * n
    step p e = omega arith

pub front : (q : ℕ) {r n : ℕ} → r < n → (q * n + r) / n ≡ q
front q {r} {n} l = mul-add-div_right (pos_of l) q r ∙ omega (arith, div-eq_of_lt l)
  where
    pos_of : r < n → 0 < n
    pos_of h = omega arith

pub behind : (q : ℕ) {r n : ℕ} → r < n → (q * n + r) % n ≡ r
behind q {r} {n} l = mul-add-mod_self_right q n r ∙ mod-eq_of_lt l

-- ---- index and cell
-- the index with its digits nested
nested : (ny nz : ℕ) (c : Cell) → index ny nz c ≡ (c.x * ny + c.y) * nz + c.z
unfolding index
nested ny nz c = omega (arith, add-mul (c.x * ny) c.y nz)

-- the index of a cell is below the number of cells
pub index_below : {nx ny nz : ℕ} {c : Cell} → Within nx ny nz c → index ny nz c < nx * ny * nz
index_below {nx} {ny} {nz} {c} w = rw nested (two_below (two_below w.x_below w.y_below) w.z_below)

-- from a cell to its index and back
pub cell_of_index : {nx ny nz : ℕ} {c : Cell} → Within nx ny nz c → coordinates ny nz (index ny nz c) ≡ c
unfolding coordinates
cell_of_index {nx} {ny} {nz} {c} w =
    rw (nested, mul_comm ny nz, ← div-div-eq-div-mul, front (c.x * ny + c.y) w.z_below, front c.x w.y_below, behind c.x w.y_below, behind (c.x * ny + c.y) w.z_below)

-- from an index to its cell and back, for every index
pub index_of_cell : (ny nz i : ℕ) → index ny nz (coordinates ny nz i) ≡ i
unfolding coordinates
index_of_cell ny nz i = nested ny nz (coordinates ny nz i) ∙ rw (mul_comm ny nz, ← div-div-eq-div-mul, div-add-mod' (i / nz) ny, div-add-mod' i nz)

-- no cells along an axis, no cells
pub some_cells : (nx ny nz : ℕ) {i : ℕ} → i < nx * ny * nz → (0 < ny) × (0 < nz)
some_cells nx ny nz {i} h = (go_y (eq-zero-or-pos ny), go_z (eq-zero-or-pos nz))
  where
    none : (n : ℕ) → i < n → n ≡ 0 → ⊥
    none n h e = omega arith

    go_y : (ny ≡ 0) ⊎ (0 < ny) → 0 < ny
    go_y (inl e) = absurd (none (nx * ny * nz) h (rw (e, mul-zero, zero-mul)))
    go_y (inr p) = p

    go_z : (nz ≡ 0) ⊎ (0 < nz) → 0 < nz
    go_z (inl e) = absurd (none (nx * ny * nz) h (rw (e, mul-zero)))
    go_z (inr p) = p

-- the cell of an index below the number of cells is within the counts
pub cell_within : {nx ny nz i : ℕ} → i < nx * ny * nz → Within nx ny nz (coordinates ny nz i)
unfolding coordinates
cell_within {nx} {ny} {nz} {i} h =
    let p = some_cells nx ny nz h in
    record {
      x_below = (div-lt_iff_lt-mul (mul-pos p.0 p.1)).1 (rw (← mul_assoc) h);
      y_below = mod-lt (i / nz) p.0;
      z_below = mod-lt i p.1;
    }

-- two cells with one index are one
pub index_injective : {nx ny nz : ℕ} {c d : Cell} → Within nx ny nz c → Within nx ny nz d → index ny nz c ≡ index ny nz d → c ≡ d
index_injective {nx} {ny} {nz} v w e = sym (cell_of_index v) ∙ ap (coordinates ny nz) e ∙ cell_of_index w

-- ---- cells in index order: by x, then by y, then by z
abbrev pub Before : Cell → Cell → Type 0
Before c d = (c.x < d.x) ⊎ ((c.x ≡ d.x) × ((c.y < d.y) ⊎ ((c.y ≡ d.y) × (c.z < d.z))))

pub index_order : {nx ny nz : ℕ} {c d : Cell} → Within nx ny nz c → Before c d → index ny nz c < index ny nz d
index_order {nx} {ny} {nz} {c} {d} w b = rw (nested, nested ny nz d) (further (ahead b))
  where
    -- a smaller digit in front decides
    less : (q r n : ℕ) {p s : ℕ} → p < q → s < n → p * n + s < q * n + r
    less q r n {p} {s} h l = omega (arith, two_below h l)

    ahead : Before c d → (c.x * ny + c.y < d.x * ny + d.y) ⊎ ((c.x * ny + c.y ≡ d.x * ny + d.y) × (c.z < d.z))
    ahead (inl h) = inl (less d.x d.y ny h w.y_below)
    ahead (inr (e, inl h)) = inl (rw e (omega arith))
    ahead (inr (e, inr (f, h))) = inr (rw (e, f), h)

    further : (c.x * ny + c.y < d.x * ny + d.y) ⊎ ((c.x * ny + c.y ≡ d.x * ny + d.y) × (c.z < d.z)) → (c.x * ny + c.y) * nz + c.z < (d.x * ny + d.y) * nz + d.z
    further (inl h) = less (d.x * ny + d.y) d.z nz h w.z_below
    further (inr (e, h)) = rw e (omega arith)

-- ---- along a line
pub index_along : (a : Axis) (ny nz k : ℕ) (c : Cell) → index ny nz (put a k c) ≡ index ny nz (put a 0 c) + k * stride a ny nz
unfolding index
index_along X ny nz k c = rw (← mul_assoc, zero-mul, zero-mul) (omega arith)
index_along Y ny nz k c = omega arith
index_along Z ny nz k c = omega arith

pub put_within : (a : Axis) {nx ny nz k : ℕ} {c : Cell} → Within nx ny nz c → k < pick a nx ny nz → Within nx ny nz (put a k c)
put_within X w h = record { x_below = h; y_below = w.y_below; z_below = w.z_below }
put_within Y w h = record { x_below = w.x_below; y_below = h; z_below = w.z_below }
put_within Z w h = record { x_below = w.x_below; y_below = w.y_below; z_below = h }

pub put_on : (a : Axis) (k : ℕ) (c : Cell) → cell_on a (put a k c) ≡ k
put_on X k c = refl
put_on Y k c = refl
put_on Z k c = refl

pub put_same : (a : Axis) (c : Cell) → put a (cell_on a c) c ≡ c
put_same X c = refl
put_same Y c = refl
put_same Z c = refl

pub put_again : (a : Axis) (i k : ℕ) (c : Cell) → put a i (put a k c) ≡ put a i c
put_again X i k c = refl
put_again Y i k c = refl
put_again Z i k c = refl
