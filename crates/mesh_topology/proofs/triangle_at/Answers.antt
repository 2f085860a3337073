-- `mesh_topology::triangle_at`: the three corners from the k-th triangle's first on are corners (`corners_within`), and are the k-th
-- triangle (`kth_is`). Assumes nothing.
use mathlib.Core.Path.{sym}
use Prim.Native.Nat.{◌+◌, ◌^◌, ◌<◌}
use native.Mathlib.Omega.{arith}
use lib.ListN.{length}
use Rattle.mesh_topology.specs.Topology.{corners, first_corner}
use Rattle.mesh_topology.proofs.Laws.{corners_fit, corners_within, kth_is}
use Rattle.mesh_topology.proofs.triangle_at.Goals as goal

pub first_corner-i-requires : goal.first_corner-i-requires
first_corner-i-requires c =
    let within : (let a = c.args in
    first_corner a.topology a.k + 2 < length (corners a.given a.indices.now a.vertices)) =
    let a = c.args in
    corners_within a.topology (corners a.given a.indices.now a.vertices) a.k c.requires.1 in
    let fit : (let a = c.args in length (corners a.given a.indices.now a.vertices) < 2 ^ 64) = let a = c.args in corners_fit a.given a.indices.now a.vertices (2 ^ 64) (omega arith) (omega arith) in
    omega (arith, within, fit)

pub corner-requires : goal.corner-requires
corner-requires c =
    let within : (let a = c.args in
    first_corner a.topology a.k + 2 < length (corners a.given a.indices.now a.vertices)) =
    let a = c.args in
    corners_within a.topology (corners a.given a.indices.now a.vertices) a.k c.requires.1 in
    (omega arith, omega (arith, within))

pub overflow_add-i : goal.overflow_add-i
overflow_add-i c =
    let within : (let a = c.args in
    first_corner a.topology a.k + 2 < length (corners a.given a.indices.now a.vertices)) =
    let a = c.args in
    corners_within a.topology (corners a.given a.indices.now a.vertices) a.k c.requires.1 in
    let fit : (let a = c.args in length (corners a.given a.indices.now a.vertices) < 2 ^ 64) = let a = c.args in corners_fit a.given a.indices.now a.vertices (2 ^ 64) (omega arith) (omega arith) in
    omega (arith, within, fit)

pub corner-requires-2 : goal.corner-requires-2
corner-requires-2 c =
    let within : (let a = c.args in
    first_corner a.topology a.k + 2 < length (corners a.given a.indices.now a.vertices)) =
    let a = c.args in
    corners_within a.topology (corners a.given a.indices.now a.vertices) a.k c.requires.1 in
    (omega arith, omega (arith, within))

pub overflow_add-i-2 : goal.overflow_add-i-2
overflow_add-i-2 c =
    let within : (let a = c.args in
    first_corner a.topology a.k + 2 < length (corners a.given a.indices.now a.vertices)) =
    let a = c.args in
    corners_within a.topology (corners a.given a.indices.now a.vertices) a.k c.requires.1 in
    let fit : (let a = c.args in length (corners a.given a.indices.now a.vertices) < 2 ^ 64) = let a = c.args in corners_fit a.given a.indices.now a.vertices (2 ^ 64) (omega arith) (omega arith) in
    omega (arith, within, fit)

pub corner-requires-3 : goal.corner-requires-3
corner-requires-3 c =
    let within : (let a = c.args in
    first_corner a.topology a.k + 2 < length (corners a.given a.indices.now a.vertices)) =
    let a = c.args in
    corners_within a.topology (corners a.given a.indices.now a.vertices) a.k c.requires.1 in
    (omega arith, omega (arith, within))

pub returns : goal.returns
returns c =
    rw (c.corner.ensures, c.corner-2.ensures, c.corner-3.ensures, c.first_corner-i.ensures)
    (sym (kth_is _ _ _ c.requires.1))
