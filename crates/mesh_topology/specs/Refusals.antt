-- Refusals 3 and 4 of document 01: "too many triangles", of which 0 to 131,072 are accepted, and "an index used by a triangle is
-- not below the vertex count". Both speak of the triangles, so an index left over is not checked. And 13 of document 02, §7, which
-- speaks of the topology alone: a strip is refused though it make no triangle. Definitions only.
use Rattle.std.specs.Prelude.{Bool, true, false, ◌&&◌, List, ℕ, ltb, length}
use Rattle.lists.specs.Every.{every}
use Rattle.mesh_topology.specs.declared.Topology.{Topology}
use Rattle.mesh_topology.specs.declared.Topology.TheVariants.{TriangleList, TriangleStrip}
use Rattle.mesh_topology.specs.declared.Triangle.{Triangle}

-- 13: "The generator no longer takes strips."
abbrev pub is_strip : Topology → Bool
is_strip TriangleList = false
is_strip TriangleStrip = true

-- 3: more triangles than a job may have
abbrev pub too_many_triangles : List Triangle → Bool
too_many_triangles ts = ltb 131072 (length ts)

-- 4: not this. Each corner of each triangle is below the vertex count
abbrev pub below_count : ℕ → Triangle → Bool
below_count vertices t = ltb t.a vertices && ltb t.b vertices && ltb t.c vertices

abbrev pub all_below_count : ℕ → List Triangle → Bool
all_below_count vertices ts = every (below_count vertices) ts
