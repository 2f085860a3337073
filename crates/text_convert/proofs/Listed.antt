-- A strip that a record and the slices hold, with its triangles listed into another slice: that is what the conversion's record and slice
-- hold, and it can be written. Assumes nothing.
use Prim.Native.Nat.{ℕ, ◌*◌, ◌≤◌}
use native.Mathlib.Omega.{arith}
use mathlib.Core.Path.{◌≡◌, refl, sym, ap, ◌∙◌, subst}
use mathlib.Core.List.{List}
use lib.ListN.{length, take}
use lib.Seq.{length-take-le}
use Rattle.mesh_topology.specs.declared.Topology.{Topology}
use Rattle.mesh_topology.specs.declared.Topology.TheVariants.{TriangleList, TriangleStrip}
use Rattle.mesh_topology.specs.declared.Indices.{Indices}
use Rattle.mesh_topology.specs.declared.Indices.TheVariants.{Given, None}
use Rattle.mesh_topology.specs.declared.Triangle.{Triangle}
use Rattle.mesh_topology.specs.Topology.{triangles_of}
use Rattle.mesh_explicit.specs.Explicit.{explicit}
use Rattle.mesh_explicit.proofs.Laws.{explicit_long}
use Rattle.lists.specs.Put.{Put}
use Rattle.text.specs.declared.Head.{Head}
use Rattle.text.specs.declared.Tail.{Tail}
use Rattle.text.specs.Limits.{most_indices, index_room}
use Rattle.text.specs.TextJob.{these, index_list, given_of}
use Rattle.text.specs.Reader.{assembled}
use Rattle.text_read_parts.specs.Told.{threes_in, listed_as}
use Rattle.text_read_parts.proofs.Threes.{threes_length}
use Rattle.text_read_job.specs.declared.Asked.{Asked}
use Rattle.text_read_job.specs.Told.{job_in}
use Rattle.text_write_job.specs.Written.{most_given, RoomToWrite}
use Rattle.text_convert.specs.Converted.{triangles_named, list_head, as_list}
use Rattle.text_convert.proofs.Laws.{few_triangles}

-- indices that are not given name no triangle
named : (t : Topology) (g : Indices) (l : List ℕ) (n : ℕ) → triangles_of t (given_of (listed_as g l)) (index_list (listed_as g l)) n ≡ triangles_of t g l n
named t Given l n = refl
named t None l n = refl

few_strip : (g : Indices) {n : ℕ} → n ≤ most_given TriangleStrip g → n ≤ most_indices TriangleStrip
few_strip Given h = h
few_strip None h = omega arith

module _ (a : Asked) (vertices indices : List ℕ) where
  -- the triangles that are listed
  abbrev pub held_triangles : List Triangle
  held_triangles = triangles_of a.head.topology a.given (take a.indices indices) a.vertices

  held_named : held_triangles ≡ triangles_named (job_in a vertices indices)
  held_named =
      sym (named a.head.topology a.given (take a.indices indices) a.vertices)
      ∙ ap (triangles_of a.head.topology (given_of (listed_as a.given (take a.indices indices))) (index_list (listed_as a.given (take a.indices indices))))
      (sym (threes_length a.vertices vertices))

  module _ {out : List ℕ} (fits : RoomToWrite a vertices indices out) (strip : a.head.topology ≡ TriangleStrip) where
    pub few_held : 3 * length held_triangles ≤ most_indices TriangleList
    few_held =
        let few = few_strip a.given (subst (λ (t : Topology). a.indices ≤ most_given t a.given) strip fits.indices_few) in
        rw strip
        (few_triangles a.given (take a.indices indices) a.vertices (omega (arith, few, length-take-le a.indices indices fits.indices_held)) fits.vertices_few)

    module _ {old new : List ℕ} {n : ℕ} (put : Put old 0 (explicit held_triangles) new n) {h : Head} (head : h ≡ list_head a.head) where
      -- the conversion's record, with a tail
      abbrev pub list : Tail → Asked
      list t = record { head = h; vertices = a.vertices; given = Given; indices = n; tail = t }

      pub list_is : job_in (list a.tail) vertices new ≡ as_list (job_in a vertices indices)
      list_is =
          let is = put.front ∙ ap explicit held_named in
          λ i. assembled (head i) (threes_in a.vertices vertices) (these (is i)) a.tail

      -- whatever its tail
      pub list_fits : (t : Tail) → length old ≡ index_room → RoomToWrite (list t) vertices new out
      list_fits t long =
          rw head (
          record {
            room = fits.room;
            vertices_few = fits.vertices_few;
            vertices_held = fits.vertices_held;
            indices_few = omega (arith, put.next, explicit_long held_triangles, few_held);
            indices_held = omega (arith, put.next, explicit_long held_triangles, few_held, put.long, long);
          })
