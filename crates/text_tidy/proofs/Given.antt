-- The vertices of the tidied job are given ones, bit for bit, and its mesh is the tidied mesh. For a pattern that stands for no NaN is the
-- pattern of its float, and a float for which a pattern stands is the float of its pattern. Assumes nothing.
use Prim.Native.Nat.{ℕ, zero, suc, ◌+◌, ◌*◌, ◌<◌}
use native.Mathlib.Omega.{arith}
use native.Mathlib.Nat.{not-suc-le-zero, le_of_suc-le-suc}
use mathlib.Core.Path.{◌≡◌, refl, sym, ap, ap₂, ◌∙◌, subst}
use mathlib.Core.Bool.{Bool, true, false, not, ◌&&◌, true≢false, and-eq-true_iff}
use mathlib.Core.List.{List, [], ◌∷◌}
use lib.Dec.{T}
use lib.ListN.{length, get_or, length-append, length-map, get_or-map}
use lib.Seq.{take_at}
use lib.Ieee.{Float, nan, inf, fin, is_nan, fits, le, binary32, of_bits, to_bits}
use lib.Ieee.Bits.{is_true, of_bits-fits, of_bits-to_bits, to_bits-of_bits}
use Rattle.lists.specs.Every.{every}
use Rattle.lists.specs.Table.{table}
use Rattle.lists.proofs.Every.{every_at}
use Rattle.lists.proofs.Table.{table_same, get_d_any}
use Rattle.float.specs.Steps.{abs_of}
use Rattle.float_bits.specs.Patterns.{floats_of, bits_of}
use Rattle.grid_axis.specs.AxisBounds.{is_coordinate}
use Rattle.mesh_topology.specs.declared.Indices.TheVariants.{Given}
use Rattle.mesh.specs.Mesh.{Mesh, mesh_of}
use Rattle.job_checks.proofs.MeshPassed.{mesh_passed}
use Rattle.tidy.specs.declared.ThreeWords.{ThreeWords}
use Rattle.tidy.specs.Tidy.{vertex_bits, vertex_total, kept_vertices, vertex_from, tidied}
use Rattle.tidy.proofs.Tidied.{coordinates_long, bits_of_lem, vertices_in_turn}
use Rattle.tidy.proofs.Again.{coordinates_pass}
use Rattle.text.specs.declared.Three.{Three}
use Rattle.text.specs.TextJob.{TextJob, Word, Words, All, Readable, flat}
use Rattle.text.specs.Reader.{three}
use Rattle.text_read_parts.proofs.Threes.{threes_flat}
use Rattle.text_tidy.specs.Tidied.{mesh_asked, mesh_refusal, vertex_said, tidied_job}
use Rattle.text_tidy.proofs.Held.{patterns, threes_said}

-- ---- patterns and floats

no_nan : (x : Float) → is_coordinate x ≡ true → T (not (is_nan x))
unfolding is_nan abs_of le
no_nan nan h = absurd (true≢false (sym h))
no_nan (inf s) h = tt
no_nan (fin s m e) h = tt

-- what holds of each, holds at each place
pub all_at : {A : Type 0} (P : A → Type 0) (d : A) (l : List A) (i : ℕ) → All P l → i < length l → P (get_or l i d)
unfolding All
all_at P d [] i a h = absurd (not-suc-le-zero h)
all_at P d (x ∷ l) zero a h = a.0
all_at P d (x ∷ l) (suc i) a h = all_at P d l i a.1 (le_of_suc-le-suc h)

pattern_back : (l : List ℕ) (i : ℕ) → i < length l → Word (get_or l i 0) → is_coordinate (get_or (floats_of l) i nan) ≡ true
    → to_bits binary32 (get_or (floats_of l) i nan) ≡ get_or l i 0
pattern_back l i h w c =
    let e : get_or (floats_of l) i nan ≡ of_bits binary32 (get_or l i 0) =
    get_d_any (floats_of l) i nan (of_bits binary32 0) (omega (arith, length-map l (of_bits binary32)))
    ∙ get_or-map (of_bits binary32) l i 0 in
    ap (to_bits binary32) e
    ∙ to_bits-of_bits binary32 (get_or l i 0) w (subst (λ (x : Float). T (not (is_nan x))) e (no_nan (get_or (floats_of l) i nan) c))

true_is : (b : Bool) → b ≡ true → T b
true_is true h = tt
true_is false h = absurd (true≢false (sym h))

floats_back : (l : List Float) → every (fits binary32) l ≡ true → floats_of (bits_of l) ≡ l
unfolding every
floats_back [] h = refl
floats_back (x ∷ l) h =
    let p = (and-eq-true_iff (fits binary32 x) (every (fits binary32) l)).0 h in
    ap₂ (λ (y : Float) (k : List Float). y ∷ k) (of_bits-to_bits binary32 x (true_is (fits binary32 x) p.0)) (floats_back l p.1)

floats_fit : (l : List ℕ) → every (fits binary32) (floats_of l) ≡ true
unfolding every
floats_fit [] = refl
floats_fit (b ∷ l) =
    ap₂ (λ (p : Bool) (q : Bool). p && q) (is_true (fits binary32 (of_bits binary32 b)) (of_bits-fits binary32 b)) (floats_fit l)

-- ---- the vertices of a text, by their numbers

-- a place of a row, behind one vertex
behind : (v : Three) (vs : List Three) (i j : ℕ) → j ≡ suc (suc (suc i)) → get_or (flat (v ∷ vs)) j 0 ≡ get_or (flat vs) i 0
unfolding flat
behind v vs i j e = ap (λ (k : ℕ). get_or (v.x ∷ v.y ∷ v.z ∷ flat vs) k 0) e

flat_at : (d : Three) (vs : List Three) (v : ℕ) → v < length vs
    → three (get_or (flat vs) (3 * v) 0) (get_or (flat vs) (3 * v + 1) 0) (get_or (flat vs) (3 * v + 2) 0) ≡ get_or vs v d
unfolding flat
flat_at d [] v h = absurd (not-suc-le-zero h)
flat_at d (w ∷ vs) zero h = refl
flat_at d (w ∷ vs) (suc v) h =
    let x = behind w vs (3 * v) (3 * suc v) (omega arith) in
    let y = behind w vs (3 * v + 1) (3 * suc v + 1) (omega arith) in
    let z = behind w vs (3 * v + 2) (3 * suc v + 2) (omega arith) in
    (λ i. three (x i) (y i) (z i)) ∙ flat_at d vs v (le_of_suc-le-suc h)

pub flat_long : (vs : List Three) → length (flat vs) ≡ 3 * length vs
unfolding flat
flat_long [] = refl
flat_long (v ∷ vs) = omega (arith, flat_long vs)

flat_words : (vs : List Three) → All Words vs → All Word (flat vs)
unfolding flat All
flat_words [] a = tt
flat_words (v ∷ vs) a = (a.0.x_fits, (a.0.y_fits, (a.0.z_fits, flat_words vs a.1)))

-- ---- the tidied job

module _ (j : TextJob) (r : Readable j) (z : mesh_refusal (mesh_asked j) ≡ 0) where
  abbrev m : Mesh
  m = mesh_asked j

  -- the vertex that is said of the mesh is the one that the text has
  said_back : (d : Three) (v : ℕ) → v < length j.vertices → vertex_said m.vertices v ≡ get_or j.vertices v d
  unfolding vertex_bits
  said_back d v h =
      let l = flat j.vertices in
      let back : (i : ℕ) → i < length l → to_bits binary32 (get_or m.vertices i nan) ≡ get_or l i 0 =
      λ i w. pattern_back l i w (all_at Word 0 l i (flat_words j.vertices r.vertices_fit.fit) w)
      (every_at is_coordinate nan m.vertices i (mesh_passed m z).coordinates (omega (arith, length-map l (of_bits binary32)))) in
      let x = back (3 * v) (omega (arith, flat_long j.vertices)) in
      let y = back (3 * v + 1) (omega (arith, flat_long j.vertices)) in
      let w = back (3 * v + 2) (omega (arith, flat_long j.vertices)) in
      (λ i. three (x i) (y i) (w i)) ∙ flat_at d j.vertices v h

  -- how many vertices there are
  pub vertices_counted : vertex_total m ≡ length j.vertices
  vertices_counted = omega (arith, length-map (flat j.vertices) (of_bits binary32), flat_long j.vertices)

  -- the vertices of the tidied job are the used ones of the given job, with their bits as they were said
  pub vertices_as_given : (d : Three) → (tidied_job j).vertices ≡ table (λ i. get_or j.vertices (vertex_from m i) d) (kept_vertices m)
  vertices_as_given d =
      table_same (vertex_said (tidied m).vertices) (λ i. get_or j.vertices (vertex_from m i) d) (kept_vertices m) (λ i h.
      ap (λ (b : ThreeWords). three b.a b.b b.c) (bits_of_lem m i h)
      ∙ said_back d (vertex_from m i) (omega (arith, (vertices_in_turn m).below i h, vertices_counted)))

  -- as a row they are the bits of the tidied coordinates
  tidied_row : flat (tidied_job j).vertices ≡ bits_of (tidied m).vertices
  tidied_row =
      let vs = (tidied m).vertices in
      let long : length (bits_of vs) ≡ 3 * kept_vertices m = length-map vs (to_bits binary32) ∙ coordinates_long m in
      ap flat (sym (threes_said vs [] (kept_vertices m) (omega (arith, coordinates_long m))))
      ∙ threes_flat (kept_vertices m) (patterns vs []) (omega (arith, length-append (bits_of vs) []))
      ∙ take_at (bits_of vs) [] (3 * kept_vertices m) long

  -- what the tidied job asks for is the tidied mesh
  pub asks_for_tidied : mesh_asked (tidied_job j) ≡ tidied m
  unfolding tidied
  asks_for_tidied =
      let fit = coordinates_pass m (fits binary32) (floats_fit (flat j.vertices)) in
      let vs = ap floats_of tidied_row ∙ floats_back (tidied m).vertices fit in
      let t = (mesh_passed m z).a_list in
      λ i. mesh_of (vs i) (t i) Given (tidied m).indices
