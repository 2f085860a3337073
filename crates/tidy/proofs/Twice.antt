-- A clean mesh loses nothing: each vertex is its own first and used, and each triangle is kept. So all that is asked of what it is tidied
-- to holds of the mesh itself, and there is one outcome. The tidied mesh is clean, so tidying it once more gives it again. Assumes nothing.
use Prim.Native.Nat.{ℕ, ◌<◌}
use native.Mathlib.Omega.{arith}
use mathlib.Core.Path.{◌≡◌, refl, sym, ap, ap₂, ◌∙◌}
use mathlib.Core.Bool.{Bool, true}
use Rattle.lists.proofs.Table.{table_same, table_replicate}
use Rattle.picks.specs.Picks.{InTurn}
use Rattle.picks.proofs.Picks.{count_all}
use Rattle.mesh_topology.specs.declared.Triangle.{Triangle}
use Rattle.mesh_topology.specs.Topology.{kth}
use Rattle.mesh.specs.Mesh.{Mesh, triangles_in}
use Rattle.tidy.specs.Numbers.{two_equal_numbers, same_numbers, has_number}
use Rattle.tidy.specs.Tidy.{vertex_total, triangle_total, first_of, merged, cause, is_kept, used, kept_vertices, kept_triangles, tidied}
use Rattle.tidy.specs.Meaning.{Valid, Clean, Retained, Squeezed, ByIndices, NothingGoes}
use Rattle.tidy.proofs.Numbers.{on_of, renumbered_stays}
use Rattle.tidy.proofs.Kept.{first_own, stays_kept, kept_cause, uses_used}
use Rattle.tidy.proofs.Tidied.{vertices_long, triangles_long, given_below, tidied_valid, clean}
use Rattle.tidy.proofs.One.{by_indices, one_outcome}

module _ (m : Mesh) (ok : Valid m) (c : Clean m) where
  pub firsts_own : (v : ℕ) → v < vertex_total m → first_of m v ≡ v
  firsts_own v h = first_own m v (λ w l e. c.apart w v l h e)

  merged_own : (k : ℕ) → k < triangle_total m → merged m k ≡ kth (triangles_in m) k
  unfolding merged
  merged_own k l =
      let t = kth (triangles_in m) k in
      renumbered_stays (first_of m) t (on_of (λ v. v < vertex_total m) (λ v. first_of m v ≡ v) t firsts_own (given_below m ok k l))

  pub all_kept : (k : ℕ) → k < triangle_total m → is_kept m k ≡ true
  all_kept k l =
      stays_kept m k (record {
        unequal = ap two_equal_numbers (merged_own k l) ∙ c.unequal k l;
        new = λ j w. ap₂ same_numbers (merged_own j (omega arith)) (merged_own k l) ∙ c.new j k w l;
      })

  pub all_used : (v : ℕ) → v < vertex_total m → used m v ≡ true
  all_used v l =
      let u = c.in_use v l in
      uses_used m v (record {
        at = u.0;
        below = u.1;
        stays = all_kept u.0 u.1;
        holds = ap (λ (t : Triangle). has_number t v) (merged_own u.0 u.1) ∙ u.2;
      })

  pub nothing_goes : NothingGoes m
  unfolding kept_vertices kept_triangles
  nothing_goes =
      record {
        none_merged = table_same (first_of m) (λ v. v) (vertex_total m) firsts_own;
        none_dropped =
            table_same (cause m) (λ k. 0) (triangle_total m) (λ k l. kept_cause m k (all_kept k l)) ∙ table_replicate 0 (triangle_total m);
        vertices_stay = count_all (used m) (vertex_total m) all_used;
        triangles_stay = count_all (is_kept m) (triangle_total m) all_kept;
      }

  -- so it is what it is tidied to, where it is given as that is: a list with indices, and nothing left over
  pub clean_stays : ByIndices m → tidied m ≡ m
  clean_stays form = sym (one_outcome m m ok (record { by_indices = form; valid = ok; retained = retained; squeezed = squeezed }))
    where
      own : (p : ℕ → Bool) (n : ℕ) → ((i : ℕ) → i < n → p i ≡ true) → InTurn p n n (λ i. i)
      own p n h = record { below = λ i l. l; passes = h; order = λ i j w l. w; each = λ j l e. (j, l, refl) }

      retained : Retained m m
      retained =
          record {
            from = λ k. k;
            order = own (is_kept m) (triangle_total m) all_kept;
            corners = λ k l. record { a = refl; b = refl; c = refl };
          }

      squeezed : Squeezed m m
      squeezed = record { from = λ v. v; order = own (used m) (vertex_total m) all_used; coordinates = λ v l. refl }

-- ---- the tidied mesh

module _ (m : Mesh) (ok : Valid m) where
  -- the second time nothing is merged, dropped or squeezed out
  pub nothing_more : NothingGoes (tidied m)
  nothing_more = nothing_goes (tidied m) (tidied_valid m ok) (clean m ok)

  -- both counts are what they were
  pub counts_stay : (kept_vertices (tidied m) ≡ kept_vertices m) × (kept_triangles (tidied m) ≡ kept_triangles m)
  counts_stay = (nothing_more.vertices_stay ∙ vertices_long m, nothing_more.triangles_stay ∙ triangles_long m)

  pub twice : tidied (tidied m) ≡ tidied m
  twice = clean_stays (tidied m) (tidied_valid m ok) (clean m ok) (by_indices m)
