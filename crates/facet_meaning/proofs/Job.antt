-- The names that a job leaves can be indexed. A job that is done passed its checks, so its mesh and its grid are within the limits; its run has gone
-- to its end, where there is a name for each cell; and demand 3 says of each name that it is a triangle that was offered to the cell, or none. Assumes
-- nothing.
use Prim.Native.Nat.{ℕ, ◌<◌}
use native.Mathlib.Omega.{arith}
use mathlib.Core.Path.{◌≡◌, refl, sym, ap, ◌∙◌}
use mathlib.Core.Logic.{◌⊎◌, inl, inr, ◌↔◌}
use mathlib.Core.Bool.{Bool, true, false}
use mathlib.Core.List.{List}
use lib.ListN.{length, get_or}
use lib.Ieee.{Float}
use Rattle.float.specs.Arith.{◌≺◌, f_max}
use Rattle.terms.specs.declared.SignMethod.{SignMethod}
use Rattle.terms.specs.declared.SignMethod.TheVariants.{Raycast, Normal}
use Rattle.grid.specs.declared.Grid.{Grid}
use Rattle.grid.specs.declared.Cell.{Cell}
use Rattle.grid.specs.Axes.{count_on}
use Rattle.grid.specs.Index.{index_of, cell_at, total, Inside}
use Rattle.grid.proofs.Laws.{index_below, index_of_cell, cell_within}
use Rattle.grid.proofs.Facts.{bounds_of}
use Rattle.point.specs.declared.Axis.TheVariants.{Y, Z}
use Rattle.mesh.specs.Mesh.{Mesh}
use Rattle.run.specs.Run.{RunInput, none}
use Rattle.run.specs.Input.{run_input}
use Rattle.run.proofs.Done.{run_done}
use Rattle.job_checks.specs.Job.{Job, Lent}
use Rattle.job_checks.specs.Refusals.{lengths_of}
use Rattle.job_checks.proofs.Accepted.{accepted}
use Rattle.refusals.specs.Numbers.{given, reply_of}
use Rattle.job_outcome.specs.declared.Tally.{Tally}
use Rattle.job_outcome.specs.Outcome.{Answer, outcome}
use Rattle.job_outcome.specs.Numbers.{IsDone}
use Rattle.job_outcome.proofs.Numbers.{number_0}
use Rattle.c_job.specs.declared.SdfJobAnswer.{SdfJobAnswer}
use Rattle.c_job.specs.Job.{GivesC}
use Rattle.demand_3.specs.Meaning.{CellMeans, Valued, none_named, of_named}
use Rattle.demand_3.specs.Offered.{Offered}
use Rattle.demand_3.specs.Demand3.{input_for}
use Rattle.demand_3.proofs.Cells.{fair_on}
use Rattle.demand_3.proofs.Theorem.{done_ended, checks_passed, demand_3}
use Rattle.facet_index.specs.Index.{Index}
use Rattle.facet_index.specs.Refusals.{Builds, Updates}
use Rattle.facet_meaning.specs.Words.{Named, Stands, IndexMeans}
use Rattle.facet_meaning.specs.Calls.{Known, Buildable, Updatable, Answered}
use Rattle.facet_meaning.specs.Job.{facets, Indexable, RoomFor, JobIndexed, Repaired}
use Rattle.facet_meaning.specs.Job.{IndexableAfterCall, IndexedAfterCall, RepairedAfterCall, IndexableAfterCallFromC, IndexedAfterCallFromC, RepairedAfterCallFromC}
use Rattle.facet_meaning.proofs.Theorem.{cells_of, build_answered, update_answered, build_then_update}

-- ---- a cell of a job that is done

-- by either method, the cell names a triangle that was offered to it, or none
named_offered : (sign : SignMethod) (grid : Grid) (mesh : Mesh) (g : RunInput) (field : List Float) (names left : List ℕ) (c : Cell)
    → CellMeans sign grid mesh g field names left c
    → Offered grid g c (get_or names (index_of grid c) 0) ⊎ (get_or names (index_of grid c) 0 ≡ none)
named_offered Raycast grid mesh g field names left c m = go (m.magnitude ≺ f_max) refl
  where
    go : (b : Bool) → (m.magnitude ≺ f_max) ≡ b → Offered grid g c (get_or names (index_of grid c) 0) ⊎ (get_or names (index_of grid c) 0 ≡ none)
    go true e = inl (m.name.below_max e).0
    go false e = inr (m.name.otherwise e)
named_offered Normal grid mesh g field names left c m = go m.valued
  where
    go : {value : Float} → Valued grid g c value (get_or names (index_of grid c) 0)
        → Offered grid g c (get_or names (index_of grid c) 0) ⊎ (get_or names (index_of grid c) 0 ≡ none)
    go (none_named v n) = inr n
    go (of_named o v) = inl o

module _ (j : Job) (b : Lent) (t : Tally) (h : (outcome j b).answer ≡ given t) where
  offered_or_none : (c : Cell) → Inside j.grid c
      → Offered j.grid (input_for j b) c (get_or (outcome j b).left.names (index_of j.grid c) 0)
      ⊎ (get_or (outcome j b).left.names (index_of j.grid c) 0 ≡ none)
  offered_or_none c v = named_offered j.sign j.grid j.mesh (input_for j b) _ _ _ c (demand_3 j b t h c v)

  facets_are : (input_for j b).triangles ≡ facets j
  unfolding run_input
  facets_are = refl

  a_name_each : length (outcome j b).left.names ≡ total j.grid
  unfolding run_input
  a_name_each =
      let E = done_ended j b t h in
      let p = checks_passed j b E.passed in
      let fair = (fair_on j.grid j.mesh (length b.distances) j.limit p.some p.few j.sign).fair in
      rw E.fills (run_done (input_for j b) fair E.last E.ran).names_long

  -- ---- so the names can be indexed

  pub done_indexable : Indexable j (outcome j b).left.names
  done_indexable =
      let fit = (accepted j.grid j.edition j.mesh (lengths_of b) (done_ended j b t h).passed).fit in
      record {
        few_facets = fit.few;
        each_cell = a_name_each;
        few_names = omega (arith, a_name_each, (bounds_of j.grid fit.ready.bounded).total_few);
        known = known;
      }
    where
      known : Known (facets j) (outcome j b).left.names
      known n w =
          let c = cell_at j.grid n in
          rw (index_of_cell (count_on Y j.grid) (count_on Z j.grid) n) at (go c (offered_or_none c (cell_within (rw a_name_each at w))))
        where
          go : (c : Cell)
              → Offered j.grid (input_for j b) c (get_or (outcome j b).left.names (index_of j.grid c) 0)
              ⊎ (get_or (outcome j b).left.names (index_of j.grid c) 0 ≡ none)
              → (get_or (outcome j b).left.names (index_of j.grid c) 0 < facets j)
              ⊎ (get_or (outcome j b).left.names (index_of j.grid c) 0 ≡ none)
          go c (inl o) = inl (rw facets_are at o.triangle)
          go c (inr e) = inr e

  pub done_indexed : (lent : Index) (number : ℕ) (i : Index) → RoomFor j lent → Builds (facets j) (outcome j b).left.names lent number i
      → JobIndexed j b (outcome j b).left.names number i
  done_indexed lent number i room builds =
      record {
        answered = z;
        means = answer.made z;
        cells_of = λ k l c v. (λ s. ((stands k l c).0 s).name, λ e. (stands k l c).1 (record { cell = below c v; name = e }));
        offered = λ k l c v s. go k l c ((stands k l c).0 s).name (offered_or_none c v);
      }
    where
      answer : Answered number (Buildable (facets j) (outcome j b).left.names lent) (IndexMeans (facets j) (outcome j b).left.names i)
      answer = build_answered (facets j) (outcome j b).left.names lent number i builds

      z : number ≡ 0
      z =
          let x = done_indexable in
          answer.when.1
          (record {
            few_facets = x.few_facets;
            starts_long = room.starts;
            few_names = x.few_names;
            list_long = room.list ∙ sym x.each_cell;
            known = x.known;
          })

      stands : (k : ℕ) → k < facets j → (c : Cell) → Stands i k (index_of j.grid c) ↔ Named (outcome j b).left.names k (index_of j.grid c)
      stands k l c = cells_of (facets j) (outcome j b).left.names i (builds.leaves.made z) k (index_of j.grid c) l

      below : (c : Cell) → Inside j.grid c → index_of j.grid c < length (outcome j b).left.names
      below c v = rw a_name_each (index_below v)

      go : (k : ℕ) → k < facets j → (c : Cell) → get_or (outcome j b).left.names (index_of j.grid c) 0 ≡ k
          → Offered j.grid (input_for j b) c (get_or (outcome j b).left.names (index_of j.grid c) 0)
          ⊎ (get_or (outcome j b).left.names (index_of j.grid c) 0 ≡ none)
          → Offered j.grid (input_for j b) c k
      go k l c e (inl o) = rw e at o
      go k l c e (inr n) = absurd (omega (arith, done_indexable.few_facets))

  pub done_repaired : (old : List ℕ) (lent i : Index) (number : ℕ) (i' : Index) → length old ≡ total j.grid → Builds (facets j) old lent 0 i
      → Updates (facets j) old (outcome j b).left.names i number i'
      → Repaired j (outcome j b).left.names number i'
  done_repaired old lent i number i' long builds updates = record { accepted = z; new_means = answer.made z }
    where
      answer : Answered number (Updatable (facets j) old (outcome j b).left.names i) (IndexMeans (facets j) (outcome j b).left.names i')
      answer = update_answered (facets j) old (outcome j b).left.names i number i' updates

      z : number ≡ 0
      z =
          (build_then_update (facets j) old (outcome j b).left.names lent i number i' builds updates).answered
          (a_name_each ∙ sym long) done_indexable.known

-- ---- of calls

pub indexable_after_a_call : (j : Job) (b : Lent) (answer : Answer) (left : Lent) → IndexableAfterCall j b answer left
indexable_after_a_call j b answer left gives t done = rw gives.leaves (done_indexable j b t (sym gives.answers ∙ ap reply_of done))

pub indexed_after_a_call : (j : Job) (b : Lent) (answer : Answer) (left : Lent) (lent : Index) (number : ℕ) (i : Index)
    → IndexedAfterCall j b answer left lent number i
indexed_after_a_call j b answer left lent number i gives t done room builds =
    rw gives.leaves (done_indexed j b t (sym gives.answers ∙ ap reply_of done) lent number i room (rw gives.leaves at builds))

pub repaired_after_a_call : (j : Job) (b : Lent) (answer : Answer) (left : Lent) (old : List ℕ) (lent i : Index) (number : ℕ) (i' : Index)
    → RepairedAfterCall j b answer left old lent i number i'
repaired_after_a_call j b answer left old lent i number i' gives t done long builds updates =
    rw gives.leaves (done_repaired j b t (sym gives.answers ∙ ap reply_of done) old lent i number i' long builds (rw gives.leaves at updates))

-- number 0 means that the job is done
done_for_c : (j : Job) (b : Lent) {answer : SdfJobAnswer} {left : Lent} → GivesC (outcome j b) answer left → answer.number ≡ 0
    → IsDone (outcome j b).answer
done_for_c j b gives zero = number_0 j b (sym (ap (λ (a : SdfJobAnswer). a.number) gives.answers) ∙ zero)

pub indexable_after_a_call_from_c : (j : Job) (b : Lent) (answer : SdfJobAnswer) (left : Lent) → IndexableAfterCallFromC j b answer left
indexable_after_a_call_from_c j b answer left gives zero =
    let d = done_for_c j b gives zero in
    rw gives.leaves (done_indexable j b d.tally d.is)

pub indexed_after_a_call_from_c : (j : Job) (b : Lent) (answer : SdfJobAnswer) (left : Lent) (lent : Index) (number : ℕ) (i : Index)
    → IndexedAfterCallFromC j b answer left lent number i
indexed_after_a_call_from_c j b answer left lent number i gives zero room builds =
    let d = done_for_c j b gives zero in
    rw gives.leaves (done_indexed j b d.tally d.is lent number i room (rw gives.leaves at builds))

pub repaired_after_a_call_from_c : (j : Job) (b : Lent) (answer : SdfJobAnswer) (left : Lent) (old : List ℕ) (lent i : Index) (number : ℕ) (i' : Index)
    → RepairedAfterCallFromC j b answer left old lent i number i'
repaired_after_a_call_from_c j b answer left old lent i number i' gives zero long builds updates =
    let d = done_for_c j b gives zero in
    rw gives.leaves (done_repaired j b d.tally d.is old lent i number i' long builds (rw gives.leaves at updates))
