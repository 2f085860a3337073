-- "Its answers unchanged" (document 01, "Choosing the form by place"): a job over a row of records answers what the same job over three buffers as long
-- answers, and leaves the same field, names, crossings and rows. The outcome looks at the lent queue for its length alone. Assumes nothing.
use Prim.Native.Nat.{ℕ, zero, suc}
use mathlib.Core.Path.{◌≡◌, refl, sym, ap, subst, ◌∙◌}
use mathlib.Core.List.{List}
use lib.ListN.{length, length-map}
use lib.Ieee.{Float}
use Rattle.terms.specs.declared.Pass.{Pass}
use Rattle.terms.specs.declared.SignMethod.{SignMethod}
use Rattle.mesh_topology.specs.declared.Topology.{Topology}
use Rattle.mesh_topology.specs.declared.Indices.{Indices}
use Rattle.grid.specs.declared.Grid.{Grid}
use Rattle.queue.specs.declared.Entry.{Entry}
use Rattle.queue.specs.Queue.{entries}
use Rattle.entries.specs.Row.{row_distances, row_cells, row_triangles}
use Rattle.entries.proofs.Projections.{row_entries}
use Rattle.mesh.specs.Mesh.{mesh_of}
use Rattle.job_checks.specs.Job.{Job, Lent, job_of, lent_of}
use Rattle.job_checks.specs.Refusals.{refusal, refusal_by, lengths_of}
use Rattle.job_outcome.proofs.OneReply.{one_reply}
use Rattle.job_outcome.specs.Outcome.{Answer, Outcome, Gives, ended, run_of, unless_refused, outcome}
use Rattle.job_outcome.proofs.Outcomes.{same_ended, same_run, one_outcome}
use Rattle.job_clear.proofs.Lengths.{lengths_same}
use Rattle.entries_generate.specs.LentRow.{lent_row}

-- all that two lent buffers have in common but the queue
pub record Alike (b c : Lent) : Type 0 where
  pub field : b.field ≡ c.field
  pub names : b.names ≡ c.names
  pub crossings : b.crossings ≡ c.crossings
  pub rows : b.rows ≡ c.rows

alike : (b c : Lent) → b ≡ c → Alike b c
alike b c e = record {
  field = ap (λ (l : Lent). l.field) e;
  names = ap (λ (l : Lent). l.names) e;
  crossings = ap (λ (l : Lent). l.crossings) e;
  rows = ap (λ (l : Lent). l.rows) e;
}

joined : {a b c d : Lent} → a ≡ b → Alike b c → d ≡ c → Alike a d
joined p h q = record {
  field = ap (λ (l : Lent). l.field) p ∙ h.field ∙ sym (ap (λ (l : Lent). l.field) q);
  names = ap (λ (l : Lent). l.names) p ∙ h.names ∙ sym (ap (λ (l : Lent). l.names) q);
  crossings = ap (λ (l : Lent). l.crossings) p ∙ h.crossings ∙ sym (ap (λ (l : Lent). l.crossings) q);
  rows = ap (λ (l : Lent). l.rows) p ∙ h.rows ∙ sym (ap (λ (l : Lent). l.rows) q);
}

-- two outcomes that answer the same and leave the same but for the queue
pub record Agree (o p : Outcome) : Type 0 where
  pub answer : o.answer ≡ p.answer
  pub left : Alike o.left p.left

pub same_outcome : (j : Job) (b c : Lent) → Alike b c → lengths_of b ≡ lengths_of c → Agree (outcome j b) (outcome j c)
unfolding outcome unless_refused
same_outcome j b c h e = go (refusal j b) (refusal j c) (ap (refusal_by j.grid j.edition j.mesh) e)
  where
    ends : ended j b (run_of j b) ≡ ended j c (run_of j c)
    ends = same_ended j b c (run_of j b) e ∙ ap (ended j c) (same_run j b c e)

    both : (n : ℕ) → Agree (unless_refused n b (ended j b (run_of j b))) (unless_refused n c (ended j c (run_of j c)))
    both zero = record { answer = ap (λ (o : Outcome). o.answer) ends; left = alike _ _ (ap (λ (o : Outcome). o.left) ends) }
    both (suc n) = record { answer = refl; left = h }

    go : (n k : ℕ) → n ≡ k → Agree (unless_refused n b (ended j b (run_of j b))) (unless_refused k c (ended j c (run_of j c)))
    go n k q = subst (λ (i : ℕ). Agree (unless_refused n b (ended j b (run_of j b))) (unless_refused i c (ended j c (run_of j c)))) q (both n)

-- the two jobs
pub same_job : (j : Job) (field : List Float) (names crossings rows : List ℕ) (queue : List Entry) (ds cs ts : List ℕ)
    → length ds ≡ length queue → length cs ≡ length queue → length ts ≡ length queue
    → (answer answer' : Answer) (left left' : Lent) → Gives (outcome j (lent_row field names crossings rows queue)) answer left → Gives (outcome j (lent_of field names crossings rows ds cs ts)) answer' left'
    → (answer ≡ answer') × Alike left left'
same_job j field names crossings rows queue ds cs ts d c t answer answer' left left' p q =
    let b = lent_row field names crossings rows queue in
    let flat = lent_of field names crossings rows ds cs ts in
    let same = same_outcome j b flat (record { field = refl; names = refl; crossings = refl; rows = refl })
    (lengths_same b flat refl refl refl refl (length-map queue (λ (e : Entry). e.distance) ∙ sym d) (length-map queue (λ (e : Entry). e.cell) ∙ sym c) (length-map queue (λ (e : Entry). e.triangle) ∙ sym t)) in
    (one_reply answer answer' (p.answers ∙ same.answer ∙ sym q.answers), joined p.leaves same.left q.leaves)

-- ---- "One call has one possible outcome"

-- a row is told by its three projections
one_row : (p q : List Entry) → row_distances p ≡ row_distances q → row_cells p ≡ row_cells q → row_triangles p ≡ row_triangles q → p ≡ q
one_row p q d c t = sym (row_entries p) ∙ (λ i. entries (d i) (c i) (t i)) ∙ row_entries q

-- two calls over a row that come to one outcome agree in the answer, in the other buffers and in the row itself
pub one_outcome_row : {o : Outcome} {answer answer' : Answer} (field field' : List Float) (names names' crossings crossings' rows rows' : List ℕ) (queue queue' : List Entry)
    → Gives o answer (lent_row field names crossings rows queue) → Gives o answer' (lent_row field' names' crossings' rows' queue')
    → (answer ≡ answer') × Alike (lent_row field names crossings rows queue) (lent_row field' names' crossings' rows' queue') × (queue ≡ queue')
one_outcome_row field field' names names' crossings crossings' rows rows' queue queue' p q =
    let one = one_outcome p q in
    let e = one.1 in (
      one.0,
      alike _ _ e,
      one_row queue queue' (ap (λ (l : Lent). l.distances) e) (ap (λ (l : Lent). l.cells) e) (ap (λ (l : Lent). l.triangles) e),
    )

-- ---- "Neither answer nor buffers may show which was picked" (document 02, §4)

-- a job has no pass, so that two calls which differ in the pass alone ask for one job: over three buffers, and over a row of records
pub pass_not_shown : (g : Grid) (vertices : List Float) (topology : Topology) (given : Indices) (indices : List ℕ) (limit : ℕ) (p q : Pass) (sign : SignMethod) (edition : ℕ) (b : Lent)
    {answer answer' : Answer} {left left' : Lent}
    → Gives (outcome (job_of g (mesh_of vertices topology given indices) (record { limit = limit; pass = p; sign = sign; edition = edition })) b) answer left
    → Gives (outcome (job_of g (mesh_of vertices topology given indices) (record { limit = limit; pass = q; sign = sign; edition = edition })) b) answer' left'
    → (answer ≡ answer') × (left ≡ left')
pass_not_shown g vertices topology _ indices limit p q sign edition b = one_outcome
