-- A job that was read is the one that the record and the slices hold: its numbers, three by three, are the stored ones, and a row of numbers
-- is that of one row of vertices. So it can be written again. Slices that are as long as the reader asks for hold all that was read, so they can
-- be cut there. Assumes nothing.
use Prim.Native.Nat.{ℕ, ◌*◌, ◌≤◌}
use native.Mathlib.Omega.{arith}
use mathlib.Core.Path.{◌≡◌, refl, sym, ap, ◌∙◌}
use mathlib.Core.List.{List, [], ◌∷◌}
use lib.ListN.{length, take}
use lib.Seq.{length-take-le}
use Rattle.mesh_topology.specs.declared.Indices.{Indices}
use Rattle.mesh_topology.specs.declared.Indices.TheVariants.{None}
use Rattle.text.specs.declared.Three.{Three}
use Rattle.text.specs.Limits.{coordinate_room, index_room}
use Rattle.text.specs.TextJob.{TextJob, TextIndices, none, these, flat, given_of, index_list}
use Rattle.text.specs.Reader.{three, assembled}
use Rattle.text.proofs.Job.{most_held}
use Rattle.text_read_job.specs.declared.Asked.{Asked}
use Rattle.text_read_parts.specs.Told.{listed_as}
use Rattle.text_read_job.specs.Told.{job_in}
use Rattle.text_read_job.specs.Reading.{HoldsJob}
use Rattle.text_read_parts.proofs.Threes.{threes_flat}

flat_one : (a b : List Three) → flat a ≡ flat b → a ≡ b
unfolding flat
flat_one [] [] e = refl
flat_one [] (w ∷ b) e = absurd (omega (arith, ap length e))
flat_one (v ∷ a) [] e = absurd (omega (arith, ap length e))
flat_one (v ∷ a) (w ∷ b) e =
    let x : v.x ≡ w.x = cc in
    let y : v.y ≡ w.y = cc in
    let z : v.z ≡ w.z = cc in
    let rest : flat a ≡ flat b = cc in
    let others = flat_one a b rest in
    λ i. three (x i) (y i) (z i) ∷ others i

indices_one : (l : TextIndices) (given : Indices) (is : List ℕ) → given ≡ given_of l → is ≡ index_list l → l ≡ listed_as given is
indices_one none given is g e = rw g
indices_one (these l) given is g e = rw (g, e)

module _ {j : TextJob} {a : Asked} {vertices indices : List ℕ} (h : HoldsJob j a vertices indices) where
  pub held_is : 3 * a.vertices ≤ length vertices → j ≡ job_in a vertices indices
  held_is long =
      let vs = flat_one j.vertices _ (sym h.vertices_are ∙ sym (threes_flat a.vertices vertices long)) in
      let is = indices_one j.indices a.given (take a.indices indices) h.given_is h.indices_are in
      λ i. assembled (sym h.head_is i) (vs i) (is i) (sym h.tail_is i)

  -- the lent slices hold what was read
  pub bits_held : coordinate_room ≤ length vertices → 3 * a.vertices ≤ length vertices
  bits_held long = omega (arith, h.vertices_few)

  pub indices_held : index_room ≤ length indices → a.indices ≤ length indices
  indices_held long = omega (arith, h.indices_few, most_held a.head.topology)

  -- without indices it has none
  pub held_none : a.indices ≤ length indices → a.given ≡ None → a.indices ≡ 0
  held_none few e = by j.indices (sym e ∙ h.given_is) h.indices_are
    where
      by : (l : TextIndices) → None ≡ given_of l → take a.indices indices ≡ index_list l → a.indices ≡ 0
      by none g t = omega (arith, ap length t, length-take-le a.indices indices few)
      by (these l) g t = absurd (let z : ◌≡◌ {A = ℕ} 0 1 = cc in omega arith)
