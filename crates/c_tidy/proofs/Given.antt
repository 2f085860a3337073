-- What tidying gave, as C gets it: what C handed in is read, and the answer written out. Assumes nothing.
use Prim.Native.Nat.{ℕ}
use mathlib.Core.Path.{◌≡◌, ap, ◌∙◌, subst}
use mathlib.Core.List.{List}
use lib.Ieee.{Float}
use Rattle.mesh_topology.specs.declared.Topology.{Topology}
use Rattle.mesh_topology.specs.declared.Indices.{Indices}
use Rattle.mesh.specs.Mesh.{mesh_of}
use Rattle.refusals.specs.Numbers.{Reply}
use Rattle.tidy_mesh.specs.declared.Kept.{Kept}
use Rattle.tidy_mesh.specs.Outcome.{TidyLent, TidyOutcome, tidy_outcome, GivesTidy}
use Rattle.c_tidy.specs.declared.SdfTidyAnswer.{SdfTidyAnswer}
use Rattle.c_tidy.specs.Tidy.{tidy_out, GivesTidyC}

pub gives_tidy : {t t' : Topology} {i i' : Indices} {a : Reply Kept} {r : SdfTidyAnswer} (vs : List Float) (is : List ℕ) (b : TidyLent) {left : TidyLent}
    → t ≡ t' → i ≡ i' → r ≡ tidy_out a → GivesTidy (tidy_outcome (mesh_of vs t i is) b) a left → GivesTidyC (tidy_outcome (mesh_of vs t' i' is) b) r left
gives_tidy {r = r} vs is b {left} et ei er h =
    subst
    (λ (o : TidyOutcome). GivesTidyC o r left)
    (λ k. tidy_outcome (mesh_of vs (et k) (ei k) is) b)
    (record { answers = er ∙ ap tidy_out h.answers; leaves = h.leaves })
