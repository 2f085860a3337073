-- `job_close::sign_field`: with Raycast the signs are the run's, since the counts are; with Normal the crossings are cleared, and all else stays.
-- Assumes nothing.
use mathlib.Core.Path.{◌≡◌, refl, ap, ◌∙◌}
use mathlib.Core.List.{List}
use Prim.Native.Nat.{ℕ}
use lib.ListN.{replicate}
use Rattle.mesh.specs.Mesh.{mesh_of}
use Rattle.run.specs.Signs as Signs
use Rattle.run_signs.specs.Sign.{signed_by}
use Rattle.run_signs.proofs.Parity.{signs_are}
use Rattle.mesh.specs.Lent.{mesh_in}
use Rattle.job_close.proofs.sign_field.Goals as goal

pub returns-in-Raycast : goal.returns-in-Raycast
returns-in-Raycast c =
    let a = c.args in
    let signed : c.sign.new.field ≡ Signs.signed_field a.grid (mesh_in a.mesh) a.field.now =
    c.sign.ensures ∙ ap (λ (l : List ℕ). signed_by l a.field.now) c.cross-grazed.ensures.crossings_after ∙ signs_are _ _ a.field.now c.requires.field_len.0 in
    rw c.in-Raycast.is (signed, c.cross-grazed.ensures.crossings_after, c.cross-grazed.ensures.value)

pub returns-in-Normal : goal.returns-in-Normal
returns-in-Normal c =
    rw c.in-Normal.is (refl, c.fill.ensures.after (λ y e. e) ∙ ap (λ (n : ℕ). replicate n 0) c.requires.field_len.1, refl)
