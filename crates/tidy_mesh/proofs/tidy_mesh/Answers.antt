-- `tidy_mesh::tidy_mesh`: each return by the checks that led there, in the order of the list. Assumes nothing.
use mathlib.Core.Path.{refl, sym, ◌∙◌}
use borrow.Author.Rules.{rules}
use Rattle.mesh.specs.Mesh.{Mesh, mesh_of}
use Rattle.job_checks.proofs.HandedUp.{not_0}
use Rattle.job_checks.proofs.MeshPassed.{mesh_passed}
use Rattle.refusals.specs.declared.Refusal.TheVariants as Is
use Rattle.tidy_mesh.proofs.Refused.{refused_by_lem, tidied_by_lem, by_mesh, by_outputs, by_none, tidyable}
use Rattle.mesh.specs.Lent.{mesh_in}
use Rattle.tidy_mesh.proofs.tidy_mesh.Goals as goal

pub returns-in_err-mesh_refusal : goal.returns-in_err-mesh_refusal
returns-in_err-mesh_refusal c =
    let r = c.in_err-mesh_refusal.field-0.0 in
    let given = c.in_err-mesh_refusal.ensures in
    refused_by_lem _ _ r (search rules) (given ∙ sym (by_mesh _ _ (not_0 r given)))

pub wrong_outputs-requires : goal.wrong_outputs-requires
wrong_outputs-requires c =
    let mesh : Mesh = mesh_in c.args.mesh in
    (mesh_passed mesh (sym c.in_ok-mesh_refusal.ensures)).triangles_few

pub returns-then-wrong_outputs : goal.returns-then-wrong_outputs
returns-then-wrong_outputs c =
    refused_by_lem _ _ Is.WrongLength refl (sym (by_outputs _ _ (sym c.in_ok-mesh_refusal.ensures) (sym c.wrong_outputs.ensures ∙ c.if-wrong_outputs.true)))

pub tidy_accepted-kept-requires : goal.tidy_accepted-kept-requires
tidy_accepted-kept-requires c = tidyable _ _ (sym c.in_ok-mesh_refusal.ensures) (sym c.wrong_outputs.ensures ∙ c.if-wrong_outputs.false)

pub returns : goal.returns
returns c =
    tidied_by_lem _ _ (by_none _ _ (sym c.in_ok-mesh_refusal.ensures) (sym c.wrong_outputs.ensures ∙ c.if-wrong_outputs.false))
    c.tidy_accepted-kept.ensures.value c.tidy_accepted-kept.ensures.left_after
