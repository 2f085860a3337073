-- `job_checks::first_refusal`: the groups are asked in turn, and the first that gives a number ends it. Assumes nothing.
use mathlib.Core.Path.{sym, ◌∙◌}
use Rattle.job_checks.proofs.Groups.{by_grid, by_edition_lem, by_mesh, by_place, past_place}
use Rattle.job_checks.proofs.HandedUp.{not_0, handed_up}
use Rattle.job_checks.proofs.first_refusal.Goals as goal

pub returns-in_err-grid_refusal : goal.returns-in_err-grid_refusal
returns-in_err-grid_refusal c =
    let r = c.in_err-grid_refusal.field-0.0 in
    let e = c.in_err-grid_refusal.ensures in
    handed_up _ r c.from_residual.ensures.1 e ∙ sym (by_grid _ _ _ _ (not_0 r e))

pub returns-in_err-edition_refusal : goal.returns-in_err-edition_refusal
returns-in_err-edition_refusal c =
    let r = c.in_err-edition_refusal.field-0.0 in
    let e = c.in_err-edition_refusal.ensures in
    handed_up _ r c.from_residual-in_err-edition_refusal.ensures.1 e ∙ sym (by_edition_lem _ _ _ _ (sym c.in_ok-grid_refusal.ensures) (not_0 r e))

pub returns-in_err-mesh_refusal : goal.returns-in_err-mesh_refusal
returns-in_err-mesh_refusal c =
    let r = c.in_err-mesh_refusal.field-0.0 in
    let e = c.in_err-mesh_refusal.ensures in
    handed_up _ r c.from_residual-in_err-mesh_refusal.ensures.1 e
    ∙ sym (by_mesh _ _ _ _ (sym c.in_ok-grid_refusal.ensures) (sym c.in_ok-edition_refusal.ensures) (not_0 r e))

pub returns-in_err-place_refusal : goal.returns-in_err-place_refusal
returns-in_err-place_refusal c =
    let r = c.in_err-place_refusal.field-0.0 in
    let e = c.in_err-place_refusal.ensures in
    handed_up _ r c.from_residual-in_err-place_refusal.ensures.1 e
    ∙ sym (by_place _ _ _ _ (sym c.in_ok-grid_refusal.ensures) (sym c.in_ok-edition_refusal.ensures) (sym c.in_ok-mesh_refusal.ensures) (not_0 r e))

pub returns : goal.returns
returns c =
    c.length_refusal.ensures
    ∙ sym (past_place _ _ _ _ (sym c.in_ok-grid_refusal.ensures) (sym c.in_ok-edition_refusal.ensures) (sym c.in_ok-mesh_refusal.ensures) (sym c.in_ok-place_refusal.ensures))
