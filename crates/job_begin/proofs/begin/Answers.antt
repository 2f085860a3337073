-- `job_begin::begin`: the first refusal that applies, or what the calls that clear and seed leave. Assumes nothing.
use native.Mathlib.Omega.{arith}
use mathlib.Core.Path.{sym}
use Rattle.mesh.specs.Mesh.{Mesh, mesh_of}
use Rattle.job_begin.proofs.Beginnings.{begins_refused, begins_fit, bare_long, begins_seeded}
use Rattle.mesh.specs.Lent.{mesh_in}
use Rattle.job_begin.proofs.begin.Goals as goal

pub returns-in_err-first_refusal : goal.returns-in_err-first_refusal
returns-in_err-first_refusal c =
    begins_refused _ _ _ _ _ _ _ _ _ _ c.in_err-first_refusal.field-0.0 c.from_residual.ensures.1 c.in_err-first_refusal.ensures

pub seed-seeded-requires : goal.seed-seeded-requires
seed-seeded-requires c =
    let a = c.args in
    let m : Mesh = mesh_in a.mesh in
    let passed = sym c.in_ok-first_refusal.ensures in
    let fit = (begins_fit a.grid m a.terms.sign a.terms.edition a.crossings a.rows a.room a.field.now a.names.now passed).fit in
    let long =
    bare_long a.grid m a.terms.sign a.terms.edition a.crossings a.rows a.room a.field.now a.names.now passed
    c.fill_field.ensures (c.fill.ensures.after (λ y e. e)) in record { grid_value = fit.ready.bounded; field_len = long; sound = fit.ready.sound; indices_len_bound = omega (arith, fit.few) }

pub returns : goal.returns
returns c =
    let a = c.args in
    let m : Mesh = mesh_in a.mesh in
    begins_seeded _ m _ _ _ _ _ _ _ (sym c.in_ok-first_refusal.ensures) c.fill_field.ensures (c.fill.ensures.after (λ y e. e)) _ c.seed-seeded.ensures
