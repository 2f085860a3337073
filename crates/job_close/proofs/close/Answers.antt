-- `job_close::close`: a refusal leaves what `clear_fields` leaves, else what `finish` does. Assumes nothing.
use mathlib.Core.Path.{refl}
use Rattle.std.specs.Prelude.{Ok}
use Rattle.job_close.proofs.close.Goals as goal

pub returns-then-ran-ne0 : goal.returns-then-ran-ne0
returns-then-ran-ne0 c =
    record { refused = λ z. (refl, c.clear_fields.ensures); done = λ z. absurd (c.if-ran-ne0.true z) }

pub returns : goal.returns
returns c =
    let ran = c.args.ran in
    record {
      refused = λ z. absurd (z c.if-ran-ne0.false);
      done = λ z. ((λ i. Ok (record { pops = ran.pops; peak = ran.peak; grazed = c.finish-grazed.ensures.value i })), refl, c.finish-grazed.ensures.fact);
    }
