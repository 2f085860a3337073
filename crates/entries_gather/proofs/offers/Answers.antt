-- `offers`: what `gather` tells of the cells around. Assumes nothing.
use mathlib.Core.Path.{refl, ◌∙◌}
use Rattle.run_around.proofs.Places.{places_fit, all_steps}
use Rattle.entries_gather.proofs.offers.Goals as goal

pub look_around-requires : goal.look_around-requires
look_around-requires c = record { ready = c.requires.0; known = c.requires.1; steps_value = (refl, refl, refl) }

pub gather-requires : goal.gather-requires
gather-requires c =
    places_fit c.look_around.ensures c.requires.2 c.requires.3

pub returns : goal.returns
returns c =
    record { few = c.gather.ensures.few; is = λ room any s. all_steps c.look_around.ensures room any _ ∙ c.gather.ensures.is _ s }
