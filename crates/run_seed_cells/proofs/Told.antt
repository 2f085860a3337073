-- What a refusal by a kind tells: its number, which is never 0. Assumes nothing.
use mathlib.Core.Path.{◌≡◌}
use Rattle.refusals.specs.declared.Refusal.{Refusal}
use Rattle.refusals.specs.declared.Refusal.TheVariants as Is
use Rattle.refusals.specs.Numbers.{number_of}

pub never_none : (r : Refusal) → number_of r ≡ 0 → ⊥
never_none Is.OutOfBounds h = cc
never_none Is.WrongVertices h = cc
never_none Is.TooManyTriangles h = cc
never_none Is.NoSuchIndex h = cc
never_none Is.WrongLength h = cc
never_none Is.NotANumber h = cc
never_none Is.QueueFull h = cc
never_none Is.PopsSpent h = cc
never_none Is.Unreadable h = cc
never_none Is.OffGrid h = cc
never_none Is.WrongFile h = cc
never_none Is.TooManyFacets h = cc
never_none Is.Strip h = cc
never_none Is.NoSuchEdition h = cc
never_none Is.WrongIndexLength h = cc
never_none Is.StaleIndex h = cc
