-- `job_checks::all_coordinates`: what `all` answers by its test is what the definition asks of each element. Assumes nothing.
use mathlib.Core.Path.{◌≡◌, refl, ap, ◌∙◌}
use mathlib.Core.Bool.{Bool, ◌&&◌}
use mathlib.Core.List.{List, [], ◌∷◌}
use Rattle.std.proofs.Common.{rules, tests}
use Rattle.std.specs.List.{list_all}
use Rattle.std.proofs.lemmas.Iterator.{YieldsList-from_slice}
use Rattle.std.proofs.lemmas.Iterator.Search.{all_from_yields_List}
use Rattle.lists.specs.Every.{every}
use Rattle.grid_axis.specs.AxisBounds.{is_coordinate}
use Rattle.job_checks.proofs.all_coordinates.Goals as goal

every_is_all : {A : Type 0} (p : A → Bool) (xs : List A) → list_all p xs ≡ every p xs
unfolding every
every_is_all p [] = refl
every_is_all p (x ∷ xs) = ap (λ (rest : Bool). p x && rest) (every_is_all p xs)

pub returns : goal.returns
returns c =
    all_from_yields_List is_coordinate _ _ _ c.all.ensures.ran (YieldsList-from_slice c.args.vertices.now cc) (λ x b q k. search (rules, tests))
    ∙ every_is_all is_coordinate c.args.vertices.now
