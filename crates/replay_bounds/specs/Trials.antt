-- What a trial asks about and lends. Definitions only.
use Rattle.std.specs.Prelude.{ℕ, replicate, take}
use Rattle.float.specs.Arith.{f0, f1}
use Rattle.grid.specs.declared.Grid.{Grid}
use Rattle.terms.specs.declared.Pass.TheVariants.{Quick}
use Rattle.terms.specs.declared.SignMethod.TheVariants.{Raycast}
use Rattle.terms.specs.declared.Terms.{Terms}
use Rattle.job_checks.specs.Job.{Lent, lent_of}

-- cells of size 1, the first at the origin, and the number of the upright axis
abbrev pub unit_grid : ℕ → ℕ → ℕ → ℕ → Grid
unit_grid x y z upright =
    record {
      first_cell = record { x = f0; y = f0; z = f0 };
      cell_size = record { x = f1; y = f1; z = f1 };
      count_x = x;
      count_y = y;
      count_z = z;
      upright = upright;
    }

-- zeros of these lengths, off what a trial has of each
abbrev pub lent_long : ℕ → ℕ → ℕ → ℕ → ℕ → ℕ → ℕ → Lent
lent_long field names crossings rows distances cells triangles =
    lent_of (take field (replicate 7 f0)) (take names (replicate 7 0)) (take crossings (replicate 19 0)) (take rows (replicate 4 0))
    (take distances (replicate 5 0)) (take cells (replicate 5 0)) (take triangles (replicate 5 0))

abbrev pub one_pop : Terms
one_pop = record { limit = 1; pass = Quick; sign = Raycast; edition = 1 }
