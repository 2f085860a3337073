-- `tidy_firsts::enter`: the search ended at a vertex, which is the first with these bits; or at a 0, where vertex v is named. Assumes
-- nothing.
use native.Mathlib.Omega.{arith}
use Prim.Native.Nat.{ℕ, suc, ◌+◌, ◌-◌}
use mathlib.Core.Path.{◌≡◌, refl, sym, ◌∙◌, subst}
use mathlib.Core.List.{List}
use lib.ListN.{get_or}
use Rattle.float_bits.specs.Patterns.{bits_of}
use Rattle.tidy.specs.Tidy.{vertex_bits}
use Rattle.tidy_search.specs.Links.{Entered}
use Rattle.tidy_search.proofs.Links.{none_before, found_first, entered_found, entered_new}
use Rattle.tidy_firsts.specs.Firsts.{any}
use Rattle.tidy_firsts.proofs.Firsts.{long, first_new, first_old}
use Rattle.tidy_firsts.proofs.enter.Goals as goal

pub number_at-held-requires : goal.number_at-held-requires
number_at-held-requires c =
    omega (arith, long c.requires, c.place-at.ensures.within)

pub returns-then-held-ne0 : goal.returns-then-held-ne0
returns-then-held-ne0 c =
    let r = c.requires in
    let w = c.number_at-held.result - 1 in
    let held : get_or (bits_of c.args.links.now) c.place-at.result 0 ≡ suc w = sym c.number_at-held.ensures ∙ omega (arith, c.if-held-ne0.true) in
    let f = found_first r.entered r.next refl c.place-at.ensures w held in record { value = sym (first_old c.args.vertices.now c.args.v w f.0 f.1 f.2); vertices_entered = entered_found r.entered r.next refl c.place-at.ensures w held }

pub put_number-requires : goal.put_number-requires
put_number-requires c = record { i_in_bounds = omega (arith, long c.requires, c.place-at.ensures.within); x_bound = omega (arith, c.requires.few, c.requires.next) }

pub returns : goal.returns
returns c =
    let r = c.requires in
    let zero = sym c.number_at-held.ensures ∙ c.if-held-ne0.false in record {
      value = sym (first_new c.args.vertices.now c.args.v (none_before r.entered r.next refl c.place-at.ensures zero));
      vertices_entered = subst (λ (row : List ℕ). Entered (vertex_bits c.args.vertices.now) any c.args.n (c.args.v + 1) row)
          (sym c.put_number.ensures)
          (entered_new r.entered r.next refl c.place-at.ensures zero);
    }
