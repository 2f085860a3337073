-- `tidy_firsts::find_firsts`: the invariant is that the vertices below v are entered and have their firsts. Assumes nothing.
use native.Mathlib.Omega.{arith}
use Prim.Native.Nat.{ℕ, ◌*◌}
use mathlib.Core.Path.{◌≡◌, refl, sym, ap, ◌∙◌, subst}
use lib.ListN.{length, replicate, length-map}
use lib.Ieee.{binary32, to_bits}
use Rattle.float_bits.specs.Patterns.{bits_of}
use Rattle.lists.proofs.Table.{filled_none, filled_more, filled_all}
use Rattle.tidy.specs.Tidy.{vertex_bits}
use Rattle.tidy_words.proofs.Words.{zeros_bits}
use Rattle.tidy_search.specs.Links.{Entered}
use Rattle.tidy_search.proofs.Links.{none_entered}
use Rattle.tidy_firsts.specs.Firsts.{first_in, any}
use Rattle.tidy_firsts.proofs.find_firsts.Goals as goal

pub loop-v-init : goal.loop-v-init
loop-v-init c =
    let n = length c.args.firsts.now in
    let links = c.args.links.now in
    let zeros : bits_of c.fill.new.self ≡ replicate (3 * n) 0 =
    ap bits_of (c.fill.ensures.after (λ _ e. e)) ∙ zeros_bits (length links) ∙ ap (λ (k : ℕ). replicate k 0) (c.requires.links_len ∙ c.requires.vertices_len) in
    record {
      filled = filled_none 0 (first_in c.args.vertices.now) c.args.firsts.now;
      entered = subst (Entered (vertex_bits c.args.vertices.now) any n 0) (sym zeros) (none_entered (omega (arith, c.requires.firsts_len_bound)));
    }

pub enter-requires : goal.enter-requires
enter-requires c =
    record { entered = c.loop-v.invariant.entered; next = c.loop-v-test.true; three = c.requires.vertices_len; few = c.requires.firsts_len_bound }

pub bounds-firsts-v : goal.bounds-firsts-v
bounds-firsts-v c =
    omega (arith, c.loop-v.invariant.filled.long, c.loop-v-test.true)

pub loop-v-preserved : goal.loop-v-preserved
loop-v-preserved c =
    let i = c.loop-v.invariant in
    record { filled = filled_more 0 _ _ _ _ _ c.loop-v-test.true c.enter.ensures.value i.filled; entered = c.enter.ensures.vertices_entered }

pub shape_of-links : goal.shape_of-links
shape_of-links c =
    let l = c.loop-v.links in
    sym (length-map l (to_bits binary32)) ∙ c.loop-v.invariant.entered.long ∙ sym (c.requires.links_len ∙ c.requires.vertices_len)

pub shape_of-firsts : goal.shape_of-firsts
shape_of-firsts c = c.loop-v.invariant.filled.long

pub returns : goal.returns
returns c = filled_all 0 _ _ _ _ _ refl (omega (arith, c.loop-v-test.false)) c.loop-v.invariant.filled
