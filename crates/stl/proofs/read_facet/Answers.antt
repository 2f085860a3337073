-- `stl::read_facet`: after i turns the first i numbers stand in the corners (`Filled`). Assumes nothing.
use native.Mathlib.Omega.{arith}
use mathlib.Core.Path.{sym, ap, ◌∙◌}
use lib.ListN.{length}
use lib.Ieee.{nan, binary32, of_bits}
use Rattle.float_bits.specs.Patterns.{floats_of}
use Rattle.lists.proofs.Table.{filled_all, map_is_table}
use Rattle.stl.proofs.Pieces.{corners_long}
use Rattle.stl.proofs.read_facet.Goals as goal

pub returns : goal.returns
returns c =
    filled_all nan _ c.args.corners.now c.loop-i.corners c.loop-i.i 9 (sym c.requires.corners_len) (omega arith) c.loop-i.invariant
    ∙ sym (map_is_table (of_bits binary32) 0 c.nine_words-words.result 9 (ap length c.nine_words-words.ensures ∙ corners_long _))
    ∙ ap floats_of c.nine_words-words.ensures
