-- `tidy_firsts::bits_at`: three floats, each by its bits. Assumes nothing.
use Rattle.tidy.specs.Tidy.{vertex_bits}
use Rattle.tidy.proofs.Same.{threes}
use Rattle.tidy_firsts.proofs.bits_at.Goals as goal

pub returns : goal.returns
unfolding vertex_bits
returns c =
    threes c.bits_of.ensures c.bits_of-2.ensures c.bits_of-3.ensures
