-- `tidy_words::put_number`: a store, by its bits. Assumes nothing.
use Rattle.tidy_words.proofs.Words.{bits_set}
use Rattle.tidy_words.proofs.put_number.Goals as goal

pub returns : goal.returns
returns c =
    bits_set c.args.words.now c.args.i c.args.x _ c.float_of.ensures c.requires.x_bound
