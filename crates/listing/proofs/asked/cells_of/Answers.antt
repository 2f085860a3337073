-- `listing::asked::cells_of` meets its contract: the product of two counts has 64 bits. Assumes nothing.
use borrow.Author.Rules.{rules}
use Rattle.listing.proofs.Counts.{wide_product}
use Rattle.listing.proofs.asked.cells_of.Goals as goal

pub overflow_mul-result : goal.overflow_mul-result
overflow_mul-result c = record { fits = wide_product (search rules) (search rules) }
