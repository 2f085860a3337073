-- `listing_whole::write_listing` meets its contract, by the cases of the answer. Assumes nothing.
use mathlib.Core.Path.{refl, sym, ap, ◌∙◌}
use borrow.Author.Rules.{rules}
use Rattle.refusals.specs.Numbers.{reply_of, refused}
use Rattle.listing_whole.proofs.Shown.{refused_written, done_written, too_high}
use Rattle.listing_whole.proofs.write_listing.Goals as goal

pub returns-then-peak-gt4294967295 : goal.returns-then-peak-gt4294967295
returns-then-peak-gt4294967295 c = (too_high _ (ap reply_of c.in-Ok.is) c.if-peak-gt4294967295.true, refl)

pub returns-in-Err : goal.returns-in-Err
returns-in-Err c =
    refused_written _ (ap reply_of c.in-Err.is ∙ ap refused (sym c.number.ensures)) (search rules) c.put_number-n.ensures.put

pub returns-else-peak-gt4294967295 : goal.returns-else-peak-gt4294967295
returns-else-peak-gt4294967295 c =
    done_written _ (ap reply_of c.in-Ok.is) (search rules) (search rules) c.put_done-n.ensures
