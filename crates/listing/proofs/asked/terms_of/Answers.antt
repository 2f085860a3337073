-- `listing::asked::terms_of` meets its contract. Assumes nothing.
use Rattle.listing.proofs.asked.terms_of.Goals as goal

pub returns : goal.returns
returns c =
    let a = c.args in
    λ i. record { limit = a.tail.limit; pass = a.pass; sign = a.head.sign; edition = c.edition_of-edition.ensures i }
