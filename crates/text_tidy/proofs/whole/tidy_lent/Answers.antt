-- `text_tidy::whole::tidy_lent` meets its contract, by what the call answered. Assumes nothing.
use mathlib.Core.Path.{refl, sym, ap, ◌∙◌}
use Rattle.text.specs.Words.{line}
use Rattle.text.specs.Answering.{answer_line}
use Rattle.lists.proofs.Puts.{said}
use Rattle.refusals.specs.Numbers.{reply_of}
use Rattle.text_tidy.proofs.Left.{refused_so, tidied_fits, tidied_printed}
use Rattle.text_tidy.proofs.whole.tidy_lent.Goals as goal

-- ---- tidied
pub put_tidied-requires : goal.put_tidied-requires
put_tidied-requires c =
    tidied_fits c.requires c.tidy_mesh-answer.ensures _ _ (ap reply_of c.in-Ok.is) refl

pub returns-in-Ok : goal.returns-in-Ok
returns-in-Ok c =
    said (tidied_printed c.requires c.tidy_mesh-answer.ensures c.args.asked _ (ap reply_of c.in-Ok.is)) refl c.put_tidied.ensures

-- ---- refused
pub returns-in-Err : goal.returns-in-Err
unfolding line
returns-in-Err c =
    said (ap answer_line c.number.ensures ∙ sym (refused_so c.requires c.tidy_mesh-answer.ensures _ _ _ (ap reply_of c.in-Err.is))) refl
    c.put_number.ensures.put
