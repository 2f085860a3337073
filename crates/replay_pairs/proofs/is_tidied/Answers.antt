-- `is_tidied` meets its contract: a text has one tidying.
use Rattle.std.proofs.Common.{rules, ◌≡◌, true, take}
use Rattle.text.proofs.Answers.{is_owed, owed_is}
use Rattle.text_tidy.proofs.Laws.{one_tidying}
use Rattle.replay_pairs.proofs.is_tidied.Goals as goal

pub returns : goal.returns
returns c =
    let answered = c.tidy_text-n.ensures.answered c.requires in
    let owed = c.args.owed.now in
    let put = take c.tidy_text-n.result c.tidy_text-n.new.out in
    let same : c.eq.result ≡ true → put ≡ owed = search rules in
    let is_same : put ≡ owed → c.eq.result ≡ true = search rules in
    ((λ h. is_owed answered owed (same h)), (λ w. is_same (owed_is answered owed one_tidying w)))
