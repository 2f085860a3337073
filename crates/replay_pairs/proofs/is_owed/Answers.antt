-- `is_owed` meets its contract: a text has one answer.
use Rattle.std.proofs.Common.{rules, ◌≡◌, true, take}
use Rattle.text.proofs.Answers.{is_owed, owed_is}
use Rattle.text_answer.proofs.Read.{one_output}
use Rattle.replay_pairs.proofs.is_owed.Goals as goal

pub returns : goal.returns
returns c =
    let answered = c.run_text_by-n.ensures.answered c.requires in
    let owed = c.args.owed.now in
    let put = take c.run_text_by-n.result c.run_text_by-n.new.out in
    let same : c.eq.result ≡ true → put ≡ owed = search rules in
    let is_same : put ≡ owed → c.eq.result ≡ true = search rules in
    ((λ h. is_owed answered owed (same h)), (λ w. is_same (owed_is answered owed one_output w)))
