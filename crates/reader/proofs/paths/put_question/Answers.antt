use Rattle.reader.proofs.Joins.{asks_all}
use Rattle.reader.proofs.paths.put_question.Goals as goal

pub returns : goal.returns
returns c =
    asks_all c.put_each-2.result _ c.push.new.self c.put_each.new.out c.push-2.new.self _ _ _
    c.in_ok-push.ensures.items c.in_ok-put_each.ensures c.in_ok-push-2.ensures.items c.put_each-2.ensures
