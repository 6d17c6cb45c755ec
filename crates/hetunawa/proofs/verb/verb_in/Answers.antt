use Rattle.std.proofs.Common.{rules, arith}
use Rattle.hetunawa.proofs.Verbs.{removes}
use Rattle.hetunawa.proofs.verb.verb_in.Goals as goal

pub returns-in-remove : goal.returns-in-remove
returns-in-remove c = removes c.args.word.now (omega arith) (search rules) (search rules) (search rules) (search rules) (search rules) (search rules)
