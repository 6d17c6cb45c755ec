use Rattle.std.proofs.Common.{◌≡◌, ◌∙◌, rules}
use Rattle.std.specs.List.{fold}
use Rattle.script.proofs.Digits.{held, saturated}
use Rattle.script.proofs.numbers.value_of.Goals as goal

pub returns : goal.returns
returns c =
    let value : c.fold.result ≡ fold (held 18446744073709551615) 0 c.args.digits.now = search rules in
    value ∙ saturated c.args.digits.now
