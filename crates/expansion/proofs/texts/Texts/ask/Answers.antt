use Rattle.std.proofs.Common.{arith}
use Rattle.std.proofs.lemmas.Bool.Decides.{nat_tests}
use Rattle.store.specs.Stores.{used_of}
use Rattle.expansion.proofs.Grows.{ask_says}
use Rattle.expansion.proofs.texts.Texts.ask.Goals as goal

pub returns : goal.returns
returns c =
    let s = c.args.self.now in
    record { says = ask_says (used_of s.store) (used_of c.put.new.store) c.put.ensures.grown s.file.items s.block.items s.closed.items s.file_lies s.block_lies s.closed_lie 1024 c.args.question.now (grind (arith, nat_tests)) c.in_ok-put.ensures.says }
