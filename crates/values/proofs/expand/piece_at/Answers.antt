use Rattle.std.proofs.Common.{drop, ap, ◌∙◌, rules}
use Rattle.byteclass.specs.Class.{name_byte, simple_byte}
use Rattle.values.specs.Expand.{look}
use Rattle.values.specs.Scopes.{scope_of}
use Rattle.values.proofs.Pieces.{after_brace}
use Rattle.values.proofs.expand.piece_at.Goals as goal

pub returns-in-123-clause-rest : goal.returns-in-123-clause-rest
returns-in-123-clause-rest c =
    let h = c.split_run-in-123.ensures.rest name_byte (λ b r p. search rules) in
    after_brace (look (scope_of c.args.c)) c.args.s.now _ (search rules) (search rules) (c.past.ensures ∙ ap (drop 1) h)

pub returns-in_default-clause-text : goal.returns-in_default-clause-text
returns-in_default-clause-text c =
    let h = c.split_run-in_default.ensures.run simple_byte (λ b r p. search rules) in
    search (rules, h)

pub returns-in_default-clause-rest : goal.returns-in_default-clause-rest
returns-in_default-clause-rest c =
    let h = c.split_run-in_default.ensures.rest simple_byte (λ b r p. search rules) in
    search (rules, h)
