use Rattle.std.proofs.Common.{◌≡◌, ◌<◌, length, drop, ap, sym, ◌∙◌, arith, rules, tests}
use Rattle.std.proofs.lemmas.List.{length-drop}
use Rattle.std.proofs.lemmas.Bool.Decides.{nat_tests}
use Rattle.values.specs.Expand.{look, piece, plain}
use Rattle.values.specs.Scopes.{scope_of}
use Rattle.values.proofs.Runs.{no_run, some_run}
use Rattle.values.proofs.Pieces.{plain_run, at_dollar}
use Rattle.values.proofs.expand.part_at.Goals as goal

pub returns-then-is_empty : goal.returns-then-is_empty
returns-then-is_empty c =
    let s = c.args.s.now in
    let told = c.piece_at.ensures in
    let run = c.split_run.ensures.run plain (λ b r h. search (rules, tests)) in
    let rest = c.split_run.ensures.rest plain (λ b r h. search (rules, tests)) in
    let e : length c.split_run.result.0.now ≡ 0 = grind (arith, nat_tests) in
    let none = no_run plain s (sym (ap length run) ∙ e) in
    let after = c.past.ensures ∙ ap (drop 1) (rest ∙ ap (λ n. drop n s) none) in
    record {
      cut = at_dollar (look (scope_of c.args.c)) s c.past.result.now _ _ none after told.text told.rest;
      less = λ h. omega (arith, ap length told.rest, length-drop (piece (look (scope_of c.args.c)) c.past.result.now).taken c.past.result.now, ap length after, length-drop 1 s);
    }

pub returns : goal.returns
returns c =
    let s = c.args.s.now in
    let run = c.split_run.ensures.run plain (λ b r h. search (rules, tests)) in
    let rest = c.split_run.ensures.rest plain (λ b r h. search (rules, tests)) in
    let e : 0 < length c.split_run.result.0.now = grind (arith, nat_tests) in
    record {
      cut = rw (run, rest) (plain_run (look (scope_of c.args.c)) s);
      less = λ _. rw rest (some_run plain s (rw run at e));
    }
