use Rattle.std.proofs.Common.{not, take, drop, ap, ◌∙◌, rules, tests}
use Rattle.std.proofs.lemmas.Iterator.{YieldsList-from_slice}
use Rattle.std.proofs.lemmas.Iterator.Search.{position_from_yields_List}
use Rattle.values.proofs.Runs.{run_ends}
use Rattle.values.proofs.scan.split_run.Goals as goal

pub returns-clause-run : goal.returns-clause-run
returns-clause-run g c p t =
    let s = c.args.s.now in
    c.split_at.ensures.front ∙ ap (λ n. take n s) (run_ends p s _ _ (position_from_yields_List (λ b. not (p b)) _ _ _ c.position.ensures.ran (YieldsList-from_slice s cc) (λ x b q k. search (rules, tests, t))) c.unwrap_or.ensures)

pub returns-clause-rest : goal.returns-clause-rest
returns-clause-rest g c p t =
    let s = c.args.s.now in
    c.split_at.ensures.back ∙ ap (λ n. drop n s) (run_ends p s _ _ (position_from_yields_List (λ b. not (p b)) _ _ _ c.position.ensures.ran (YieldsList-from_slice s cc) (λ x b q k. search (rules, tests, t))) c.unwrap_or.ensures)
