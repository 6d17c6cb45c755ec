use Rattle.std.proofs.Common.{not, ◌==◌, [], vec_items, ap, ◌∙◌}
use Rattle.std.proofs.lemmas.Result.{err_from_is_err_and}
use Rattle.draft.specs.Drafts.{state_of}
use Rattle.reader.proofs.Calls.{named_seen, given_is, values_second, values_third, values_fourth, values_fifth, values_all}
use Rattle.reader.proofs.edge_values.values_of.Goals as goal

pub returns-in_err-description : goal.returns-in_err-description
returns-in_err-description c =
    let p = err_from_is_err_and c.from_residual-in_err-description.result c.from_residual-in_err-description.ensures.1 in
    rw (p.1, p.2)
    (values_second (state_of c.args.d.now) c.args.e _ (vec_items c.in_ok-command.command) [] [] [] c.in_ok-command.ensures c.in_err-description.ensures)

pub returns-in_err-pool : goal.returns-in_err-pool
returns-in_err-pool c =
    let p = err_from_is_err_and c.from_residual-in_err-pool.result c.from_residual-in_err-pool.ensures.1 in
    rw (p.1, p.2)
    (values_third (state_of c.args.d.now) c.args.e _ (vec_items c.in_ok-command.command) (vec_items c.in_ok-description.description) [] [] c.in_ok-command.ensures c.in_ok-description.ensures c.in_err-pool.ensures)

pub returns-in_err-restat : goal.returns-in_err-restat
returns-in_err-restat c =
    let p = err_from_is_err_and c.from_residual-in_err-restat.result c.from_residual-in_err-restat.ensures.1 in
    rw (p.1, p.2)
    (values_fourth (state_of c.args.d.now) c.args.e _ (vec_items c.in_ok-command.command) (vec_items c.in_ok-description.description) (vec_items c.in_ok-pool.pool) [] c.in_ok-command.ensures c.in_ok-description.ensures c.in_ok-pool.ensures c.in_err-restat.ensures)

pub returns-in_err-pool-2 : goal.returns-in_err-pool-2
returns-in_err-pool-2 c =
    let p = err_from_is_err_and c.from_residual-in_err-pool-2.result c.from_residual-in_err-pool-2.ensures.1 in
    let d = c.args.d.now in
    rw (p.1, p.2)
    (values_fifth (state_of d) c.args.e _ (vec_items c.in_ok-command.command) (vec_items c.in_ok-description.description) (vec_items c.in_ok-pool.pool) (vec_items c.in_ok-restat.restat) c.in_ok-command.ensures c.in_ok-description.ensures c.in_ok-pool.ensures c.in_ok-restat.ensures
    _ (named_seen (vec_items d.pools) c.deref-3.result.now (vec_items c.in_ok-pool.pool) c.deref-4.result.now c.deref-3.ensures.value c.deref-4.ensures.value) c.in_err-pool-2.ensures)

pub returns : goal.returns
returns c =
    values_all (state_of c.args.d.now) c.args.e (vec_items c.in_ok-command.command) (vec_items c.in_ok-description.description) (vec_items c.in_ok-pool.pool) (vec_items c.in_ok-restat.restat) c.in_ok-pool-2.pool (not c.is_empty.result) c.in_ok-command.ensures c.in_ok-description.ensures c.in_ok-pool.ensures c.in_ok-restat.ensures
    (c.in_ok-pool-2.ensures ∙ named_seen (vec_items c.args.d.now.pools) c.deref-3.result.now (vec_items c.in_ok-pool.pool) c.deref-4.result.now c.deref-3.ensures.value c.deref-4.ensures.value)
    (given_is (vec_items c.in_ok-restat.restat) c.is_empty.result (c.is_empty.ensures ∙ ap (λ n. n == 0) c.in_ok-restat.restat.ok.0))
