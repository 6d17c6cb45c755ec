use Rattle.std.proofs.Common.{Ok}
use Rattle.std.proofs.lemmas.Result.{err_from_is_err_and}
use Rattle.store.specs.Stores.{used_of}
use Rattle.graph.specs.Graphs.{graph_of}
use Rattle.reader.specs.Load.{load_of}
use Rattle.reader.specs.Loads.{whole_of, Loads}
use Rattle.reader.proofs.Laws.{meant, round}
use Rattle.reader.proofs.Wholes.{loads_none}
use Rattle.reader.proofs.loading.load.Goals as goal

pub returns-in_err-g : goal.returns-in_err-g
returns-in_err-g c =
    let p = err_from_is_err_and c.from_residual.result c.from_residual.ensures.1 in
    let s = c.args.manifest.now in
    let g = graph_of c.empty.result in
    let u = used_of c.clear.new.self in
    let h = loads_none whole_of c.in_err-g.field-0.0 g u (load_of s) c.in_err-g.ensures c.empty.ensures c.clear.ensures in
    let k : Loads c.from_residual.result g u (load_of s) = rw (p.1, p.2) h in
    record { says = k; means = meant c.from_residual.result g u s k; circle = round c.from_residual.result g u s k }

pub returns : goal.returns
returns c =
    let s = c.args.manifest.now in
    let g = graph_of c.in_ok-g.g in
    let u = used_of c.in_ok-g.s in
    let k : Loads (Ok tt) g u (load_of s) = c.in_ok-g.ensures in
    record { says = k; means = meant (Ok tt) g u s k; circle = round (Ok tt) g u s k }
