use Rattle.std.proofs.Common.{◌≡◌, map, ap, ◌∙◌}
use Rattle.graph.specs.Data.{file_of}
use Rattle.graph.specs.Graphs.{graph_of, file_named}
use Rattle.graph.proofs.Places.{named_place}
use Rattle.graph.proofs.Lawful.{held, named_is}
use Rattle.graph.proofs.whole.Graph.find.Goals as goal

pub returns : goal.returns
returns c =
    let g = c.args.self.now in
    let path = c.args.path.now in
    let says : c.place_of.result ≡ file_named (graph_of g).files path =
    c.place_of.ensures ∙ named_place c.deref.result.now path ∙ ap (λ xs. file_named (map file_of xs) path) c.deref.ensures.value in
    record { says = says; law = named_is (graph_of g) (held g) path c.place_of.result says }
