use Rattle.std.proofs.Common.{◌∙◌}
use Rattle.graph.specs.Graphs.{graph_of}
use Rattle.graph.proofs.Lawful.{held}
use Rattle.graph.proofs.Questions.{same_action}
use Rattle.graph.proofs.whole.Graph.question.Goals as goal

pub returns-clause-tells : goal.returns-clause-tells
returns-clause-tells c =
    λ h d law a b q. same_action (graph_of c.args.self.now) h c.args.e d (held c.args.self.now) law a b (q ∙ c.text.ensures)
