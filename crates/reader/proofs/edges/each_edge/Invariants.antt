use Rattle.std.proofs.Common.{◌≡◌, ◌-◌, length}
use Rattle.draft.specs.Drafts.{state_of}
use Rattle.reader.specs.Load.{each_edge}
use Rattle.reader.proofs.edges.each_edge.Given as goal

abbrev pub invariant-loop-e : goal.invariant-loop-e
invariant-loop-e g l =
    let n = length (state_of l.initial.d).edges in
    record {
      left : each_edge g.S.Step.step (n - l.e) l.e (state_of l.d) ≡ each_edge g.S.Step.step n 0 (state_of l.initial.d);
      long : length (state_of l.d).edges ≡ n;
    }
