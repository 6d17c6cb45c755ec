use Rattle.std.proofs.Common.{◌≡◌, ℕ, subst, arith}
use Rattle.host.specs.Steps.{BreaksBelow}
use Rattle.host.proofs.Pends.{quiet_more, none_pend}
use Rattle.host.proofs.Since.{breaks_more, later_breaks, unwritten_kept}
use Rattle.host.proofs.break_off_all.Goals as goal

pub loop-edge-preserved : goal.loop-edge-preserved
loop-edge-preserved g c =
    let before = g.B.Host.state c.loop-edge.host in
    let after = g.B.Host.state c.break_off.new.self in
    let r = c.break_off.result in
    let p = c.break_off.ensures.breaks in (
      breaks_more _ _ before r after c.loop-edge.invariant.0 p,
      quiet_more before c.loop-edge.edge r after (omega arith) (g.met.B.Host.lawful c.loop-edge.host).distinct p c.loop-edge.invariant.1,
    )

pub returns : goal.returns
returns g c =
    let end : c.loop-edge.edge ≡ 128 = omega arith in
    let before = g.B.Host.state c.args.host.now in
    let after = g.B.Host.state c.loop-edge.host in
    let all = subst (λ (n : ℕ). BreaksBelow n before after) end c.loop-edge.invariant.0 in
    record {
      each = all;
      none = none_pend after.pending (g.met.B.Host.lawful c.loop-edge.host).small (λ x h. c.loop-edge.invariant.1 x (omega arith));
      later = later_breaks 128 before after all;
      law = unwritten_kept;
    }
